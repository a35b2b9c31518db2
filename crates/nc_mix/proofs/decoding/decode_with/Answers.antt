use Rattle.std.proofs.Common.{◌≡◌, ◌∙◌, ap, take, arith}
use Rattle.std.proofs.lemmas.List.{take_at}
use Rattle.nc_mix.specs.Mixing.{lent}
use Rattle.nc_mix.specs.Decoding.{chunks_in, solved}
use Rattle.nc_mix.proofs.decoding.decode_with.Goals as goal

pub returns : goal.returns
returns g c =
    let sources : lent c.deref.result.now ≡ chunks_in c.args.pieces.now =
    ap lent c.deref.ensures.value ∙ c.in_ok-sources.ensures in
    c.from_vec.ensures
    ∙ c.truncate.ensures.items
    ∙ ap (take c.args.len) (take_at c.place_blocks.new.sums _ _ (omega arith)
    ∙ c.in_ok-place_blocks.ensures
    ∙ ap (λ xs. solved c.args.size xs c.args.rows.now) sources)
