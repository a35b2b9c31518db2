use Rattle.std.proofs.Common.{◌≡◌, ◌++◌, ◌∙◌, ℕ, List, drop, length, map, sym, take, arith}
use Rattle.std.proofs.lemmas.List.{take_at}
use Rattle.std.proofs.lemmas.Result.{IfOk-weaker}
use Rattle.nc_mix.specs.declared.sum.Sum.{Sum}
use Rattle.nc_mix.specs.Mixing.{lent, mixed}
use Rattle.nc_mix.specs.Sums.{kept}
use Rattle.nc_mix.proofs.Extended.{all_made}
use Rattle.nc_mix.proofs.sums.mix_rows.Goals as goal

pub returns : goal.returns
returns g c =
    let sums : List Sum = c.add_blocks.new.sums in
    let rest : List Sum = drop (length sums) c.in_ok-sums.sums.items in
    IfOk-weaker c.finish.result
    (λ (chunks : List (List ℕ)). take c.in_ok-sums.sums.len (sums ++ rest) ≡ map kept chunks)
    (λ (chunks : List (List ℕ)).
    chunks ≡ map (λ row. mixed c.args.size row (lent c.args.sources.now)) c.args.rows.now)
    (λ chunks is.
    all_made c.args.size c.args.rows.now (lent c.args.sources.now) sums chunks
    c.in_ok-add_blocks.ensures
    (sym (take_at sums rest c.in_ok-sums.sums.len (omega arith)) ∙ is))
    c.finish.ensures
