use Rattle.std.proofs.Common.{◌≡◌, ◌∙◌, ℕ, List, ap, sym, subst, length}
use Rattle.std.proofs.lemmas.Result.{IfOk-weaker}
use Rattle.nc_native.specs.Native.{natives_of, native_len, AllLong}
use Rattle.nc_mix.specs.Mixing.{lent, AreChunksOf}
use Rattle.nc_native.proofs.Pieces.{natives_count, all_long}
use Rattle.nc_mix.proofs.encoding.encode_file.Goals as goal

pub encode_lent-requires-clause-count : goal.encode_lent-requires-clause-count
encode_lent-requires-clause-count g c κs alive =
    let sources : lent c.deref.result.now ≡ natives_of c.args.bytes.now c.args.code.now.width =
    ap lent c.deref.ensures.value ∙ c.in_ok-sources.ensures ∙ ap (natives_of c.args.bytes.now) c.width-2.ensures.width in
    ap length sources ∙ natives_count c.args.bytes.now c.args.code.now.width

pub encode_lent-requires-clause-long : goal.encode_lent-requires-clause-long
encode_lent-requires-clause-long g c κs alive =
    let sources : lent c.deref.result.now ≡ natives_of c.args.bytes.now c.args.code.now.width =
    ap lent c.deref.ensures.value ∙ c.in_ok-sources.ensures ∙ ap (natives_of c.args.bytes.now) c.width-2.ensures.width in
    subst (λ (ns : List (List ℕ)). AllLong (native_len ns) ns) (sym sources) (all_long c.args.bytes.now c.args.code.now.width c.width.ensures.kept.wide)

pub returns-clause-of_file : goal.returns-clause-of_file
returns-clause-of_file g c =
    let sources : lent c.deref.result.now ≡ natives_of c.args.bytes.now c.args.code.now.width =
    ap lent c.deref.ensures.value ∙ c.in_ok-sources.ensures ∙ ap (natives_of c.args.bytes.now) c.width-2.ensures.width in
    IfOk-weaker c.encode_lent.result (λ (chunks : List (List ℕ)). (v : List ℕ) → lent c.deref.result.now ≡ natives_of v c.args.code.now.width → AreChunksOf c.args.code.now v chunks)
    (AreChunksOf c.args.code.now c.args.bytes.now)
    (λ chunks made. made c.args.bytes.now sources)
    c.encode_lent.ensures.of_file
