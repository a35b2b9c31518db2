use Rattle.std.proofs.Common.{◌≡◌, ◌*◌, ◌∙◌, ℕ, List, ap, sym, subst}
use Rattle.std.specs.Result.{IfOk}
use Rattle.nc_native.specs.Native.{natives_of, native_len, AllLong}
use Rattle.nc_mix.specs.Mixing.{lent, chunks_of, AreChunksOf}
use Rattle.nc_mix.proofs.encoding.encode.Goals as goal

pub encode_lent-requires-clause-long : goal.encode_lent-requires-clause-long
encode_lent-requires-clause-long g c κs alive =
    let sources : lent c.deref.result.now ≡ c.args.natives.now = ap lent c.deref.ensures.value ∙ c.in_ok-sources.ensures ∙ c.items.ensures in
    subst (λ (ns : List (List ℕ)). AllLong (native_len ns) ns) (sym sources) c.requires.long

pub returns-clause-chunks : goal.returns-clause-chunks
returns-clause-chunks g c =
    let sources : lent c.deref.result.now ≡ c.args.natives.now = ap lent c.deref.ensures.value ∙ c.in_ok-sources.ensures ∙ c.items.ensures in
    subst (λ (ns : List (List ℕ)). IfOk c.encode_lent.result (λ (chunks : List (List ℕ)). chunks ≡ chunks_of (2 * c.args.code.now.width) c.args.code.now.rows ns)) sources c.encode_lent.ensures.chunks

pub returns-clause-of_file : goal.returns-clause-of_file
returns-clause-of_file g c =
    let sources : lent c.deref.result.now ≡ c.args.natives.now = ap lent c.deref.ensures.value ∙ c.in_ok-sources.ensures ∙ c.items.ensures in
    subst (λ (ns : List (List ℕ)). IfOk c.encode_lent.result (λ (chunks : List (List ℕ)). (v : List ℕ) → ns ≡ natives_of v c.args.code.now.width → AreChunksOf c.args.code.now v chunks)) sources
    c.encode_lent.ensures.of_file
