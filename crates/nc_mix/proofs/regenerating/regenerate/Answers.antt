use Rattle.std.proofs.Common.{◌≡◌, ◌∙◌, ℕ, List, [], ◌∷◌, ap, get_or, length, sym, arith}
use Rattle.std.proofs.lemmas.List.{get_or_default}
use Rattle.nc_native.specs.Native.{native_len}
use Rattle.nc_mix.specs.Mixing.{lent, mixed}
use Rattle.nc_mix.proofs.Regenerated.{made_chunk, repairs_file}
use Rattle.nc_mix.proofs.regenerating.regenerate.Goals as goal

pub returns-clause-pair : goal.returns-clause-pair
returns-clause-pair g c =
    let sources : List (List ℕ) = lent c.deref.result.now in
    let same : sources ≡ c.args.fetched.now = ap lent c.deref.ensures.value ∙ c.in_ok-sources.ensures in
    let size : ℕ = length c.bytes-size.result.now in
    let long : size ≡ native_len c.args.fetched.now =
    ap length (c.bytes-size.ensures ∙ c.index-fetched-0.is ∙ get_or_default c.args.fetched.now 0 c.index-fetched-0.result [] (omega (arith, c.requires.wide, c.requires.count))) in
    let zeroth : List ℕ = c.factors_of-zeroth.result in
    let first : List ℕ = c.factors_of-first.result in
    let both : c.pair_of.result.zero ∷ c.pair_of.result.one ∷ [] ≡ mixed size zeroth sources ∷ mixed size first sources ∷ [] = sym c.pair_of.ensures ∙ c.in_ok-mix_rows.ensures in
    record {
      zero = made_chunk c.args.plan.now c.args.lost 0 size c.args.fetched.now sources zeroth c.pair_of.result.zero same long c.factors_of-zeroth.ensures (ap (λ xs. get_or xs 0 []) both);
      one = made_chunk c.args.plan.now c.args.lost 1 size c.args.fetched.now sources first c.pair_of.result.one same long c.factors_of-first.ensures (ap (λ xs. get_or xs 1 []) both);
    }

pub returns-clause-of_file : goal.returns-clause-of_file
returns-clause-of_file g c =
    repairs_file c.args.plan.now c.args.lost c.args.width c.args.fetched.now _ c.told_plan.ensures c.requires.lost c.requires.count (returns-clause-pair g c)
