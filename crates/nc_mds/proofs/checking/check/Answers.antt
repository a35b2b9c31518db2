use Rattle.std.proofs.Common.{ℕ, ◌≡◌, subst, refl, arith, inl, inr}
use Rattle.std.proofs.lemmas.Bool.{cases_lt}
use Rattle.nc_code.specs.Codes.{IsPairMds}
use Rattle.nc_mds.proofs.Shown.{first_not_mds}
use Rattle.nc_mds.proofs.checking.check.Goals as goal

pub returns-in-Some-clause-mds : goal.returns-in-Some-clause-mds
returns-in-Some-clause-mds c = λ mds.
    absurd (first_not_mds c.args.code.now c.loop-a.a c.in-Some.found.0 c.in-Some.found.1 (record { first = c.in-Some.ensures.some; before = c.loop-a.invariant }) mds)

pub loop-a-preserved : goal.loop-a-preserved
loop-a-preserved c = λ i d below less within. elim (cases_lt i c.loop-a.a) [
  | inl before ↦ c.loop-a.invariant i d before less within
  | inr here ↦
      let at : c.loop-a.a ≡ i = omega arith in
      subst (λ (x : ℕ). IsPairMds c.args.code.now x d) at (c.in-None.ensures.none refl d (omega arith) within)
]
