use Rattle.std.proofs.Common.{ℕ, subst, refl, arith, inl, inr}
use Rattle.std.proofs.lemmas.Bool.{cases_lt}
use Rattle.nc_code.specs.Codes.{IsPairMds}
use Rattle.nc_mds.proofs.checking.first_after.Goals as goal

pub loop-b-preserved : goal.loop-b-preserved
loop-b-preserved c = λ d above below. elim (cases_lt d c.loop-b.b) [
  | inl before ↦ c.loop-b.invariant d above before
  | inr here ↦ subst (λ (x : ℕ). IsPairMds c.args.code.now c.args.a x) (omega arith) (c.in-None.ensures.none refl)
]
