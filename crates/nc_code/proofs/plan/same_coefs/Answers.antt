use Rattle.std.proofs.Common.{refl}
use Rattle.std.proofs.lemmas.Bool.Decides.{Decides-eqb}
use Rattle.std.proofs.lemmas.Slice.Eq.{slice_eq-Decides}
use Rattle.nc_code.proofs.plan.same_coefs.Goals as goal

pub returns : goal.returns
returns c = slice_eq-Decides (λ x y. slice_eq-Decides Decides-eqb x y _ refl) _ _ _ c.eq.ensures
