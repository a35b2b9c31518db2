-- The text `mill` is a name.
use Rattle.std.proofs.Common.{◌≡◌, ◌<◌, ℕ, zero, suc, true, arith}
use Rattle.std.specs.Prelude.{slice_index}
use Rattle.nc_name.specs.Names.{RefusesName, is_control}
use Rattle.nc_name.specs.declared.name.NameFault.{NameFault}
use Rattle.nc_name.specs.declared.name.NameFault.TheVariants.{Empty, Long, Control}
use Rattle.nc_mill.specs.Mills.{mill_name}

no_control : (i : ℕ) → i < 4 → is_control (slice_index mill_name i) ≡ true → ⊥
no_control zero within is = absurd cc
no_control (suc zero) within is = absurd cc
no_control (suc (suc zero)) within is = absurd cc
no_control (suc (suc (suc zero))) within is = absurd cc
no_control (suc (suc (suc (suc i)))) within is = absurd (omega (arith, within))

pub is_not_refused : (fault : NameFault) → RefusesName mill_name fault → ⊥
is_not_refused Empty refused = omega (arith, refused)
is_not_refused (Long len) refused = omega (arith, refused.1)
is_not_refused (Control at) refused = no_control at refused.2.within refused.2.here
