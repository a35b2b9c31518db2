use Rattle.std.proofs.Common.{ℕ, subst}
use Rattle.nc_cloud.specs.Deciding.{AreAscending}
use Rattle.nc_cloud.specs.declared.fleet.Erase.{Erase}
use Rattle.nc_write.proofs.TidyLaws.{erasures_ascend}
use Rattle.nc_write.proofs.TidyTurns.{erased_as}
use Rattle.nc_write.proofs.tidying.erase.Goals as goal

pub erase_row-requires-clause-clouds : goal.erase_row-requires-clause-clouds
erase_row-requires-clause-clouds g c = subst (λ (n : ℕ). AreAscending (λ (e : Erase). e.cloud) n c.in_ok-erases.erases.items) c.width-width.ensures (erasures_ascend _ _ _ _ c.in_ok-erases.erases.items c.in_ok-erases.ensures)

pub returns : goal.returns
returns g c = erased_as c.in_ok-erases.ensures c.width-width.ensures c.erase_row.ensures.erased
