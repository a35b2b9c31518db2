use Rattle.nc_mill.proofs.NameLaws.{is_not_refused}
use Rattle.nc_mill.proofs.milling.mill_name.Goals as goal

pub unreachable-requires : goal.unreachable-requires
unreachable-requires c = is_not_refused c.in-Err.field-0 c.in-Err.ensures.fault
