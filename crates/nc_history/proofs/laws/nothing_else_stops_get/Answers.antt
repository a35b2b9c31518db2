use Rattle.nc_history.proofs.GetLaws.{nothing_else_stops_get}
use Rattle.nc_history.proofs.laws.nothing_else_stops_get.Goals as goal

pub returns : goal.returns
returns c = nothing_else_stops_get
