-- The clouds of a fleet that serves them side by side.
use Rattle.std.specs.Prelude.{List}
use Rattle.nc_cloud.specs.declared.fan.Fanned.{Fanned}
use Rattle.nc_cloud.specs.Seats.{clouds_in}

abbrev pub clouds_of : {C R : Type 0} → Fanned C R → List C
clouds_of fleet = clouds_in fleet.seats.items
