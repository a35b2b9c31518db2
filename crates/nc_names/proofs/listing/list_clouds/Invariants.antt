use Rattle.nc_names.specs.Listing.{ListsBelow}
use Rattle.nc_names.proofs.listing.list_clouds.Given as goal

abbrev pub invariant-loop-cloud : goal.invariant-loop-cloud
invariant-loop-cloud g l = ListsBelow g.F.Fleet l.cloud l.fn.fleet l.fleet l.failed l.names.items
