use Rattle.std.proofs.Common.{◌≡◌, ◌≤◌}
use Rattle.nc_names.specs.Listing.{named}
use Rattle.nc_state.specs.Clouds.{count_of}
use Rattle.nc_vault.proofs.bearing.count.Given as goal

abbrev pub invariant-loop-cloud : goal.invariant-loop-cloud
invariant-loop-cloud l = (l.count ≡ count_of l.cloud (named l.failed)) × (l.count ≤ l.cloud)
