use Rattle.std.proofs.Common.{◌*◌}
use Rattle.nc_scrub.specs.Tables.{told, ListsTo}
use Rattle.nc_scrub.proofs.listing.listed.Given as goal

abbrev pub invariant-loop-cloud : goal.invariant-loop-cloud
invariant-loop-cloud l = ListsTo (told l.metas l.zeros l.ones) (3 * l.cloud) l.flaws
