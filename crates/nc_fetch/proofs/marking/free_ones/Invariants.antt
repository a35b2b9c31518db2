use Rattle.nc_fetch.specs.Whys.{NamesFree}
use Rattle.nc_fetch.proofs.marking.free_ones.Given as goal

abbrev pub invariant-loop-cloud : goal.invariant-loop-cloud
invariant-loop-cloud l = NamesFree l.whys l.at l.next l.cloud l.table
