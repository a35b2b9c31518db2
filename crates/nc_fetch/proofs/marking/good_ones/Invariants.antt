use Rattle.nc_fetch.specs.Founds.{NamesGood}
use Rattle.nc_fetch.proofs.marking.good_ones.Given as goal

abbrev pub invariant-loop-cloud : goal.invariant-loop-cloud
invariant-loop-cloud l = NamesGood l.founds l.cloud l.table
