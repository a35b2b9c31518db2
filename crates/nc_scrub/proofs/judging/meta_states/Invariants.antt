use Rattle.nc_scrub.specs.Tables.{AreMetaStates}
use Rattle.nc_scrub.proofs.judging.meta_states.Given as goal

abbrev pub invariant-loop-cloud : goal.invariant-loop-cloud
invariant-loop-cloud l = AreMetaStates l.view l.top l.cloud l.table
