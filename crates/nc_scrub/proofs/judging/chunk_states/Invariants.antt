use Rattle.nc_scrub.specs.Tables.{AreChunkStates}
use Rattle.nc_scrub.proofs.judging.chunk_states.Given as goal

abbrev pub invariant-loop-cloud : goal.invariant-loop-cloud
invariant-loop-cloud l = AreChunkStates l.width l.name l.live l.row l.asks l.cloud l.table
