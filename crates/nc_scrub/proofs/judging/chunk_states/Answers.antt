use Rattle.std.proofs.Common.{arith}
use Rattle.nc_scrub.proofs.TableLaws.{chunk_more}
use Rattle.nc_scrub.proofs.judging.chunk_states.Goals as goal

pub loop-cloud-preserved : goal.loop-cloud-preserved
loop-cloud-preserved c = chunk_more _ _ _ _ _ _ _ _ c.loop-cloud.invariant (omega arith) c.state_of_ask.ensures
