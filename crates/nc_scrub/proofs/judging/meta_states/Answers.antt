use Rattle.std.proofs.Common.{arith}
use Rattle.nc_scrub.proofs.TableLaws.{meta_more}
use Rattle.nc_scrub.proofs.judging.meta_states.Goals as goal

pub loop-cloud-preserved : goal.loop-cloud-preserved
loop-cloud-preserved c = meta_more _ _ _ _ _ c.loop-cloud.invariant (omega arith) c.meta_state.ensures
