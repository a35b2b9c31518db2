use Rattle.nc_settle.proofs.Judgements.{place_of_payload}
use Rattle.nc_settle.proofs.judging.judge_bytes.Goals as goal

pub returns-in-Payload-clause-is : goal.returns-in-Payload-clause-is
returns-in-Payload-clause-is c = place_of_payload _ _ _ _ _ c.in-Payload.payload.now _ c.in-Payload.ensures c.judge_payload.ensures
