use Rattle.nc_download.proofs.Judged.{not_here, wrong_length}
use Rattle.nc_download.proofs.judging.judge_bytes.Goals as goal

pub returns-in_default : goal.returns-in_default
returns-in_default c = record { verdict = not_here _ _ _ c.open.ensures c.in_default.not-Payload; long = tt }

pub returns-then-payload-wanted-clause-verdict : goal.returns-then-payload-wanted-clause-verdict
returns-then-payload-wanted-clause-verdict c = wrong_length _ _ _ c.in-Payload.ensures c.if-payload-wanted.true
