use Rattle.nc_download.proofs.Judged.{other_length}
use Rattle.nc_download.proofs.at_once.judge_at_once.Goals as goal

pub returns-in_default-clause-verdict : goal.returns-in_default-clause-verdict
returns-in_default-clause-verdict g c = other_length _ _ c.in_default.ensures.none
