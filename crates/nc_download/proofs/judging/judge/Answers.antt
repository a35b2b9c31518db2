use Rattle.nc_download.proofs.Judged.{long_broken}
use Rattle.nc_download.proofs.judging.judge.Goals as goal

pub returns-in_default : goal.returns-in_default
returns-in_default c = record { verdict = long_broken _ _ c.requires.seen c.in_default.not-Bytes c.in_default.not-Absent; long = tt; given = tt }
