use Rattle.nc_history.proofs.RepairLaws.{repair_keeps_files, repaired_is_good, repaired_is_whole}
use Rattle.nc_history.proofs.laws.repair_leaves.Goals as goal

pub returns-clause-good : goal.returns-clause-good
returns-clause-good c = repaired_is_good

pub returns-clause-whole : goal.returns-clause-whole
returns-clause-whole c = repaired_is_whole

pub returns-clause-files : goal.returns-clause-files
returns-clause-files c = repair_keeps_files
