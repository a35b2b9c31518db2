use Rattle.nc_history.proofs.GetLaws.{never_put_has_no_file, none_done_is_unfinished}
use Rattle.nc_history.proofs.laws.never_put_has_no_file.Goals as goal

pub returns-clause-unfinished : goal.returns-clause-unfinished
returns-clause-unfinished c = none_done_is_unfinished

pub returns-clause-none : goal.returns-clause-none
returns-clause-none c = never_put_has_no_file
