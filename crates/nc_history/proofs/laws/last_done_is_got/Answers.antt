use Rattle.nc_history.proofs.GetLaws.{last_done_is_got}
use Rattle.nc_history.proofs.laws.last_done_is_got.Goals as goal

pub returns : goal.returns
returns c = last_done_is_got
