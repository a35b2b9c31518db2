use Rattle.nc_state.proofs.CommandLaws.{entries_agree}
use Rattle.nc_state.proofs.laws.entries_agree.Goals as goal

pub returns : goal.returns
returns c = entries_agree
