use Rattle.nc_state.proofs.CommandLaws.{metas_written}
use Rattle.nc_state.proofs.laws.metas_written.Goals as goal

pub returns : goal.returns
returns c = metas_written
