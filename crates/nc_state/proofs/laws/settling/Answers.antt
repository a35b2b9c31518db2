use Rattle.nc_state.proofs.CommandLaws.{nothing_made_yet, nothing_to_settle, settled_is_top, settling}
use Rattle.nc_state.proofs.laws.settling.Goals as goal

pub returns-clause-nothing_yet : goal.returns-clause-nothing_yet
returns-clause-nothing_yet c = nothing_made_yet

pub returns-clause-images : goal.returns-clause-images
returns-clause-images c = settling

pub returns-clause-nothing : goal.returns-clause-nothing
returns-clause-nothing c = nothing_to_settle

pub returns-clause-top : goal.returns-clause-top
returns-clause-top c = settled_is_top
