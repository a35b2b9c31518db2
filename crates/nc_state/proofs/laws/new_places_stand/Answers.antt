use Rattle.nc_state.proofs.ChunkLaws.{new_places_stand, nothing_to_be_right}
use Rattle.nc_state.proofs.laws.new_places_stand.Goals as goal

pub returns-clause-places : goal.returns-clause-places
returns-clause-places c = new_places_stand

pub returns-clause-nothing : goal.returns-clause-nothing
returns-clause-nothing c = nothing_to_be_right
