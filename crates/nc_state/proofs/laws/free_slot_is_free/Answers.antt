use Rattle.nc_state.proofs.ChunkLaws.{free_slot_is_free}
use Rattle.nc_state.proofs.laws.free_slot_is_free.Goals as goal

pub returns : goal.returns
returns c = free_slot_is_free
