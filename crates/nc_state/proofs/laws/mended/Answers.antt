use Rattle.nc_state.proofs.ChunkLaws.{mended_is_free, mended_is_valid, mended_keeps_chunks}
use Rattle.nc_state.proofs.laws.mended.Goals as goal

pub returns-clause-keeps : goal.returns-clause-keeps
returns-clause-keeps c = mended_keeps_chunks

pub returns-clause-free : goal.returns-clause-free
returns-clause-free c = mended_is_free

pub returns-clause-valid : goal.returns-clause-valid
returns-clause-valid c = mended_is_valid
