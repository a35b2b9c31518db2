use Rattle.nc_state.proofs.ChunkLaws.{only_right_is_sealed, right_is_marked, wrong_is_damaged}
use Rattle.nc_state.proofs.RightTests.{right_is_tested}
use Rattle.nc_state.proofs.laws.marks.Goals as goal

pub returns-clause-only : goal.returns-clause-only
returns-clause-only c = only_right_is_sealed

pub returns-clause-right : goal.returns-clause-right
returns-clause-right c = right_is_marked

pub returns-clause-test : goal.returns-clause-test
returns-clause-test c = right_is_tested

pub returns-clause-wrong : goal.returns-clause-wrong
returns-clause-wrong c = wrong_is_damaged
