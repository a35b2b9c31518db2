use Rattle.nc_state.proofs.RestingLaw.{chunks_stay}
use Rattle.nc_state.proofs.MetaLaws.{metas_keep_chunks}
use Rattle.nc_state.proofs.Keeping.{untouched_stays}
use Rattle.nc_state.proofs.laws.chunks_stay.Goals as goal

pub returns-clause-at_rest : goal.returns-clause-at_rest
returns-clause-at_rest c = chunks_stay

pub returns-clause-metas : goal.returns-clause-metas
returns-clause-metas c = metas_keep_chunks

pub returns-clause-untouched : goal.returns-clause-untouched
returns-clause-untouched c = untouched_stays
