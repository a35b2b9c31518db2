use Rattle.nc_state.proofs.MisplacedLaw.{none_misplaced}
use Rattle.nc_state.proofs.TopLaws.{none_disputed}
use Rattle.nc_state.proofs.laws.nothing_contradicts.Goals as goal

pub returns-clause-misplaced : goal.returns-clause-misplaced
returns-clause-misplaced c = none_misplaced

pub returns-clause-disputed : goal.returns-clause-disputed
returns-clause-disputed c = none_disputed
