use Rattle.nc_state.proofs.ShownLaw.{seen_is_shown, unlisted_is_shown}
use Rattle.nc_state.proofs.TopLaws.{top_is_shown}
use Rattle.nc_state.proofs.laws.seen_is_shown.Goals as goal

pub returns-clause-seen : goal.returns-clause-seen
returns-clause-seen c = seen_is_shown

pub returns-clause-unlisted : goal.returns-clause-unlisted
returns-clause-unlisted c = unlisted_is_shown

pub returns-clause-top : goal.returns-clause-top
returns-clause-top c = top_is_shown
