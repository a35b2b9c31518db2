use Rattle.nc_fetch.proofs.Growing.{free_above, free_below, free_within}
use Rattle.nc_fetch.proofs.marking.is_free.Goals as goal

pub returns-then-cloud-at : goal.returns-then-cloud-at
returns-then-cloud-at c = free_below _ _ _ _ c.if-cloud-at.true

pub returns-then-next-cloud : goal.returns-then-next-cloud
returns-then-next-cloud c = free_above _ _ _ _ c.if-next-cloud.true

pub returns : goal.returns
returns c = free_within _ _ _ _ _ c.if-cloud-at.false c.if-next-cloud.false c.is_fine.ensures
