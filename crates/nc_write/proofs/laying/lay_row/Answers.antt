use Rattle.nc_write.proofs.LayingLaws.{laid_more}
use Rattle.nc_write.proofs.laying.lay_row.Goals as goal

pub loop-placed-preserved : goal.loop-placed-preserved
loop-placed-preserved c = laid_more _ _ _ _ _ _ _ _ c.loop-placed.invariant c.in_ok-push_laid.ensures.added c.in_ok-push_laid.ensures.fits
