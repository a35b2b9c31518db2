use Rattle.nc_write.proofs.LayingLaws.{row_finished, row_long}
use Rattle.nc_write.proofs.sealing.seal_rows.Goals as goal

pub finish_rows-requires-clause-zeros : goal.finish_rows-requires-clause-zeros
finish_rows-requires-clause-zeros g c κs within = row_long _ _ _ _ _ _ c.in_ok-laid.ensures.first

pub finish_rows-requires-clause-ones : goal.finish_rows-requires-clause-ones
finish_rows-requires-clause-ones g c κs within = row_long _ _ _ _ _ _ c.in_ok-laid.ensures.second

pub returns-clause-first : goal.returns-clause-first
returns-clause-first g c = row_finished _ _ _ _ _ _ _ c.in_ok-laid.ensures.first c.finish_rows.ensures.first

pub returns-clause-second : goal.returns-clause-second
returns-clause-second g c = row_finished _ _ _ _ _ _ _ c.in_ok-laid.ensures.second c.finish_rows.ensures.second
