use Rattle.nc_write.specs.Laying.{AreLaidWrites}
use Rattle.nc_write.proofs.laying.lay_row.Given as goal

abbrev pub invariant-loop-placed : goal.invariant-loop-placed
invariant-loop-placed l = AreLaidWrites l.width l.name l.live l.row l.yielded l.jobs.items
