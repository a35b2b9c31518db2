use Rattle.nc_settle.specs.Tops.{IsTopSoFar}
use Rattle.nc_settle.proofs.view.View.top.Given as goal

abbrev pub invariant-loop-cloud : goal.invariant-loop-cloud
invariant-loop-cloud l = IsTopSoFar l.self l.cloud l.top
