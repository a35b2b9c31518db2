use Rattle.nc_vault.proofs.ScrubLaws.{ScrubbedSoFar}
use Rattle.nc_vault.proofs.scrubbing.scrub.Given as goal

abbrev pub invariant-loop-done : goal.invariant-loop-done
invariant-loop-done g l = ScrubbedSoFar g.F.Fleet l.names.items l.done l.told l.fn.fleet l.fleet
