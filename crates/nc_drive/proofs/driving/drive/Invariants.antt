use Rattle.nc_drive.proofs.DriveLaws.{SoFar}
use Rattle.nc_drive.proofs.driving.drive.Given as goal

abbrev pub invariant-loop-event : goal.invariant-loop-event
invariant-loop-event g l = SoFar l.events l.event-index l.fn.fleet l.fleet l.outcomes
