use Rattle.std.proofs.Common.{◌≤◌, ◌+◌, length, map, true}
use Rattle.nc_run.specs.Items.{lines_of}
use Rattle.nc_run.specs.Items.Item.{InLine}
use Rattle.nc_run.proofs.CourseLaws.{SoFar}
use Rattle.nc_run.proofs.batching.run_lines.Given as goal

abbrev pub invariant-loop-rest : goal.invariant-loop-rest
invariant-loop-rest g l =
    SoFar g.F.Fleet g.K.Sink g.W.Watch (g.F.Fleet.clouds l.fn.fleet) true (map (InLine l.fn.setting) (lines_of l.fn.input))
    (map (InLine l.fn.setting) (lines_of l.rest)) l.fn.fleet l.fleet l.fn.out l.out l.fn.watch l.watch l.count
    × (l.count + length l.rest ≤ length l.fn.input)

abbrev pub decreases-loop-rest : goal.decreases-loop-rest
decreases-loop-rest g l = length l.rest
