use Rattle.std.proofs.Common.{◌-◌, ◌+◌, vec_len}
use Rattle.nc_stream.specs.Input.{limit, IsReading}
use Rattle.nc_stream.proofs.input.read_all.Given as goal

abbrev pub invariant-loop-source : goal.invariant-loop-source
invariant-loop-source g l = IsReading g.S.Source.counts_exactly (g.S.Source.left l.initial.source) (g.S.Source.left l.source) (g.S.Source.faults l.initial.source) (g.S.Source.faults l.source) l.bytes.items

abbrev pub decreases-loop-source : goal.decreases-loop-source
decreases-loop-source g l = limit + 2 - vec_len l.bytes
