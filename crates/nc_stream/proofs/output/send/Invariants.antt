use Rattle.std.proofs.Common.{length}
use Rattle.nc_stream.specs.Output.{IsSending}
use Rattle.nc_stream.proofs.output.send.Given as goal

abbrev pub invariant-loop-rest : goal.invariant-loop-rest
invariant-loop-rest g l = IsSending g.K.Sink.counts_exactly (g.K.Sink.written l.initial.out) (g.K.Sink.written l.out) (g.K.Sink.faults l.initial.out) (g.K.Sink.faults l.out) l.bytes l.rest

abbrev pub decreases-loop-rest : goal.decreases-loop-rest
decreases-loop-rest g l = length l.rest
