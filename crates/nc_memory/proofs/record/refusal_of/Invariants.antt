use Rattle.std.proofs.Common.{◌≡◌, ◌+◌, drop}
use Rattle.nc_memory.specs.Record.{refused_at}
use Rattle.nc_memory.proofs.record.refusal_of.Given as goal

abbrev pub invariant-loop-refusal : goal.invariant-loop-refusal
invariant-loop-refusal l = refused_at l.refusals (l.entries + l.i + 1) ≡ refused_at (drop l.refusal-index l.refusals) (l.entries + l.i + 1)
