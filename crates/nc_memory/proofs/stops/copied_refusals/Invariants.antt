use Rattle.std.proofs.Common.{◌≡◌, take}
use Rattle.nc_memory.proofs.stops.copied_refusals.Given as goal

abbrev pub invariant-loop-refusal : goal.invariant-loop-refusal
invariant-loop-refusal l = l.copies.items ≡ take l.refusal-index l.refusals
