use Rattle.std.proofs.Common.{◌≡◌, take}
use Rattle.nc_memory.proofs.stops.copied_looks.Given as goal

abbrev pub invariant-loop-look : goal.invariant-loop-look
invariant-loop-look l = l.copies ≡ take l.look-index l.looks
