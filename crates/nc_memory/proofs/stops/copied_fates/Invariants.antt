use Rattle.std.proofs.Common.{◌≡◌, take}
use Rattle.nc_memory.proofs.stops.copied_fates.Given as goal

abbrev pub invariant-loop-fate : goal.invariant-loop-fate
invariant-loop-fate l = l.copies ≡ take l.fate-index l.fates
