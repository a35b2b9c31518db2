use Rattle.std.proofs.Common.{ℕ, ◌<◌}
use Rattle.nc_code.specs.Codes.{IsPairMds}
use Rattle.nc_mds.proofs.checking.first_after.Given as goal

abbrev pub invariant-loop-b : goal.invariant-loop-b
invariant-loop-b l = (d : ℕ) → l.a < d → d < l.b → IsPairMds l.code l.a d
