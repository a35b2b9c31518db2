use Rattle.std.proofs.Common.{ℕ, ◌<◌}
use Rattle.nc_code.specs.Codes.{IsPairMds}
use Rattle.nc_mds.proofs.checking.check.Given as goal

abbrev pub invariant-loop-a : goal.invariant-loop-a
invariant-loop-a l = (c d : ℕ) → c < l.a → c < d → d < l.code.width → IsPairMds l.code c d
