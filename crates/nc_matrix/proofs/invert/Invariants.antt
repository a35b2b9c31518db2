use Rattle.nc_matrix.specs.Elimination.{IsStep}
use Rattle.nc_matrix.proofs.invert.Given as goal

abbrev pub invariant-loop-c : goal.invariant-loop-c
invariant-loop-c l = IsStep l.n l.c l.initial.rows l.rows
