use Rattle.nc_mix.proofs.Squares.{IsFilled}
use Rattle.nc_mix.proofs.decoding.square_of.Given as goal

abbrev pub invariant-loop-p : goal.invariant-loop-p
invariant-loop-p l = IsFilled l.code l.pieces l.p l.cells
