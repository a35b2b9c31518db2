use Rattle.std.proofs.Common.{take}
use Rattle.std.specs.List.{All}
use Rattle.nc_mix.specs.Decoding.{HoldsBytes}
use Rattle.nc_mix.proofs.decoding.told_chunks.Given as goal

abbrev pub invariant-loop-piece : goal.invariant-loop-piece
invariant-loop-piece l = All HoldsBytes (take l.piece-index l.pieces)
