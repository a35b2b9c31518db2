use Rattle.std.proofs.Common.{◌≡◌, take}
use Rattle.nc_mix.specs.Mixing.{lent}
use Rattle.nc_mix.specs.Decoding.{chunks_in}
use Rattle.nc_mix.proofs.decoding.lend_pieces.Given as goal

abbrev pub invariant-loop-piece : goal.invariant-loop-piece
invariant-loop-piece l = lent l.list.items ≡ chunks_in (take l.piece-index l.pieces)
