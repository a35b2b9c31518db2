use Rattle.std.proofs.Common.{◌≡◌, ◌+◌, ◌<◌, length}
use Rattle.std.specs.List.{All, AllPairs}
use Rattle.nc_mix.specs.Decoding.{IsBefore, IsLong}
use Rattle.nc_bench.proofs.mixing.last_pieces.Given as goal

abbrev pub invariant-loop-cloud : goal.invariant-loop-cloud
invariant-loop-cloud l =
    (length l.pieces.items + 2 ≡ l.cloud)
    × AllPairs IsBefore l.pieces.items
    × All (λ x. x.cloud < l.cloud) l.pieces.items
    × All (IsLong l.size) l.pieces.items
