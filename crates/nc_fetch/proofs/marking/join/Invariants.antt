use Rattle.std.proofs.Common.{◌≡◌, ◌++◌, drop}
use Rattle.nc_cloud.specs.Rounds.{some_row}
use Rattle.nc_fetch.specs.Whys.{piece_at}
use Rattle.nc_fetch.proofs.marking.join.Given as goal

abbrev pub invariant-loop-cloud : goal.invariant-loop-cloud
invariant-loop-cloud l =
    (l.zeros.items ≡ drop l.cloud l.fn.zeros.items) × (l.ones.items ≡ drop l.cloud l.fn.ones.items)
    × (l.pieces.items ≡ l.fn.pieces.items ++ some_row (piece_at l.fn.zeros.items l.fn.ones.items) 0 l.cloud)
