use Rattle.std.proofs.Common.{◌<◌}
use Rattle.std.specs.List.{All}
use Rattle.nc_mix.specs.Decoding.{IsLong}
use Rattle.nc_mix.proofs.tests.pieces_without.Given as goal

abbrev pub invariant-loop-cloud : goal.invariant-loop-cloud
invariant-loop-cloud l = All (λ x. x.cloud < l.width) l.pieces.items × All (IsLong l.size) l.pieces.items
