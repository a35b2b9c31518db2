use Rattle.std.proofs.Common.{◌≡◌, ◌<◌, ◌++◌, All, map, take, drop, length}
use Rattle.nc_cloud.specs.Seats.{collected_erase}
use Rattle.nc_cloud.proofs.seats.collect_erases.Given as goal

abbrev pub invariant-loop-erase : goal.invariant-loop-erase
invariant-loop-erase g l =
    (l.erases ≡ map (collected_erase l.seats) (take l.erase-index l.initial.erases) ++ drop l.erase-index l.initial.erases)
    × All (λ e. e.cloud < length l.seats) l.erases
