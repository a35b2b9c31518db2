use Rattle.std.proofs.Common.{◌≡◌, ◌+◌, ◌<◌, ◌^◌, ◌&&◌, drop, nat_eq}
use Rattle.nc_cloud.specs.Fleet.{tally}
use Rattle.nc_memory.specs.Record.{counted}
use Rattle.nc_memory.proofs.record.given_by.Given as goal

abbrev pub invariant-loop-look : goal.invariant-loop-look
invariant-loop-look l =
    (counted (tally (λ x. nat_eq x.cloud l.cloud && x.gave_chunk) l.looks) ≡ counted (l.count + tally (λ x. nat_eq x.cloud l.cloud && x.gave_chunk) (drop l.look-index l.looks)))
    × (l.count < 2 ^ 64)
