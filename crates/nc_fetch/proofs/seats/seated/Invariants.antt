use Rattle.std.proofs.Common.{◌≡◌, All, map}
use Rattle.nc_name.specs.Keys.{Slots}
use Rattle.nc_fetch.specs.Seats.{seat_of}
use Rattle.nc_fetch.proofs.seats.seated.Given as goal

abbrev pub invariant-loop-ask : goal.invariant-loop-ask
invariant-loop-ask l = (l.seats.items ≡ map (seat_of l.width l.name l.live l.rows) l.yielded) × All (λ s. Slots s.wanted.key) l.seats.items
