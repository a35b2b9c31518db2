use Rattle.nc_lanes.proofs.Bits.{IsUnderway}
use Rattle.nc_lanes.proofs.lanes.products.Given as goal

abbrev pub invariant-loop : goal.invariant-loop
invariant-loop l = IsUnderway l.fn.a l.fn.b l.counter l.product l.multiple l.bits
