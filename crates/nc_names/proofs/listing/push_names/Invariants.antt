use Rattle.nc_names.proofs.Lists.{Pushed}
use Rattle.nc_names.proofs.listing.push_names.Given as goal

abbrev pub invariant-loop-key : goal.invariant-loop-key
invariant-loop-key l = Pushed l.keys l.key-index l.fn.names.items l.names.items
