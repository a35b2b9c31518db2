use Rattle.nc_settle.specs.MetaWrites.{named}
use Rattle.nc_download.proofs.ListLaws.{AreLooked}
use Rattle.nc_download.proofs.listing.find_all.Given as goal

abbrev pub invariant-loop-k : goal.invariant-loop-k
invariant-loop-k g l = AreLooked g.F.Fleet l.fn.names l.k (named l.fn.failed) (named l.failed) l.lens.items l.fn.fleet l.fleet
