use Rattle.std.proofs.Common.{◌≡◌, take}
use Rattle.nc_mix.specs.Mixing.{lent}
use Rattle.nc_mix.proofs.encoding.lend.Given as goal

abbrev pub invariant-loop-blob : goal.invariant-loop-blob
invariant-loop-blob l = lent l.list.items ≡ take l.blob-index l.blobs
