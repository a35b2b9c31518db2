use Rattle.std.proofs.Common.{arith}
use Rattle.nc_gf256.proofs.PowerLemmas.{has_inverse}
use Rattle.nc_gf256.proofs.laws.inverse.Goals as goal

pub returns : goal.returns
returns c = has_inverse c.args.a (omega arith)
