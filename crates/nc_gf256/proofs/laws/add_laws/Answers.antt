use lib.Bits.{xor_comm}
use Rattle.nc_gf256.proofs.laws.add_laws.Goals as goal

pub returns-clause-commutative : goal.returns-clause-commutative
returns-clause-commutative c = xor_comm c.args.a c.args.b
