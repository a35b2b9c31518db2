use Rattle.std.proofs.Common.{arith}
use Rattle.nc_gf256.proofs.FieldLaws.{mul_comm, mul_assoc, one_mul, zero_mul_any}
use Rattle.nc_gf256.proofs.laws.mul_laws.Goals as goal

pub returns-clause-commutative : goal.returns-clause-commutative
returns-clause-commutative c = mul_comm c.args.a c.args.b (omega arith) (omega arith)

pub returns-clause-associative : goal.returns-clause-associative
returns-clause-associative c = mul_assoc c.args.a c.args.b c.args.c (omega arith) (omega arith) (omega arith)

pub returns-clause-one : goal.returns-clause-one
returns-clause-one c = one_mul c.args.a (omega arith)

pub returns-clause-zero : goal.returns-clause-zero
returns-clause-zero c = zero_mul_any c.args.a
