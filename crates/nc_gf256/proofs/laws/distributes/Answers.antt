use Rattle.nc_gf256.proofs.FieldLaws.{mul-xor_right}
use Rattle.nc_gf256.proofs.laws.distributes.Goals as goal

pub returns : goal.returns
returns c = mul-xor_right c.args.a c.args.b c.args.c
