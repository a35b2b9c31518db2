use Rattle.std.proofs.Common.{refl, arith}
use Rattle.nc_gf256.proofs.RowSums.{zeros_everywhere}
use Rattle.nc_mds.proofs.relations.relation.Goals as goal

pub loop-i-init : goal.loop-i-init
loop-i-init c = record {
  long = refl;
  done = λ i lt. absurd (omega arith);
  ahead = λ i le. zeros_everywhere 20 i;
}
