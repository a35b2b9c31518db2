use Rattle.std.proofs.Common.{refl, arith}
use Rattle.nc_gf256.proofs.RowSums.{zeros_in_table}
use Rattle.nc_mds.proofs.relations.minor.Goals as goal

pub loop-j-init : goal.loop-j-init
loop-j-init c = record {
  long = refl;
  done = λ j k below. absurd (omega arith);
  below = λ j k _. zeros_in_table 16 16 j k;
}
