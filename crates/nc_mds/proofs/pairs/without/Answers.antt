use Rattle.std.proofs.Common.{refl, arith}
use Rattle.nc_gf256.proofs.RowSums.{zeros_in_table}
use Rattle.nc_mds.proofs.pairs.without.Goals as goal

pub loop-i-init : goal.loop-i-init
loop-i-init c = record {
  long = refl;
  rows = λ k below. absurd (omega arith);
  below = λ j k _. zeros_in_table 16 16 j k;
}
