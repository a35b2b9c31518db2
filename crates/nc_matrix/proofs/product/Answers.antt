use Rattle.std.proofs.Common.{refl, arith}
use Rattle.nc_matrix.proofs.TableLemmas.{zero_table}
use Rattle.nc_matrix.proofs.product.Goals as goal

pub loop-i-init : goal.loop-i-init
loop-i-init c = record {
  long = refl;
  done = λ i k lt. absurd (omega arith);
  right = λ i k le. zero_table i k;
  ahead = λ i k le. zero_table i k;
}
