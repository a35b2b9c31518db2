use Rattle.std.proofs.Common.{refl}
use Rattle.nc_gf256.proofs.RowSums.{zeros_in_table}
use Rattle.nc_search.proofs.tests.plain_code.Goals as goal

pub loop-i-init : goal.loop-i-init
loop-i-init c = (refl, λ i k _. zeros_in_table 20 16 i k, λ i k _. zeros_in_table 20 16 i k)
