use Rattle.nc_vault.proofs.RowLaws.{AreRows}
use Rattle.nc_vault.proofs.rows.rows_of.Given as goal

abbrev pub invariant-loop-k : goal.invariant-loop-k
invariant-loop-k l = AreRows l.names l.lens l.k l.rows
