use Rattle.nc_cloud.proofs.SortLaws.{EachOnce}
use Rattle.nc_cloud.proofs.sorting.each_once.Given as goal

abbrev pub invariant-loop-i : goal.invariant-loop-i
invariant-loop-i l = EachOnce l.keys l.list l.i
