use Rattle.std.proofs.Common.{◌≡◌, ◌++◌, [], slice_index_or, take}
use Rattle.nc_meta.specs.Parts.{each}
use Rattle.nc_meta.proofs.tables.put_rows.Given as goal

abbrev pub invariant-loop-i : goal.invariant-loop-i
invariant-loop-i g l = l.out.items ≡ l.fn.out.items ++ each l.i (λ j. take l.size (slice_index_or l.rows j []))
