use Rattle.std.proofs.Common.{◌≡◌, ◌++◌, take}
use Rattle.nc_vault.specs.Damage.{with_name}
use Rattle.nc_vault.proofs.scrubbing.push_flaws.Given as goal

abbrev pub invariant-loop-k : goal.invariant-loop-k
invariant-loop-k l = l.told ≡ l.fn.told ++ with_name l.name (take l.k l.flaws)
