use Rattle.std.proofs.Common.{◌≡◌, ℕ, ◌<◌, true}
use Rattle.nc_code.specs.Tries.{is_bare}
use Rattle.nc_nextloss.specs.GoodCodes.{IsBlank}
use Rattle.nc_nextloss.proofs.good.is_bare.Given as goal

abbrev pub invariant-loop-t : goal.invariant-loop-t
invariant-loop-t l = (k : ℕ) → k < l.t → is_bare l.width l.lost k ≡ true → IsBlank l.plan k
