use Rattle.std.proofs.Common.{◌<◌, ℕ}
use Rattle.nc_settle.specs.Decisions.{HasFailed}
use Rattle.nc_settle.proofs.view.View.failing.Given as goal

abbrev pub invariant-loop-cloud : goal.invariant-loop-cloud
invariant-loop-cloud l = (c : ℕ) → c < l.cloud → HasFailed l.self c → ⊥
