use Rattle.std.proofs.Common.{◌<◌, ℕ}
use Rattle.nc_settle.specs.Decisions.{AgreesOn}
use Rattle.nc_settle.proofs.view.View.conflict_with.Given as goal

abbrev pub invariant-loop-b : goal.invariant-loop-b
invariant-loop-b l = (c : ℕ) → c < l.b → AgreesOn l.self c l.meta
