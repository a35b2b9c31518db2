use Rattle.std.proofs.Common.{◌≡◌, take}
use Rattle.nc_memory.specs.Shelf.{after_steps, shelved}
use Rattle.nc_memory.proofs.shelf.shelve_steps.Given as goal

abbrev pub invariant-loop-i : goal.invariant-loop-i
invariant-loop-i l = shelved l.shelf ≡ after_steps (take l.i l.steps) (shelved l.initial.shelf)
