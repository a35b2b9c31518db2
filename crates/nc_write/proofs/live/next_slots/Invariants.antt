use Rattle.std.proofs.Common.{◌≡◌, ◌<◌, ◌≤◌, ℕ, length, slice_index}
use Rattle.nc_write.specs.Putting.{slot_after}
use Rattle.nc_write.proofs.live.next_slots.Given as goal

abbrev pub invariant-loop-cloud : goal.invariant-loop-cloud
invariant-loop-cloud l = (length l.slots ≡ 10) × ((c : ℕ) → c < l.cloud → slice_index l.slots c ≡ slot_after l.top c) × ((c : ℕ) → l.cloud ≤ c → slice_index l.slots c ≡ 0)
