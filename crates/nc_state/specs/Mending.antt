-- What the repair of one cloud makes of a file's metadata.
use Rattle.std.specs.Prelude.{ℕ, ◌≡◌, ◌≢◌, ◌+◌, ◌*◌, [], slice_index_or, slice_set}
use Rattle.nc_code.specs.Parts.{PlanParts}
use Rattle.nc_code.specs.Codes.{repaired}
use Rattle.nc_meta.specs.declared.meta.Live.{Live}
use Rattle.nc_meta.specs.declared.meta.Meta.TheVariants as meta
use Rattle.nc_state.specs.Right.{free_slot}

-- The next generation, with the code that the plan makes; the chunks of cloud i are new, in the other slot, and the marks of all
-- other clouds stay.
pub record IsMended (i : ℕ) (plan : PlanParts) (old m : Live) : Type 0 where
  pub generation : m.generation ≡ old.generation + 1
  pub len : m.len ≡ old.len
  pub code : m.code ≡ repaired old.code i plan
  pub slots : m.slots ≡ slice_set old.slots i (free_slot (meta.Live old) i)
  pub marks : (k : ℕ) → k ≢ 2 * i → k ≢ 2 * i + 1 → slice_index_or m.marks k [] ≡ slice_index_or old.marks k []
