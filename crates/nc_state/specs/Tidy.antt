-- What is left of a name where nothing but what counts is left.
use Rattle.std.specs.Prelude.{ℕ, ◌≡◌, ◌<◌, ◌%◌, ◌==◌, Bool, true, false, Option, None, Some, List}
use Rattle.nc_name.specs.declared.key.Key.{Key}
use Rattle.nc_name.specs.declared.key.Key.TheVariants as key
use Rattle.nc_name.specs.Keys.{Slots, name_of}
use Rattle.nc_meta.specs.declared.meta.Meta.{Meta}
use Rattle.nc_meta.specs.Metas.{generation_of}
use Rattle.nc_cloud.specs.Contents.{Contents}
use Rattle.nc_state.specs.Right.{names_slot}

-- Where a name is settled on this metadata, the object under this key of cloud c counts: it is the metadata, or a chunk in the
-- slot that the metadata names there.
abbrev pub counts : Option Meta → ℕ → Key → Bool
counts None c place = false
counts (Some m) c (key.Meta name slot) = generation_of m % 2 == slot
counts (Some m) c (key.Chunk name slot row) = names_slot m c slot

-- Each object of the name counts. The slots and rows of keys are 0 or 1, so no others are spoken of.
pub record IsTidy (n : ℕ) (G : Contents) (name : List ℕ) (top : Option Meta) : Type 0 where
  pub all : (c : ℕ) (place : Key) (bytes : List ℕ) → c < n → name_of place ≡ name → Slots place → G c place ≡ Some bytes → counts top c place ≡ true
