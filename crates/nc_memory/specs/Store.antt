-- The objects of a memory cloud.
use Rattle.std.specs.Prelude.{ℕ, ◌≡◌, ◌≢◌, ◌<◌, Option, None, Some, List, find, length, option_map, slice_index_or}
use Rattle.nc_name.specs.declared.key.Key.{Key}
use Rattle.nc_memory.specs.declared.record.Torn.{Torn}
use Rattle.nc_memory.specs.declared.record.Torn.TheVariants.{Old, New, Gone, Broken}
use Rattle.nc_memory.specs.declared.store.Object.{Object}
use Rattle.nc_cloud.specs.Contents.{Store, key_eq}

-- the bytes under a key
abbrev pub stored : List Object → Store
stored objects key = option_map (λ o. o.bytes) (find (λ o. key_eq o.key key) objects)

-- the first object under a key stands there
pub record Found (objects : List Object) (key : Key) (i : ℕ) : Type 0 where
  pub within : i < length objects
  pub here : (d : Object) → (slice_index_or objects i d).key ≡ key
  pub before : (k : ℕ) (d : Object) → k < i → (slice_index_or objects k d).key ≢ key

-- what a refused put leaves takes no memory
abbrev pub TakesNoMemory : Option Torn → Type 0
TakesNoMemory None = ⊥
TakesNoMemory (Some Old) = Unit {0}
TakesNoMemory (Some New) = ⊥
TakesNoMemory (Some Gone) = Unit {0}
TakesNoMemory (Some Broken) = ⊥
