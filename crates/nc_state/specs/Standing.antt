-- Vaults that stand.
use Rattle.std.specs.Prelude.{ℕ, ◌≡◌, ◌<◌, ◌≤◌, ◌%◌, ◌⊎◌, Some, List, AllPairs, Contains, IsSome, if◌then◌else◌}
use Rattle.std.specs.Cmp.Lexicographic.{slice_cmp}
use Rattle.std.specs.Ordering.{nat_cmp}
use Rattle.std.specs.declared.cmp.Ordering.TheVariants.{Less}
use Rattle.nc_name.specs.Keys.{name_of}
use Rattle.std.specs.Str.{bytes_eq}
use Rattle.nc_name.specs.declared.key.Key.{Key}
use Rattle.nc_name.specs.declared.key.Key.TheVariants as key
use Rattle.nc_name.specs.Names.{IsName}
use Rattle.nc_frame.specs.Frames.{AreTorn, Whole}
use Rattle.nc_meta.specs.declared.meta.Meta.{Meta}
use Rattle.nc_meta.specs.Metas.{IsMeta, generation_of}
use Rattle.nc_cloud.specs.Contents.{Contents}
use Rattle.nc_state.specs.Clouds.{Clouds, count_of}
use Rattle.nc_state.specs.Versions.Version.{Never}
use Rattle.nc_state.specs.Holding.{HoldsVersion, meta_object}
use Rattle.nc_state.specs.Right.{RightOn}
use Rattle.nc_state.specs.Entries.{Entry, HasEntry}
use Rattle.nc_state.specs.Entries.Entry.{Rest, Opened}

-- what each name stands for
abbrev pub Entries : Type 0
Entries = List ℕ → Entry

-- no name is known
abbrev pub no_entry : Entries
no_entry name = Rest Never

abbrev pub with_entry : Entries → List ℕ → Entry → Entries
with_entry S name e other = if bytes_eq other name then e else S other

-- Each object is whole or torn.
abbrev pub WholeOrTorn : ℕ → Contents → Type 0
WholeOrTorn n F = (c : ℕ) (place : Key) (bytes : List ℕ) → c < n → F c place ≡ Some bytes → Whole bytes ⊎ AreTorn bytes

-- What is whole under a key of metadata is a meta of this name, sealed for its cloud, in the slot of its generation.
abbrev pub MetasSealed : ℕ → Contents → Type 0
MetasSealed n F = (c slot : ℕ) (name bytes : List ℕ) → c < n → F c (key.Meta name slot) ≡ Some bytes → Whole bytes
    → (m : Meta) × IsMeta n m × (generation_of m % 2 ≡ slot) × (bytes ≡ meta_object n name c m)

-- The contents F of n clouds, of which those of D are damaged, stand for the entries S: at most two clouds are damaged, each
-- valid name has its entry, and nothing but sealed metas is whole under the keys of metadata. A name that S doesn't know rests
-- at Never.
pub record Stands (n : ℕ) (F : Contents) (S : Entries) (D : Clouds) : Type 0 where
  pub wide : 4 ≤ n
  pub narrow : n ≤ 10
  pub few : count_of n D ≤ 2
  pub entries : (name : List ℕ) → IsName name → HasEntry n F D name (S name)
  pub metas : MetasSealed n F
  pub objects : WholeOrTorn n F

-- The names of all keys under which some cloud holds an object, sorted by their bytes, each once.
pub record AreNames (n : ℕ) (F : Contents) (names : List (List ℕ)) : Type 0 where
  pub all : (c : ℕ) (place : Key) → c < n → IsSome (F c place) → Contains names (name_of place)
  pub only : (name : List ℕ) → Contains names name → (c : ℕ) × (c < n) × (place : Key) × (name_of place ≡ name) × IsSome (F c place)
  pub sorted : AllPairs (λ a b. slice_cmp nat_cmp a b ≡ Less) names

-- the name is at rest, and cloud i holds the meta of its version and all its chunks right
abbrev pub IsHealed : ℕ → Contents → ℕ → List ℕ → Entry → Type 0
IsHealed n F i name (Rest x) = HoldsVersion n F name i x × RightOn n F name x i
IsHealed n F i name (Opened x y) = ⊥
