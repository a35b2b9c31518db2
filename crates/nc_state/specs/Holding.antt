-- Which metas clouds hold.
use Rattle.std.specs.Prelude.{ℕ, ◌≡◌, ◌≢◌, ◌<◌, ◌≤◌, ◌%◌, Bool, true, false, Option, None, Some, List}
use Rattle.std.specs.Option.{option_map_or}
use Rattle.std.specs.Str.{bytes_eq}
use Rattle.nc_name.specs.declared.key.Key.{Key}
use Rattle.nc_name.specs.declared.key.Key.TheVariants as key
use Rattle.nc_name.specs.Keys.{key_text}
use Rattle.nc_frame.specs.Frames.{Sealed, frame}
use Rattle.nc_meta.specs.declared.meta.Meta.{Meta}
use Rattle.nc_meta.specs.declared.meta.Meta.TheVariants as meta
use Rattle.nc_meta.specs.Metas.{IsMeta, Spells, generation_of, spelling}
use Rattle.nc_cloud.specs.Contents.{Contents}
use Rattle.nc_state.specs.Clouds.{Clouds}
use Rattle.nc_state.specs.Versions.{Version, meta_of, version_generation}

-- the key of a meta: its generation says in which slot it stands
abbrev pub meta_key : List ℕ → Meta → Key
meta_key name m = key.Meta name (generation_of m % 2)

-- the object that a meta is on cloud c of n
unfoldable pub meta_object : ℕ → List ℕ → ℕ → Meta → List ℕ
meta_object n name c m = frame c n (key_text (meta_key name m)) (spelling n m)

-- cloud c of n holds this meta of the name
pub record Holds (n : ℕ) (F : Contents) (name : List ℕ) (c : ℕ) (m : Meta) : Type 0 where
  pub is_meta : IsMeta n m
  pub stands : F c (meta_key name m) ≡ Some (meta_object n name c m)

-- what stands under the key of the meta is a frame of this cloud, width and key, and its payload is that of the meta
pub record HoldsSealed (n : ℕ) (F : Contents) (name : List ℕ) (c : ℕ) (m : Meta) : Type 0 where
  pub bytes : List ℕ
  pub payload : List ℕ
  pub stands : F c (meta_key name m) ≡ Some bytes
  pub is_sealed : Sealed bytes c n (key_text (meta_key name m)) payload
  pub spells : Spells n payload m

-- cloud c holds this meta, where there is one
abbrev pub HoldsIfAny : ℕ → Contents → List ℕ → ℕ → Option Meta → Type 0
HoldsIfAny n F name c None = Unit {0}
HoldsIfAny n F name c (Some m) = Holds n F name c m

-- cloud c holds the version's meta, where it has one
abbrev pub HoldsVersion : ℕ → Contents → List ℕ → ℕ → Version → Type 0
HoldsVersion n F name c x = HoldsIfAny n F name c (meta_of x)

-- all clouds do
abbrev pub AllHold : ℕ → Contents → List ℕ → Version → Type 0
AllHold n F name x = (c : ℕ) → c < n → HoldsVersion n F name c x

-- all clouds outside D do
abbrev pub HeldOutside : ℕ → Contents → Clouds → List ℕ → Version → Type 0
HeldOutside n F D name x = (c : ℕ) → c < n → D c ≡ false → HoldsVersion n F name c x

-- no cloud holds a meta of a generation above g
abbrev pub NoneAbove : ℕ → Contents → List ℕ → ℕ → Type 0
NoneAbove n F name g = (c : ℕ) (m : Meta) → c < n → Holds n F name c m → generation_of m ≤ g

-- each meta of the version's generation that a cloud holds is the version's
abbrev pub OneMeta : ℕ → Contents → List ℕ → Version → Type 0
OneMeta n F name x = (c : ℕ) (m : Meta) → c < n → Holds n F name c m → generation_of m ≡ version_generation x → meta_of x ≡ Some m

-- a meta that some cloud holds, and none a higher one
pub record IsTop (n : ℕ) (F : Contents) (name : List ℕ) (m : Meta) : Type 0 where
  pub cloud : ℕ
  pub in_width : cloud < n
  pub held : Holds n F name cloud m
  pub highest : (c : ℕ) (k : Meta) → c < n → Holds n F name c k → generation_of k ≤ generation_of m

-- no cloud holds a meta of the name
pub record HeldByNone (n : ℕ) (F : Contents) (name : List ℕ) : Type 0 where
  pub none : (c : ℕ) (m : Meta) → c < n → Holds n F name c m → ⊥

-- every cloud holds this meta, and none a higher one
pub record HeldByAll (n : ℕ) (F : Contents) (name : List ℕ) (m : Meta) : Type 0 where
  pub each : (c : ℕ) → c < n → Holds n F name c m
  pub highest : (c : ℕ) (k : Meta) → c < n → Holds n F name c k → generation_of k ≤ generation_of m

-- the generation of the meta that counts, 0 where there is none
abbrev pub top_generation : Option Meta → ℕ
top_generation top = option_map_or generation_of top 0

-- the meta that counts is that of a file
abbrev pub IsLiveTop : Option Meta → Type 0
IsLiveTop None = ⊥
IsLiveTop (Some (meta.Live m)) = Unit {0}
IsLiveTop (Some (meta.Gone generation)) = ⊥

-- all clouds hold this meta, where there is one, and none a higher one
abbrev pub IsSettledOn : ℕ → Contents → List ℕ → Option Meta → Type 0
IsSettledOn n F name None = HeldByNone n F name
IsSettledOn n F name (Some m) = HeldByAll n F name m

-- some cloud holds this meta, where there is one, and none a higher one
abbrev pub IsTopOrNone : ℕ → Contents → List ℕ → Option Meta → Type 0
IsTopOrNone n F name None = HeldByNone n F name
IsTopOrNone n F name (Some m) = IsTop n F name m

-- each meta of the generation of m that a cloud holds is m
pub record Undisputed (n : ℕ) (F : Contents) (name : List ℕ) (m : Meta) : Type 0 where
  pub same : (c : ℕ) (o : Meta) → c < n → Holds n F name c o → generation_of o ≡ generation_of m → o ≡ m

-- Two metas of the highest generation differ: a is the least cloud that holds one, b the least that holds another than a's.
pub record IsDisputed (n : ℕ) (F : Contents) (name : List ℕ) (generation a b : ℕ) : Type 0 where
  pub meta : Meta
  pub other : Meta
  pub is_generation : generation_of meta ≡ generation
  pub same_generation : generation_of other ≡ generation
  pub differ : other ≢ meta
  pub a_in_width : a < n
  pub b_in_width : b < n
  pub a_holds : Holds n F name a meta
  pub b_holds : Holds n F name b other
  pub highest : (c : ℕ) (o : Meta) → c < n → Holds n F name c o → generation_of o ≤ generation
  pub before_a : (c : ℕ) (o : Meta) → c < a → Holds n F name c o → generation_of o < generation
  pub before_b : (c : ℕ) (o : Meta) → c < b → Holds n F name c o → generation_of o ≡ generation → o ≡ meta

-- ---- the same as a test

abbrev pub is_object : Option (List ℕ) → List ℕ → Bool
is_object None object = false
is_object (Some bytes) object = bytes_eq bytes object

abbrev pub holds_meta : ℕ → Contents → List ℕ → Option Meta → ℕ → Bool
holds_meta n F name None c = true
holds_meta n F name (Some m) c = is_object (F c (meta_key name m)) (meta_object n name c m)

-- cloud c holds the version's meta, where it has one
abbrev pub holds : ℕ → Contents → List ℕ → Version → Clouds
holds n F name x c = holds_meta n F name (meta_of x) c
