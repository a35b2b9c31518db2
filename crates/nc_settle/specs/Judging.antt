-- What stands under a metadata key.
use Rattle.std.specs.Prelude.{ℕ, ◌≡◌, ◌≢◌, ◌⊎◌, ◌≤◌, ◌%◌, Bool, true, false, Option, None, Some, List, length}
use Rattle.nc_name.specs.declared.key.Key.TheVariants as key
use Rattle.nc_name.specs.Keys.{key_text}
use Rattle.nc_frame.specs.Frames.{Sealed}
use Rattle.nc_meta.specs.declared.meta.Meta.{Meta}
use Rattle.nc_meta.specs.Metas.{IsMeta, Spells, generation_of}
use Rattle.nc_cloud.specs.declared.fleet.Answer.{Answer}
use Rattle.nc_cloud.specs.declared.fleet.Answer.TheVariants as answer
use Rattle.nc_cloud.specs.Fleet.{Shows}
use Rattle.nc_settle.specs.declared.place.Place.{Place}
use Rattle.nc_settle.specs.declared.place.Place.TheVariants as place

-- The bytes are the sealed meta m on cloud c of n in this slot: a frame of this cloud, width and key, whose payload is that of m,
-- and the generation of m modulo 2 is the slot.
pub record SealedMeta (n : ℕ) (name : List ℕ) (c slot : ℕ) (bytes : List ℕ) (m : Meta) : Type 0 where
  pub payload : List ℕ
  pub is_sealed : Sealed bytes c n (key_text (key.Meta name slot)) payload
  pub spells : Spells n payload m
  pub parity : generation_of m % 2 ≡ slot

-- the bytes are a whole frame of cloud a and width b, which are not cloud c and width n
pub record IsOfElsewhere (n c : ℕ) (bytes : List ℕ) (a b : ℕ) : Type 0 where
  pub elsewhere : (a ≢ c) ⊎ (b ≢ n)
  pub key : List ℕ
  pub payload : List ℕ
  pub is_sealed : Sealed bytes a b key payload

-- the bytes are no sealed meta, and no whole frame of another cloud or width unless they are more than are asked for
pub record IsBroken (n : ℕ) (name : List ℕ) (c slot : ℕ) (bytes : List ℕ) : Type 0 where
  pub no_meta : (m : Meta) → SealedMeta n name c slot bytes m → ⊥
  pub not_misplaced : length bytes ≤ 2048 → (a b : ℕ) → IsOfElsewhere n c bytes a b → ⊥

-- what is held is at most 2048 bytes, which are so
abbrev pub HoldsShort : Option (List ℕ) → (List ℕ → Type 0) → Type 0
HoldsShort held Is = (bytes : List ℕ) × (held ≡ Some bytes) × (length bytes ≤ 2048) × Is bytes

-- what is held under the metadata key of this slot, on cloud c of n, is as the place says
abbrev pub IsPlaceOf : ℕ → List ℕ → ℕ → ℕ → Option (List ℕ) → Place → Type 0
IsPlaceOf n name c slot held place.Absent = held ≡ None
IsPlaceOf n name c slot held place.Broken = (bytes : List ℕ) × (held ≡ Some bytes) × IsBroken n name c slot bytes
IsPlaceOf n name c slot held (place.Misplaced a b) = HoldsShort held (λ bytes. IsOfElsewhere n c bytes a b)
IsPlaceOf n name c slot held place.Failed = Unit {0}
IsPlaceOf n name c slot held (place.Sealed m) = HoldsShort held (λ bytes. SealedMeta n name c slot bytes m)

-- a meta that a place has is one of this width and slot
abbrev pub HasMetaOf : ℕ → ℕ → Place → Type 0
HasMetaOf n slot place.Absent = Unit {0}
HasMetaOf n slot place.Broken = Unit {0}
HasMetaOf n slot (place.Misplaced a b) = Unit {0}
HasMetaOf n slot place.Failed = Unit {0}
HasMetaOf n slot (place.Sealed m) = IsMeta n m × (generation_of m % 2 ≡ slot)

-- the answer says nothing, for want of memory
abbrev pub is_starved : Answer → Bool
is_starved (answer.Bytes bytes) = false
is_starved answer.Absent = false
is_starved answer.Long = false
is_starved answer.Failed = false
is_starved answer.Waiting = true
is_starved answer.Memory = true

-- the place that follows from an answer to an ask for at most 2048 bytes
pub record Judges (n : ℕ) (name : List ℕ) (slot c : ℕ) (a : Answer) (p : Place) : Type 0 where
  pub told : (held : Option (List ℕ)) → Shows a 2048 held → IsPlaceOf n name c slot held p
  pub failed : p ≡ place.Failed → a ≡ answer.Failed
  pub failing : a ≡ answer.Failed → p ≡ place.Failed
  pub meta : HasMetaOf n slot p

-- what stands where these bytes are held, however many they are
abbrev pub IsPlaceIn : ℕ → List ℕ → ℕ → ℕ → List ℕ → Place → Type 0
IsPlaceIn n name c slot bytes place.Absent = ⊥
IsPlaceIn n name c slot bytes place.Broken = IsBroken n name c slot bytes
IsPlaceIn n name c slot bytes (place.Misplaced a b) = IsOfElsewhere n c bytes a b
IsPlaceIn n name c slot bytes place.Failed = ⊥
IsPlaceIn n name c slot bytes (place.Sealed m) = SealedMeta n name c slot bytes m

-- what stands where this payload is sealed
abbrev pub JudgesPayload : ℕ → ℕ → List ℕ → Place → Type 0
JudgesPayload n slot payload place.Absent = ⊥
JudgesPayload n slot payload place.Broken = (m : Meta) → Spells n payload m → generation_of m % 2 ≢ slot
JudgesPayload n slot payload (place.Misplaced a b) = ⊥
JudgesPayload n slot payload place.Failed = ⊥
JudgesPayload n slot payload (place.Sealed m) = Spells n payload m × (generation_of m % 2 ≡ slot)
