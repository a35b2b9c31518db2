-- A round that asks for the metadata of a name.
use Rattle.std.specs.Prelude.{ℕ, ◌≡◌, ◌≢◌, ◌<◌, ◌⊎◌, Option, None, Some, List, All, if◌then◌else◌, length, slice_index_or}
use Rattle.nc_name.specs.declared.key.Key.{Key}
use Rattle.nc_name.specs.declared.key.Key.TheVariants.{Meta}
use Rattle.nc_cloud.specs.declared.fleet.Ask.{Ask}
use Rattle.nc_state.specs.Clouds.{Clouds}
use Rattle.nc_settle.specs.declared.place.Place.{Place}
use Rattle.nc_settle.specs.declared.place.Place.TheVariants.{Failed}
use Rattle.nc_settle.specs.Judging.{Judges}

-- an ask to cloud c for the metadata in this slot
abbrev pub meta_ask : List ℕ → ℕ → ℕ → ℕ × Key × ℕ
meta_ask name slot c = (c, Meta name slot, 2048)

-- the same, where the cloud isn't one of P
abbrev pub meta_ask_outside : List ℕ → ℕ → Clouds → ℕ → Option (ℕ × Key × ℕ)
meta_ask_outside name slot P c = if P c then None else Some (meta_ask name slot c)

-- the place of a cloud follows from the answer of an entry of this cloud
pub record IsJudged (n : ℕ) (name : List ℕ) (slot c : ℕ) (asks : List Ask) (p : Place) : Type 0 where
  pub entry : ℕ
  pub within : entry < length asks
  pub of_cloud : (d : Ask) → (slice_index_or asks entry d).cloud ≡ c
  pub follows : (d : Ask) → Judges n name slot c (slice_index_or asks entry d).answer p

-- the cloud has no entry, and counts as one that failed
pub record IsUnasked (c : ℕ) (asks : List Ask) (p : Place) : Type 0 where
  pub no_entry : All (λ a. a.cloud ≢ c) asks
  pub failed : p ≡ Failed

-- one or the other
abbrev pub JudgesCloud : ℕ → List ℕ → ℕ → ℕ → List Ask → Place → Type 0
JudgesCloud n name slot c asks p = IsJudged n name slot c asks p ⊎ IsUnasked c asks p

-- the places of the first k clouds follow from these entries, and there are no others
pub record AreJudged (n : ℕ) (name : List ℕ) (slot k : ℕ) (asks : List Ask) (places : List Place) : Type 0 where
  pub count : length places ≡ k
  pub each : (c : ℕ) (e : Place) → c < k → JudgesCloud n name slot c asks (slice_index_or places c e)
