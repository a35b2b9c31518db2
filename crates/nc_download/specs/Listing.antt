-- What is told of names one after the other, where no cloud that failed is asked again.
use Rattle.std.specs.Prelude.{ℕ, ◌≡◌, ◌<◌, ◌≤◌, true, false, Option, None, List, [], length, slice_index_or}
use Rattle.nc_name.specs.Names.{IsName}
use Rattle.nc_cloud.specs.Contents.{Rose}
use Rattle.nc_cloud.specs.declared.fleet.Fleet.{Ghosts as FleetGhosts}
use Rattle.nc_state.specs.Clouds.{Clouds, count_of}
use Rattle.nc_settle.specs.Views.{Places}
use Rattle.nc_settle.specs.Looking.{HasWidth, Sees}
use Rattle.nc_settle.specs.Failing.{fails}
use Rattle.nc_download.specs.declared.fault.FetchFault.{FetchFault}
use Rattle.nc_download.specs.declared.fault.FetchFault.TheVariants as fault
use Rattle.nc_download.specs.declared.listing.ListStop.{ListStop}
use Rattle.nc_download.specs.FindingOnVaults.{HasAll}
use Rattle.nc_download.specs.Seeing.{Refuses, ShowsOr}

-- A view was had of the name, and it shows this. It is as what the clouds hold, but for those that failed: all of P, and none but
-- those of Q.
pub record SeenOf {A : Type 0} (F : FleetGhosts A) (fleet : A) (name : List ℕ) (P Q : Clouds) (shows : Places → Type 0) : Type 0 where
  pub is_name : IsName name
  pub view : Places
  pub width : HasWidth (F.clouds fleet) view
  pub sees : F.tells → Sees (F.clouds fleet) name (F.held fleet) view
  pub skips : HasAll (F.clouds fleet) P (fails view)
  pub among : HasAll (F.clouds fleet) (fails view) Q
  pub shown : shows view

-- The clouds of P had failed before, and those that Q has besides failed since: their counts rose.
pub record FailMore {A : Type 0} (F : FleetGhosts A) (P Q : Clouds) (old new : A) : Type 0 where
  pub kept : HasAll (F.clouds old) P Q
  pub rose : (c : ℕ) → c < F.clouds old → P c ≡ false → Q c ≡ true → Rose (F.faults old c) (F.faults new c)

-- no other count rose
pub record OnlyMore {A : Type 0} (F : FleetGhosts A) (P Q : Clouds) (old new : A) : Type 0 where
  pub each : (c : ℕ) → c < F.clouds old → (P c ≡ false → Q c ≡ true → ⊥) → F.faults new c ≡ F.faults old c

-- at most two of n clouds are of Q, if at most two are of P
pub record StayFew (n : ℕ) (P Q : Clouds) : Type 0 where
  pub few : count_of n P ≤ 2 → count_of n Q ≤ 2

-- these are the lengths of the files of the first k names, by name, and nothing where there is no file
pub record AreListed {A : Type 0} (F : FleetGhosts A) (fleet : A) (names : List (List ℕ)) (k : ℕ) (P Q : Clouds) (lens : List (Option ℕ)) : Type 0 where
  pub long : length lens ≡ k
  pub each : (i : ℕ) → i < k → SeenOf F fleet (slice_index_or names i []) P Q (ShowsOr (slice_index_or lens i None))

-- a view of the name shows neither a file nor none; exactly the clouds of Q failed in it
pub record IsRefused {A : Type 0} (F : FleetGhosts A) (name : List ℕ) (P Q : Clouds) (old new : A) (cause : FetchFault) : Type 0 where
  pub seen : SeenOf F old name Q Q (λ v. Refuses v cause)
  pub only : F.counts_exactly → OnlyMore F P Q old new

abbrev pub FindRefuses : {A : Type 0} → FleetGhosts A → List ℕ → Clouds → Clouds → A → A → FetchFault → Type 0
FindRefuses F name P Q old new fault.Memory = Unit {0}
FindRefuses F name P Q old new fault.NoFile = ⊥
FindRefuses F name P Q old new other = IsRefused F name P Q old new other

-- so it is with the name after those that were looked for
pub record ListRefuses {A : Type 0} (F : FleetGhosts A) (names : List (List ℕ)) (P Q : Clouds) (old new : A) (stop : ListStop) : Type 0 where
  pub within : stop.done < length names
  pub refuses : FindRefuses F (slice_index_or names stop.done []) P Q old new stop.fault
