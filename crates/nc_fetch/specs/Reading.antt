-- What the reading of a file from clouds that aren't marked answers: their chunks are asked for until enough clouds are good.
use Rattle.std.specs.Prelude.{ℕ, ◌≡◌, ◌<◌, ◌≤◌, ◌+◌, Option, None, Some, List, All, length}
use Rattle.nc_bytes.specs.Bytes.{AreBytes}
use Rattle.nc_cloud.specs.declared.fleet.Fleet.{Ghosts as FleetGhosts}
use Rattle.nc_meta.specs.declared.meta.Live.{Live}
use Rattle.nc_download.specs.declared.short.Why.{Why}
use Rattle.nc_download.specs.Clouds.{HoldsChunksOf}
use Rattle.nc_fetch.specs.Trying.{OnlyFoundFailed, TriedBetween}
use Rattle.nc_fetch.specs.Whys.{free}

-- The file came back from the clouds that weren't found bad up to the last one that was tried, n - 2 of n; below it no cloud had as
-- many before it. It has the length that the metadata tells, and is each file whose chunks those clouds hold.
pub record ComesFromUnmarked {A : Type 0} (F : FleetGhosts A) (name : List ℕ) (m : Live) (old new : A) (before whys : List (Option Why)) (file : List ℕ) : Type 0 where
  pub up_to : ℕ
  pub within : up_to ≤ F.clouds old
  pub tried : TriedBetween F name m old new 0 up_to before whys
  pub alone : F.counts_exactly → OnlyFoundFailed F old new whys
  pub enough : length (free whys 0 up_to) + 2 ≡ F.clouds old
  pub needed : (c : ℕ) → c + 1 ≡ up_to → length (free whys 0 c) + 2 < F.clouds old
  pub long : length file ≡ m.len
  pub is_file : F.tells → (v : List ℕ) → AreBytes v → length v ≡ m.len → All (HoldsChunksOf (F.clouds old) name m v (F.held old)) (free whys 0 up_to) → file ≡ v

-- All clouds that weren't marked were tried, and fewer than n - 2 are good.
pub record TooFewUnmarked {A : Type 0} (F : FleetGhosts A) (name : List ℕ) (m : Live) (old new : A) (before whys : List (Option Why)) : Type 0 where
  pub tried : TriedBetween F name m old new 0 (F.clouds old) before whys
  pub alone : F.counts_exactly → OnlyFoundFailed F old new whys
  pub few : length (free whys 0 (F.clouds old)) + 2 < F.clouds old

-- the file, or none where too few clouds are good
abbrev pub ReadsUnmarked : {A : Type 0} → FleetGhosts A → List ℕ → Live → A → A → List (Option Why) → List (Option Why) → Option (List ℕ) → Type 0
ReadsUnmarked F name m old new before whys (Some file) = ComesFromUnmarked F name m old new before whys file
ReadsUnmarked F name m old new before whys None = TooFewUnmarked F name m old new before whys
