-- What the reading of one part of a file answers: its chunks are asked for until enough clouds are good.
use Rattle.std.specs.Prelude.{ℕ, ◌≡◌, ◌<◌, ◌≤◌, ◌+◌, Option, None, Some, List, All, length, if◌then◌else◌}
use Rattle.nc_bytes.specs.Bytes.{AreBytes}
use Rattle.nc_cloud.specs.declared.fleet.Fleet.{Ghosts as FleetGhosts}
use Rattle.nc_meta.specs.declared.meta.Live.{Live}
use Rattle.nc_state.specs.Clouds.{Clouds}
use Rattle.nc_download.specs.declared.short.Bad.{Bad}
use Rattle.nc_download.specs.declared.short.Why.{Why}
use Rattle.nc_download.specs.declared.short.Why.TheVariants.{Failed}
use Rattle.nc_fetch.specs.declared.parts.PartFault.{PartFault}
use Rattle.nc_fetch.specs.declared.parts.PartFault.TheVariants.{Short, Memory}
use Rattle.nc_download.specs.Clouds.{HoldsChunksOf}
use Rattle.nc_fetch.specs.Trying.{OnlyFoundFailed, TriedBetween}
use Rattle.nc_fetch.specs.Whys.{bads, free, why_at}

-- of n clouds exactly those of P are told to have failed
pub record AreMarkedFailed (n : ℕ) (P : Clouds) (whys : List (Option Why)) : Type 0 where
  pub each : (c : ℕ) → c < n → why_at whys c ≡ (if P c then Some Failed else None)

-- The part came back from the clouds that weren't found bad up to the last one that was tried, n - 2 of n; below it no cloud had as
-- many before it. None of P was asked. It has the length that the metadata tells, and is each file whose chunks those clouds hold.
pub record ComesBackFrom {A : Type 0} (F : FleetGhosts A) (name : List ℕ) (m : Live) (old new : A) (P : Clouds) (part : List ℕ) : Type 0 where
  pub before : List (Option Why)
  pub marked : AreMarkedFailed (F.clouds old) P before
  pub whys : List (Option Why)
  pub up_to : ℕ
  pub within : up_to ≤ F.clouds old
  pub tried : TriedBetween F name m old new 0 up_to before whys
  pub alone : F.counts_exactly → OnlyFoundFailed F old new whys
  pub enough : length (free whys 0 up_to) + 2 ≡ F.clouds old
  pub needed : (c : ℕ) → c + 1 ≡ up_to → length (free whys 0 c) + 2 < F.clouds old
  pub long : length part ≡ m.len
  pub is_file : F.tells → (v : List ℕ) → AreBytes v → length v ≡ m.len → All (HoldsChunksOf (F.clouds old) name m v (F.held old)) (free whys 0 up_to) → part ≡ v

-- All clouds but those of P were tried, fewer than n - 2 are good, and exactly the others are listed, each with its cause.
pub record TooFewServe {A : Type 0} (F : FleetGhosts A) (name : List ℕ) (m : Live) (old new : A) (P : Clouds) (list : List Bad) : Type 0 where
  pub before : List (Option Why)
  pub marked : AreMarkedFailed (F.clouds old) P before
  pub whys : List (Option Why)
  pub tried : TriedBetween F name m old new 0 (F.clouds old) before whys
  pub alone : F.counts_exactly → OnlyFoundFailed F old new whys
  pub few : length (free whys 0 (F.clouds old)) + 2 < F.clouds old
  pub listed : list ≡ bads whys 0 (F.clouds old)

-- why no part came back
abbrev pub LacksFor : {A : Type 0} → FleetGhosts A → List ℕ → Live → A → A → Clouds → PartFault → Type 0
LacksFor F name m old new P (Short list) = TooFewServe F name m old new P list
LacksFor F name m old new P Memory = Unit {0}
