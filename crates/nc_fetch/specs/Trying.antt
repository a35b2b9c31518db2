-- Clouds that are tried for both their chunks, in ascending order, until enough are good.
use Rattle.std.specs.Prelude.{ℕ, ◌≡◌, ◌≢◌, ◌⊎◌, ◌<◌, ◌≤◌, ◌+◌, ◌++◌, Option, None, Some, List, All, length, map}
use Rattle.nc_native.specs.Native.{chunk_size}
use Rattle.nc_cloud.specs.Contents.{Rose}
use Rattle.nc_cloud.specs.declared.fleet.Fleet.{Ghosts as FleetGhosts}
use Rattle.nc_cloud.specs.Fleet.{got_count}
use Rattle.nc_meta.specs.declared.meta.Live.{Live}
use Rattle.nc_mix.specs.declared.pieces.Piece.{Piece}
use Rattle.nc_mix.specs.Decoding.{IsLong}
use Rattle.nc_download.specs.declared.short.Why.{Why}
use Rattle.nc_download.specs.declared.short.Why.TheVariants.{Failed, Row}
use Rattle.nc_fetch.specs.Asking.{GaveAtMost}
use Rattle.nc_download.specs.Clouds.{AreGoodRows, IsFirstBad, IsGoodCloud}
use Rattle.nc_fetch.specs.Whys.{free, why_at}

-- why cloud c isn't good: its count of failures rose, or this chunk of it is the first that isn't good, where the fleet tells
abbrev pub IsWhy : {A : Type 0} → FleetGhosts A → List ℕ → Live → A → A → ℕ → Why → Type 0
IsWhy F name m old new c Failed = Rose (F.faults old c) (F.faults new c)
IsWhy F name m old new c (Row r how) = F.tells → IsFirstBad (F.clouds old) name m (F.held old) c r how

-- how many chunks a cloud has given at most, where it was found bad
abbrev pub most_of : Why → ℕ
most_of Failed = 1
most_of (Row r how) = r + 1

-- Cloud c was tried. Where it wasn't found bad, it is good and gave both its chunks; else this is the cause.
abbrev pub Outcome : {A : Type 0} → FleetGhosts A → List ℕ → Live → A → A → ℕ → Option Why → Type 0
Outcome F name m old new c None =
    (F.tells → IsGoodCloud (F.clouds old) name m (F.held old) c) × (F.chunk_gets new c ≡ got_count (F.chunk_gets old c) 2)
Outcome F name m old new c (Some why) = IsWhy F name m old new c why × GaveAtMost (most_of why) (F.chunk_gets old c) (F.chunk_gets new c)

-- cloud c is one of those from a on and below b, and wasn't found bad
pub record IsTried (whys : List (Option Why)) (a b c : ℕ) : Type 0 where
  pub from : a ≤ c
  pub below : c < b
  pub fine : why_at whys c ≡ None

-- Of n clouds those from a on and below b that weren't bad were tried, with their outcomes. Of every other cloud nothing was found, and
-- it gave no chunk.
pub record TriedBetween {A : Type 0} (F : FleetGhosts A) (name : List ℕ) (m : Live) (old new : A) (a b : ℕ) (before now : List (Option Why)) : Type 0 where
  pub tried : (c : ℕ) → c < F.clouds old → IsTried before a b c → Outcome F name m old new c (why_at now c)
  pub same : (c : ℕ) → c < F.clouds old → (IsTried before a b c → ⊥) → why_at now c ≡ why_at before c
  pub unread : (c : ℕ) → c < F.clouds old → (IsTried before a b c → ⊥) → F.chunk_gets new c ≡ F.chunk_gets old c

-- no count of failures rose but of clouds that were found to have failed
pub record OnlyFoundFailed {A : Type 0} (F : FleetGhosts A) (old new : A) (whys : List (Option Why)) : Type 0 where
  pub each : (c : ℕ) → c < F.clouds old → why_at whys c ≢ Some Failed → F.faults new c ≡ F.faults old c

-- the pieces of these clouds, good ones where the fleet tells
pub record ArePieces {A : Type 0} (F : FleetGhosts A) (name : List ℕ) (m : Live) (fleet : A) (clouds : List ℕ) (pieces : List Piece) : Type 0 where
  pub of_clouds : map (λ p. p.cloud) pieces ≡ clouds
  pub long : All (IsLong (chunk_size m.len (F.clouds fleet))) pieces
  pub good : F.tells → All (λ p. AreGoodRows (F.clouds fleet) name m (F.held fleet) p.cloud p.zero p.one) pieces

-- the pieces of these clouds are added
pub record AddsPieces {A : Type 0} (F : FleetGhosts A) (name : List ℕ) (m : Live) (fleet : A) (clouds : List ℕ) (old new : List Piece) : Type 0 where
  pub more : List Piece
  pub are : ArePieces F name m fleet clouds more
  pub added : new ≡ old ++ more

-- the clouds from a on and below b were tried, and the pieces of the good ones are added
pub record TriesBatch {A : Type 0} (F : FleetGhosts A) (name : List ℕ) (m : Live) (old new : A) (a b : ℕ) (before now : List (Option Why)) (pieces next : List Piece) : Type 0 where
  pub tried : TriedBetween F name m old new a b before now
  pub alone : F.counts_exactly → OnlyFoundFailed F old new now
  pub serve : AddsPieces F name m old (free now a b) pieces next

-- Clouds were tried in ascending order, but for those that were bad before: all of n, or up to one with which n - 2 are good. The
-- pieces are those of the good ones.
pub record HasTried {A : Type 0} (F : FleetGhosts A) (name : List ℕ) (m : Live) (old new : A) (before now : List (Option Why)) (up_to : ℕ) (pieces : List Piece) : Type 0 where
  pub within : up_to ≤ F.clouds old
  pub tried : TriedBetween F name m old new 0 up_to before now
  pub alone : F.counts_exactly → OnlyFoundFailed F old new now
  pub serve : ArePieces F name m old (free now 0 up_to) pieces
  pub few : length pieces + 2 ≤ F.clouds old
  pub needed : (c : ℕ) → c + 1 ≡ up_to → length (free now 0 c) + 2 < F.clouds old

-- and no more are wanted, or there are no more
pub record HasTriedAll {A : Type 0} (F : FleetGhosts A) (name : List ℕ) (m : Live) (old new : A) (before now : List (Option Why)) (pieces : List Piece) : Type 0 where
  pub up_to : ℕ
  pub has : HasTried F name m old new before now up_to pieces
  pub ended : (up_to ≡ F.clouds old) ⊎ (length pieces + 2 ≡ F.clouds old)
