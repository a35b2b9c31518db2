-- A round that asks clouds for a row of chunks, and what each cloud gave.
use Rattle.std.specs.Prelude.{ℕ, ◌≡◌, ◌≢◌, ◌<◌, ◌≤◌, List, All, length}
use Rattle.nc_native.specs.Native.{chunk_size}
use Rattle.nc_cloud.specs.Contents.{Rose}
use Rattle.nc_cloud.specs.declared.fleet.Ask.{Ask}
use Rattle.nc_cloud.specs.declared.fleet.Answer.TheVariants as answer
use Rattle.nc_cloud.specs.declared.fleet.Fleet.{Ghosts as FleetGhosts}
use Rattle.nc_cloud.specs.Fleet.{Answers, chunks_got, got_count}
use Rattle.nc_meta.specs.declared.meta.Live.{Live}
use Rattle.nc_state.specs.Clouds.{Clouds}
use Rattle.nc_download.specs.declared.short.Why.TheVariants.{Failed, Row}
use Rattle.nc_fetch.specs.declared.founds.Found.{Found}
use Rattle.nc_fetch.specs.declared.founds.Found.TheVariants.{Unasked, Good, Bad}
use Rattle.nc_download.specs.Clouds.{IsBadRow, IsGoodRow}
use Rattle.nc_fetch.specs.Founds.{found_at, is_asked}

-- The entries were answered in a round: each shows what is held, where the fleet tells; the count of each cloud that failed rose, and
-- where counts are exact, no others did; and chunks that were given are counted.
pub record AreAnswered {A : Type 0} (F : FleetGhosts A) (asks : List Ask) (old new : A) : Type 0 where
  pub told : F.tells → All (λ a. Answers a (F.held old a.cloud a.key)) asks
  pub failed : All (λ a. a.answer ≡ answer.Failed → Rose (F.faults old a.cloud) (F.faults new a.cloud)) asks
  pub exact : F.counts_exactly → (c : ℕ) → All (λ a. a.cloud ≡ c → a.answer ≢ answer.Failed) asks → F.faults new c ≡ F.faults old c
  pub gets : (c : ℕ) → F.chunk_gets new c ≡ got_count (F.chunk_gets old c) (chunks_got c asks)

-- so many chunks more, at most
pub record GaveAtMost (most before now : ℕ) : Type 0 where
  pub given : ℕ
  pub few : given ≤ most
  pub is : now ≡ got_count before given

-- a good chunk of cloud c came, and was counted
pub record GaveGood {A : Type 0} (F : FleetGhosts A) (name : List ℕ) (m : Live) (r : ℕ) (old new : A) (c : ℕ) (payload : List ℕ) : Type 0 where
  pub good : F.tells → IsGoodRow (F.clouds old) name m (F.held old) c r payload
  pub long : length payload ≡ chunk_size m.len (F.clouds old)
  pub gave : F.chunk_gets new c ≡ got_count (F.chunk_gets old c) 1

-- what a round gave of cloud c, by what the clouds hold and by the counts
abbrev pub GaveRow : {A : Type 0} → FleetGhosts A → List ℕ → Live → ℕ → A → A → ℕ → Found → Type 0
GaveRow F name m r old new c Unasked = F.chunk_gets new c ≡ F.chunk_gets old c
GaveRow F name m r old new c (Good payload) = GaveGood F name m r old new c payload
GaveRow F name m r old new c (Bad Failed) = Rose (F.faults old c) (F.faults new c) × (F.chunk_gets new c ≡ F.chunk_gets old c)
GaveRow F name m r old new c (Bad (Row q how)) =
    (q ≡ r) × (F.tells → IsBadRow (F.clouds old) name m (F.held old) c r how) × GaveAtMost 1 (F.chunk_gets old c) (F.chunk_gets new c)

-- The clouds of P were asked for their chunks of row r, and no others.
pub record RowIsAsked {A : Type 0} (F : FleetGhosts A) (name : List ℕ) (m : Live) (r : ℕ) (P : Clouds) (old new : A) (founds : List Found) : Type 0 where
  pub long : length founds ≡ F.clouds old
  pub asked : (c : ℕ) → c < F.clouds old → is_asked (found_at founds c) ≡ P c
  pub each : (c : ℕ) → c < F.clouds old → GaveRow F name m r old new c (found_at founds c)
  pub alone : F.counts_exactly → (c : ℕ) → c < F.clouds old → found_at founds c ≢ Bad Failed → F.faults new c ≡ F.faults old c
