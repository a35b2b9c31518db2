-- Which chunks of the clouds to be restored aren't good.
use Rattle.std.specs.Prelude.{ℕ, ◌≡◌, ◌<◌, ◌≤◌, ◌==◌, ◌||◌, Bool, true, false, Option, None, Some, List, Contains, Result, length, map, All}
use Rattle.nc_name.specs.declared.key.Key.{Key}
use Rattle.nc_cloud.specs.declared.fleet.Answer.{Answer}
use Rattle.nc_cloud.specs.declared.fleet.Ask.{Ask}
use Rattle.nc_cloud.specs.declared.deciding.RoundFault.{RoundFault}
use Rattle.nc_cloud.specs.declared.fleet.Fleet.{Ghosts as FleetGhosts}
use Rattle.nc_cloud.specs.Deciding.{DecidesAsks, HasCause, OnlyLooked, TellsCounts}
use Rattle.nc_cloud.specs.Fleet.{Answers, Shows, asked, chunks_got, got_count, is_bytes}
use Rattle.nc_cloud.specs.Stopping.{Stops}
use Rattle.nc_meta.specs.declared.meta.Live.{Live}
use Rattle.nc_settle.specs.MetaWrites.{named}
use Rattle.nc_state.specs.Clouds.{Clouds}
use Rattle.nc_download.specs.declared.judging.Wanted.{Wanted}
use Rattle.nc_download.specs.declared.short.How.{How}
use Rattle.nc_download.specs.Chunks.{ChunkIs, IsGoodChunk, chunk_ask, frame_len, wanted_of}
use Rattle.nc_download.specs.Clouds.{held_at}
use Rattle.nc_fetch.specs.Asking.{GaveAtMost}
use Rattle.nc_restore.specs.declared.fault.RestoreFault.{RestoreFault}
use Rattle.nc_restore.specs.declared.fault.RestoreFault.TheVariants as fault
use Rattle.nc_cloud.specs.declared.deciding.RoundFault.TheVariants as round

-- the clouds to be restored: one, or two
abbrev pub is_restored : ℕ → Option ℕ → Clouds
is_restored first None c = c == first
is_restored first (Some second) c = c == first || c == second

-- the table names exactly those
pub record NamesRestored (first : ℕ) (second : Option ℕ) (table : List Bool) : Type 0 where
  pub each : (c : ℕ) → named table c ≡ is_restored first second c

-- what is held is no good chunk, or it is one
abbrev pub JudgesAs : Wanted → Option (List ℕ) → Bool → Type 0
JudgesAs w held true = (how : How) × ChunkIs w held how
JudgesAs w held false = (payload : List ℕ) × IsGoodChunk w held payload

-- that is what the answer shows
pub record IsJudgedFrom (w : Wanted) (a : Answer) (bad : Bool) : Type 0 where
  pub verdict : (held : Option (List ℕ)) → Shows a (frame_len w) held → JudgesAs w held bad
  pub given : bad ≡ false → is_bytes a ≡ true

-- one of the entries is that of cloud c, and its answer shows whether the chunk is bad
pub record IsJudgedAmong (n : ℕ) (name : List ℕ) (m : Live) (r c : ℕ) (all : List Ask) (bad : Bool) : Type 0 where
  pub ask : Ask
  pub among : Contains all ask
  pub asks : asked ask ≡ chunk_ask n name m r c
  pub from : IsJudgedFrom (wanted_of n name m r c) ask.answer bad

-- a cloud that isn't to be restored has no bad chunk
abbrev pub JudgedOn : Bool → ℕ → List ℕ → Live → ℕ → ℕ → List Ask → Bool → Type 0
JudgedOn true n name m r c all bad = IsJudgedAmong n name m r c all bad
JudgedOn false n name m r c all bad = bad ≡ false

-- the table names those of the first k clouds whose chunk of row r is bad
pub record AreJudgedTo (n : ℕ) (name : List ℕ) (m : Live) (r : ℕ) (P : Clouds) (k : ℕ) (all : List Ask) (bad : List Bool) : Type 0 where
  pub long : length bad ≡ 10
  pub each : (c : ℕ) → c < k → JudgedOn (P c) n name m r c all (named bad c)
  pub past : (c : ℕ) → k ≤ c → named bad c ≡ false

-- a round of gets with these entries: what its answers show, and what it leaves
pub record GotRow {A : Type 0} (F : FleetGhosts A) (entries : List (ℕ × Key × ℕ)) (ended : List Ask) (old new : A) (result : Result (Unit {0}) RoundFault) : Type 0 where
  pub same : map asked ended ≡ entries
  pub told : F.tells → All (λ a. Answers a (F.held old a.cloud a.key)) ended
  pub decides : DecidesAsks ended result
  pub counts : TellsCounts F old new result
  pub looked : OnlyLooked F old new
  pub stops : Stops F old new (λ G. G ≡ F.held old)
  pub gets : (c : ℕ) → F.chunk_gets new c ≡ got_count (F.chunk_gets old c) (chunks_got c ended)

-- The chunks of row r of the clouds of P were asked for; all gave an answer, and `bad` names those that aren't good.
pub record RowIsJudged {A : Type 0} (F : FleetGhosts A) (name : List ℕ) (m : Live) (r : ℕ) (P : Clouds) (old new : A) (bad : Clouds) : Type 0 where
  pub judged : F.tells → (c : ℕ) → c < F.clouds old → P c ≡ true → JudgesAs (wanted_of (F.clouds old) name m r c) (held_at (F.clouds old) name m (F.held old) c r) (bad c)
  pub only : (c : ℕ) → bad c ≡ true → (c < F.clouds old) × (P c ≡ true)
  pub few : (c : ℕ) → GaveAtMost 1 (F.chunk_gets old c) (F.chunk_gets new c)
  pub unread : (c : ℕ) → P c ≡ false → F.chunk_gets new c ≡ F.chunk_gets old c
  pub gave : (c : ℕ) → c < F.clouds old → P c ≡ true → bad c ≡ false → F.chunk_gets new c ≡ got_count (F.chunk_gets old c) 1
  pub looked : OnlyLooked F old new
  pub stops : Stops F old new (λ G. G ≡ F.held old)
  pub clean : F.counts_exactly → (c : ℕ) → F.faults new c ≡ F.faults old c

-- the fault of a round that isn't Ok
abbrev pub fault_of : RoundFault → RestoreFault
fault_of (round.Cloud c) = fault.Cloud c
fault_of round.Memory = fault.Memory

-- a cloud that failed is one of P
abbrev pub IsOf : Clouds → RoundFault → Type 0
IsOf P (round.Cloud c) = P c ≡ true
IsOf P round.Memory = Unit {0}

-- Clouds of P were asked, and one failed or found no memory; or no memory was found for the entries. So many rounds were made at most.
pub record AskFails {A : Type 0} (F : FleetGhosts A) (P : Clouds) (rounds : ℕ) (old new : A) (result : RestoreFault) : Type 0 where
  pub why : RoundFault
  pub is : result ≡ fault_of why
  pub cause : HasCause F.counts_exactly (F.faults old) (F.faults new) why
  pub one : IsOf P why
  pub few : (c : ℕ) → GaveAtMost rounds (F.chunk_gets old c) (F.chunk_gets new c)
  pub looked : OnlyLooked F old new
  pub stops : Stops F old new (λ G. G ≡ F.held old)
