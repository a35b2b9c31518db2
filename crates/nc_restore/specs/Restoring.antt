-- What the restoring of a file's chunks does.
use Rattle.std.specs.Prelude.{ℕ, zero, suc, ◌≡◌, ◌<◌, ◌≤◌, ◌+◌, ◌*◌, Bool, true, false, Option, None, Some, List, [], ◌∷◌, All, Result, Ok, Err, length, drop, if◌then◌else◌}
use Rattle.std.specs.Option.{option_map}
use Rattle.nc_bytes.specs.Bytes.{AreBytes}
use Rattle.nc_cloud.specs.Contents.{Write}
use Rattle.nc_cloud.specs.Deciding.{AreAscending, OnlyLooked}
use Rattle.nc_cloud.specs.Fleet.{got_count, writes}
use Rattle.nc_cloud.specs.Rounds.{some_row}
use Rattle.nc_cloud.specs.Stopping.{Stops}
use Rattle.nc_cloud.specs.declared.fleet.Fleet.{Ghosts as FleetGhosts}
use Rattle.nc_cloud.specs.declared.deciding.RoundFault.{RoundFault}
use Rattle.nc_code.specs.Codes.{IsMds}
use Rattle.nc_frame.specs.Frames.{Whole}
use Rattle.nc_mds.specs.Verdicts.{IsFirstPair}
use Rattle.nc_meta.specs.declared.meta.Live.{Live}
use Rattle.nc_mix.specs.Mixing.{AreChunksOf}
use Rattle.nc_settle.specs.MetaWrites.{named}
use Rattle.nc_state.specs.Clouds.{Clouds, count_of}
use Rattle.nc_download.specs.declared.short.Bad.{Bad}
use Rattle.nc_download.specs.declared.short.How.TheVariants.{Missing}
use Rattle.nc_download.specs.declared.short.Why.{Why}
use Rattle.nc_download.specs.declared.short.Why.TheVariants.{Row}
use Rattle.nc_download.specs.Chunks.{wanted_of}
use Rattle.nc_download.specs.Clouds.{HoldsChunksOf, held_at}
use Rattle.nc_fetch.specs.Asking.{GaveAtMost}
use Rattle.nc_fetch.specs.Trying.{OnlyFoundFailed, TriedBetween}
use Rattle.nc_fetch.specs.Whys.{bad_with, free, why_at}
use Rattle.nc_write.specs.declared.sealing.Placed.{Placed}
use Rattle.nc_write.specs.declared.sealing.RowWrites.{RowWrites}
use Rattle.nc_write.specs.InTurn.{WroteInTurn}
use Rattle.nc_write.specs.Putting.{placed_of}
use Rattle.nc_write.specs.Writes.{AreChunkWrites, chunk_write}
use Rattle.nc_restore.specs.declared.fault.RestoreFault.{RestoreFault}
use Rattle.nc_restore.specs.declared.fault.RestoreFault.TheVariants as fault
use Rattle.nc_restore.specs.Asking.{AskFails, JudgesAs, fault_of}

-- ---- which chunks aren't good

-- the clouds whose chunk of a row is bad, by two tables
abbrev pub by_row : List Bool → List Bool → ℕ → Clouds
by_row zeros ones zero = named zeros
by_row zeros ones (suc r) = named ones

-- how many chunks are bad
abbrev pub bad_count : ℕ → (ℕ → Clouds) → ℕ
bad_count n bad = count_of n (bad 0) + count_of n (bad 1)

-- Both rows of the clouds of P were asked for, each in a round; all gave an answer, and `bad` names the chunks that aren't good.
pub record AreJudged {A : Type 0} (F : FleetGhosts A) (name : List ℕ) (m : Live) (P : Clouds) (old new : A) (bad : ℕ → Clouds) : Type 0 where
  pub judged : F.tells → (c r : ℕ) → c < F.clouds old → r < 2 → P c ≡ true → JudgesAs (wanted_of (F.clouds old) name m r c) (held_at (F.clouds old) name m (F.held old) c r) (bad r c)
  pub only : (c r : ℕ) → r < 2 → bad r c ≡ true → (c < F.clouds old) × (P c ≡ true)
  pub few : (c : ℕ) → GaveAtMost 2 (F.chunk_gets old c) (F.chunk_gets new c)
  pub unread : (c : ℕ) → P c ≡ false → F.chunk_gets new c ≡ F.chunk_gets old c
  pub gave : (c : ℕ) → c < F.clouds old → P c ≡ true → bad 0 c ≡ false → bad 1 c ≡ false → F.chunk_gets new c ≡ got_count (F.chunk_gets old c) 2
  pub looked : OnlyLooked F old new
  pub stops : Stops F old new (λ G. G ≡ F.held old)
  pub clean : F.counts_exactly → (c : ℕ) → F.faults new c ≡ F.faults old c

-- ---- the file, from the other clouds

-- how a cloud is marked that isn't to be tried
abbrev pub untried : Why
untried = Row 0 Missing

-- of n clouds exactly those of P are marked so
pub record AreUntried (n : ℕ) (P : Clouds) (whys : List (Option Why)) : Type 0 where
  pub each : (c : ℕ) → c < n → why_at whys c ≡ (if P c then Some untried else None)

-- why cloud c was found bad, if it is none of P and was
abbrev pub why_outside : Clouds → List (Option Why) → ℕ → Option Why
why_outside P whys c = if P c then None else why_at whys c

-- the first k clouds that are none of P and were found bad, each with its cause
abbrev pub bads_outside : Clouds → List (Option Why) → ℕ → List Bad
bads_outside P whys k = some_row (λ c. bad_with c (why_outside P whys c)) 0 k

-- The file came back from clouds outside P: those that weren't found bad up to the last one that was tried, n - 2 of n. It is each file
-- whose chunks those clouds hold.
pub record ComesFromOutside {A : Type 0} (F : FleetGhosts A) (name : List ℕ) (m : Live) (old new : A) (P : Clouds) (file : List ℕ) : Type 0 where
  pub before : List (Option Why)
  pub marked : AreUntried (F.clouds old) P before
  pub whys : List (Option Why)
  pub up_to : ℕ
  pub within : up_to ≤ F.clouds old
  pub tried : TriedBetween F name m old new 0 up_to before whys
  pub alone : F.counts_exactly → OnlyFoundFailed F old new whys
  pub enough : length (free whys 0 up_to) + 2 ≡ F.clouds old
  pub long : length file ≡ m.len
  pub is_file : F.tells → (v : List ℕ) → AreBytes v → length v ≡ m.len → All (HoldsChunksOf (F.clouds old) name m v (F.held old)) (free whys 0 up_to) → file ≡ v

-- All clouds outside P were tried, fewer than n - 2 are good, and exactly the others are listed, each with its cause.
pub record TooFewOutside {A : Type 0} (F : FleetGhosts A) (name : List ℕ) (m : Live) (old new : A) (P : Clouds) (list : List Bad) : Type 0 where
  pub before : List (Option Why)
  pub marked : AreUntried (F.clouds old) P before
  pub whys : List (Option Why)
  pub tried : TriedBetween F name m old new 0 (F.clouds old) before whys
  pub alone : F.counts_exactly → OnlyFoundFailed F old new whys
  pub few : length (free whys 0 (F.clouds old)) + 2 < F.clouds old
  pub listed : list ≡ bads_outside P whys (F.clouds old)

-- why no file came back
abbrev pub LacksOutside : {A : Type 0} → FleetGhosts A → List ℕ → Live → A → A → Clouds → RestoreFault → Type 0
LacksOutside F name m old new P (fault.Short list) = TooFewOutside F name m old new P list
LacksOutside F name m old new P (fault.Cloud c) = ⊥
LacksOutside F name m old new P (fault.Unsound a b) = ⊥
LacksOutside F name m old new P fault.Memory = Unit {0}

-- ---- the writes

-- the chunk of row r of cloud c, where it is bad
abbrev pub chosen_of : List (List ℕ) → Clouds → ℕ → ℕ → Option Placed
chosen_of chunks bad r c = if bad c then Some (placed_of chunks r c) else None

-- those of the first so many clouds are chosen, and the rest is left
pub record AreChosenTo (chunks : List (List ℕ)) (bad : ℕ → Clouds) (count : ℕ) (zeros ones : List Placed) (rest : List (List ℕ)) : Type 0 where
  pub zeros_are : zeros ≡ some_row (chosen_of chunks (bad 0) 0) 0 count
  pub ones_are : ones ≡ some_row (chosen_of chunks (bad 1) 1) 0 count
  pub rest_is : rest ≡ drop (2 * count) chunks

-- the write of the chunk of row r of cloud c, where it is bad
abbrev pub restore_write : ℕ → List ℕ → Live → List (List ℕ) → Clouds → ℕ → ℕ → Option Write
restore_write n name m chunks bad r c = option_map (chunk_write n name m r) (chosen_of chunks bad r c)

-- the writes of the bad chunks, made of a file
pub record AreRestoreWrites (n : ℕ) (name : List ℕ) (m : Live) (bad : ℕ → Clouds) (file : List ℕ) (w : RowWrites) : Type 0 where
  pub chunks : List (List ℕ)
  pub are : AreChunksOf m.code file chunks
  pub row_0 : AreChunkWrites n name m 0 (some_row (chosen_of chunks (bad 0) 0) 0 n) w.first.items
  pub row_1 : AreChunkWrites n name m 1 (some_row (chosen_of chunks (bad 1) 1) 0 n) w.second.items

-- of ascending clouds, and whole frames
pub record CanBeWritten (n : ℕ) (w : RowWrites) : Type 0 where
  pub ascend_0 : AreAscending (λ j. j.cloud) n w.first.items
  pub whole_0 : All (λ j. Whole j.bytes) w.first.items
  pub ascend_1 : AreAscending (λ j. j.cloud) n w.second.items
  pub whole_1 : All (λ j. Whole j.bytes) w.second.items

abbrev pub restore_rounds : RowWrites → List (List Write)
restore_rounds w = writes w.first.items ∷ writes w.second.items ∷ []

-- the file came back from clouds outside P, and the writes were made of it
pub record MadeOfFile {A : Type 0} (F : FleetGhosts A) (name : List ℕ) (m : Live) (P : Clouds) (bad : ℕ → Clouds) (old new : A) (w : RowWrites) : Type 0 where
  pub file : List ℕ
  pub comes : ComesFromOutside F name m old new P file
  pub are : AreRestoreWrites (F.clouds old) name m bad file w

-- the answer where the rounds of writes were answered so
abbrev pub count_by : ℕ → Result (Unit {0}) RoundFault → Result ℕ RestoreFault
count_by count (Ok done) = Ok count
count_by count (Err why) = Err (fault_of why)

-- ---- all of it

-- Both rows of the clouds of P were judged, from old to mid, and some chunks are bad; then only looks were made.
pub record Looked {A : Type 0} (F : FleetGhosts A) (name : List ℕ) (m : Live) (P : Clouds) (bad : ℕ → Clouds) (old mid new : A) : Type 0 where
  pub judged : AreJudged F name m P old mid bad
  pub some : 0 < bad_count (F.clouds old) bad
  pub looked : OnlyLooked F mid new
  pub stops : Stops F mid new (λ G. G ≡ F.held mid)

-- What the restoring of the clouds of P did: the code isn't MDS; or a cloud failed that was asked, or no memory was found; or no chunk
-- was bad; or the file didn't come back from the others; or the bad chunks were made anew, and written in turn.
pub data RestoreDid {A : Type 0} (F : FleetGhosts A) (name : List ℕ) (m : Live) (P : Clouds) (old new : A) (result : Result ℕ RestoreFault) : Type 0 where
  unsound : (a b : ℕ) (kernel : List ℕ) → IsFirstPair m.code a b kernel → new ≡ old → result ≡ Err (fault.Unsound a b) → RestoreDid F name m P old new result
  unasked : IsMds m.code → (why : RestoreFault) → AskFails F P 2 old new why → result ≡ Err why → RestoreDid F name m P old new result
  all_good : IsMds m.code → (bad : ℕ → Clouds) → AreJudged F name m P old new bad → bad_count (F.clouds old) bad ≡ 0 → result ≡ Ok 0 → RestoreDid F name m P old new result
  lacking : IsMds m.code → (bad : ℕ → Clouds) (mid : A) (why : RestoreFault) → Looked F name m P bad old mid new → LacksOutside F name m mid new P why → result ≡ Err why → RestoreDid F name m P old new result
  in_turn : IsMds m.code → (bad : ℕ → Clouds) (mid last : A) → Looked F name m P bad old mid last → (w : RowWrites) (answer : Result (Unit {0}) RoundFault) → MadeOfFile F name m P bad mid last w
      → WroteInTurn F (restore_rounds w) last new answer → result ≡ count_by (bad_count (F.clouds old) bad) answer → RestoreDid F name m P old new result
