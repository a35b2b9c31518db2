-- What follows of what the restoring of chunks did.
use Rattle.std.proofs.Common.{◌≡◌, ◌≢◌, ◌<◌, ◌≤◌, ◌+◌, ℕ, zero, suc, Bool, true, false, if◌then◌else◌, List, Result, Ok, Err, IfErr, IfOk, inl, inr, refl, sym, ap, ◌∙◌, subst, arith}
use Rattle.std.proofs.lemmas.Bool.Decides.{eqb_tells}
use Rattle.nc_name.specs.declared.key.Key.{Key}
use Rattle.nc_name.specs.Keys.{name_of}
use Rattle.nc_code.specs.Codes.{IsMds}
use Rattle.nc_cloud.specs.declared.deciding.RoundFault.{RoundFault}
use Rattle.nc_cloud.specs.declared.deciding.RoundFault.TheVariants as round
use Rattle.nc_cloud.specs.declared.fleet.Job.{Job}
use Rattle.nc_cloud.specs.declared.fleet.Fleet.{Ghosts as FleetGhosts}
use Rattle.nc_cloud.specs.Contents.{Contents}
use Rattle.nc_cloud.specs.Deciding.{OnlyLooked}
use Rattle.nc_cloud.specs.Fleet.{writes}
use Rattle.nc_cloud.specs.Images.{Image}
use Rattle.nc_cloud.specs.Rounds.{some_row}
use Rattle.nc_cloud.specs.Stopping.{Keeps, Stops}
use Rattle.nc_cloud.proofs.Time.{goes_none, goes_then, keeps_by, keeps_look, keeps_none, keeps_then}
use Rattle.nc_meta.specs.declared.meta.Live.{Live}
use Rattle.nc_state.specs.Clouds.{Clouds, count_of}
use Rattle.nc_state.specs.Vaults.{ChangesOnlyName}
use Rattle.nc_download.specs.declared.short.Bad.{Bad}
use Rattle.nc_download.specs.declared.short.How.{How}
use Rattle.nc_download.specs.Chunks.{wanted_of}
use Rattle.nc_download.specs.Clouds.{IsBadRow, IsGoodRow, held_at}
use Rattle.nc_write.specs.declared.sealing.RowWrites.{RowWrites}
use Rattle.nc_write.specs.InTurn.{WroteInTurn}
use Rattle.nc_write.specs.Writes.{AreChunkWrites, chunk_key}
use Rattle.nc_write.proofs.InTurnLaws.{RoundsKeep, rounds_keep}
use Rattle.nc_restore.specs.declared.fault.RestoreFault.{RestoreFault}
use Rattle.nc_restore.specs.declared.fault.RestoreFault.TheVariants as fault
use Rattle.nc_restore.specs.Asking.{AskFails, JudgesAs, fault_of}
use Rattle.nc_restore.specs.Restoring.{AreJudged, AreRestoreWrites, LacksOutside, Looked, MadeOfFile, RestoreDid, TooFewOutside, bad_count, chosen_of, count_by, restore_rounds}
use Rattle.nc_restore.specs.Restoring.RestoreDid.{all_good, in_turn, lacking, unasked, unsound}
use Rattle.nc_restore.specs.Restored.{ChangesOnlyBad, IsBadPlace, KeptAtRefusal, TellsSoundness, IfUnsound}
use Rattle.nc_repair.proofs.DoneLaws.{RepairKeeps}
use Rattle.nc_restore.proofs.RoundLaws.{turn_keeps}
use Rattle.nc_restore.proofs.RowLaws.{row_untouched}

-- ---- answers

pub by_answer : (Q : Result ℕ RestoreFault → Type 0) {result r : Result ℕ RestoreFault} → result ≡ r → Q r → Q result
by_answer Q is q = subst Q (sym is) q

-- what holds of the fault of a round
by_round : (Q : RestoreFault → Type 0) (why : RoundFault) → Q fault.Memory → ((c : ℕ) → why ≡ round.Cloud c → Q (fault.Cloud c)) → Q (fault_of why)
by_round Q (round.Cloud c) memory cloud = cloud c refl
by_round Q round.Memory memory cloud = memory

-- what holds where the rounds were Ok, and where they weren't
if_written : (Q : ℕ → Type 0) (count : ℕ) (answer : Result (Unit {0}) RoundFault) → (answer ≡ Ok tt → Q count) → IfOk (count_by count answer) Q
if_written Q count (Ok done) ok = ok refl
if_written Q count (Err why) ok = tt

if_unwritten : (Q : RestoreFault → Type 0) (count : ℕ) (answer : Result (Unit {0}) RoundFault) → Q fault.Memory → ((c : ℕ) → answer ≡ Err (round.Cloud c) → Q (fault.Cloud c)) → IfErr (count_by count answer) Q
if_unwritten Q count (Ok done) memory cloud = tt
if_unwritten Q count (Err why) memory cloud = by_round Q why memory (λ c is. cloud c (ap (λ (w : RoundFault). Err w) is))

-- what holds where the file didn't come back
if_lacking : {A : Type 0} (F : FleetGhosts A) (name : List ℕ) (m : Live) (old new : A) (P : Clouds) (Q : RestoreFault → Type 0) (why : RestoreFault) → LacksOutside F name m old new P why → Q fault.Memory
    → ((list : List Bad) → TooFewOutside F name m old new P list → Q (fault.Short list)) → Q why
if_lacking F name m old new P Q (fault.Short list) lacks memory short = short list lacks
if_lacking F name m old new P Q (fault.Cloud c) lacks memory short = absurd lacks
if_lacking F name m old new P Q (fault.Unsound a b) lacks memory short = absurd lacks
if_lacking F name m old new P Q fault.Memory lacks memory short = memory

sound_by : (m : Live) (count : ℕ) (answer : Result (Unit {0}) RoundFault) → IsMds m.code → TellsSoundness m (count_by count answer)
sound_by m count (Ok done) mds = mds
sound_by m count (Err why) mds = by_round (λ f. TellsSoundness m (Err f)) why mds (λ c is. mds)

-- ---- counts

pub counts_same : (n : ℕ) (D E : Clouds) → ((c : ℕ) → c < n → D c ≡ E c) → count_of n D ≡ count_of n E
counts_same zero D E each = refl
counts_same (suc n) D E each =
    ap (λ (b : Bool). (if b then 1 else 0) + count_of n D) (each n (omega arith)) ∙ ap (λ k. (if E n then 1 else 0) + k) (counts_same n D E (λ c l. each c (omega (arith, l))))

some_step : (n : ℕ) (D : Clouds) (b : Bool) → D n ≡ b → 0 < (if b then 1 else 0) + count_of n D → (0 < count_of n D → (c : ℕ) × (c < n) × (D c ≡ true)) → (c : ℕ) × (c < suc n) × (D c ≡ true)
some_step n D true is some rest = (n, omega arith, is)
some_step n D false is some rest = let found = rest (omega (arith, some)) in (found.0, omega (arith, found.1), found.2)

-- where some are counted, there is one
pub some_there : (n : ℕ) (D : Clouds) → 0 < count_of n D → (c : ℕ) × (c < n) × (D c ≡ true)
some_there zero D some = absurd (omega (arith, some))
some_there (suc n) D some = some_step n D (D n) refl some (some_there n D)

none_step : (n : ℕ) (D : Clouds) (b : Bool) → D n ≡ b → (if b then 1 else 0) + count_of n D ≡ 0 → (count_of n D ≡ 0 → (c : ℕ) → c < n → D c ≡ false) → (c : ℕ) → c < suc n → D c ≡ false
none_step n D true is none rest = absurd (omega (arith, none))
none_step n D false is none rest = λ c l.
    elim (eqb_tells c n) [
      | inl same ↦ subst (λ k. D k ≡ false) (sym same.1) is
      | inr other ↦ let differs : c ≢ n = other.1 in rest (omega (arith, none)) c (omega (arith, l, differs))
    ]

-- where none is counted, there is none
pub none_there : (n : ℕ) (D : Clouds) → count_of n D ≡ 0 → (c : ℕ) → c < n → D c ≡ false
none_there zero D none c l = absurd (omega (arith, l))
none_there (suc n) D none c l = none_step n D (D n) refl none (none_there n D) c l

-- ---- one look

look_keeps : {A : Type 0} (F : FleetGhosts A) {old new : A} {Q : Contents → Type 0} → OnlyLooked F old new → Stops F old new Q → RepairKeeps F old new
look_keeps F looked stops = record { clouds = looked.clouds; grows = looked.grows; slips = looked.slips; time = stops.time }

keeps_after : {A : Type 0} (F : FleetGhosts A) {old mid new : A} → RepairKeeps F old mid → RepairKeeps F mid new → RepairKeeps F old new
keeps_after F {old} {mid} {new} a b = record {
  clouds = b.clouds ∙ a.clouds;
  grows = λ c. let first : F.faults old c ≤ F.faults mid c = a.grows c in let second : F.faults mid c ≤ F.faults new c = b.grows c in omega (arith, first, second);
  slips = b.slips ∙ a.slips;
  time = goes_then a.time b.time;
}

-- the looks before the writes keep what old has
pub looks_keep : {A : Type 0} (F : FleetGhosts A) (Q : Contents → Type 0) {old mid new : A} → F.held mid ≡ F.held old → Stops F old mid (λ G. G ≡ F.held old) → F.held new ≡ F.held mid → Stops F mid new (λ G. G ≡ F.held mid) → Q (F.held old)
    → Keeps F old new Q
looks_keep F Q {old} {mid} {new} first a second b q = keeps_then (keeps_look Q first a q) (keeps_look Q second b (subst Q (sym first) q))

-- what a judged chunk is
pub judged_by : (n : ℕ) (name : List ℕ) (m : Live) (H : Contents) (c r : ℕ) (b : Bool) → b ≡ true → JudgesAs (wanted_of n name m r c) (held_at n name m H c r) b → (how : How) × IsBadRow n name m H c r how
judged_by n name m H c r true is judges = judges
judged_by n name m H c r false is judges = absurd cc

pub judged_good : (n : ℕ) (name : List ℕ) (m : Live) (H : Contents) (c r : ℕ) (b : Bool) → b ≡ false → JudgesAs (wanted_of n name m r c) (held_at n name m H c r) b → (payload : List ℕ) × IsGoodRow n name m H c r payload
judged_good n name m H c r true is judges = absurd cc
judged_good n name m H c r false is judges = judges

-- the writes were made, and were all answered so
pub record Made {A : Type 0} (F : FleetGhosts A) (name : List ℕ) (m : Live) (P : Clouds) (old new : A) (bad : ℕ → Clouds) (answer : Result (Unit {0}) RoundFault) : Type 0 where
  pub mid : A
  pub last : A
  pub looked : Looked F name m P bad old mid last
  pub w : RowWrites
  pub remade : MadeOfFile F name m P bad mid last w
  pub turn : WroteInTurn F (restore_rounds w) last new answer

module _ {A : Type 0} (F : FleetGhosts A) (name : List ℕ) (m : Live) (P : Clouds) (old new : A) where
  abbrev n : ℕ
  n = F.clouds old

  -- what holds where it is done
  pub did_ok : (Q : ℕ → Type 0) (result : Result ℕ RestoreFault) → ((bad : ℕ → Clouds) → AreJudged F name m P old new bad → bad_count n bad ≡ 0 → Q 0) → ((bad : ℕ → Clouds) → Made F name m P old new bad (Ok tt) → Q (bad_count n bad))
      → RestoreDid F name m P old new result → IfOk result Q
  did_ok Q result none made (unsound a b kernel first same is) = by_answer (λ r. IfOk r Q) is tt
  did_ok Q result none made (unasked mds why fails is) = by_answer (λ r. IfOk r Q) is tt
  did_ok Q result none made (all_good mds bad judged zero_count is) = by_answer (λ r. IfOk r Q) is (none bad judged zero_count)
  did_ok Q result none made (lacking mds bad mid why looked lacks is) = by_answer (λ r. IfOk r Q) is tt
  did_ok Q result none made (in_turn mds bad mid last looked w answer remade turn is) =
      by_answer (λ r. IfOk r Q) is
      (if_written Q (bad_count n bad) answer
      (λ ok. made bad (record { mid = mid; last = last; looked = looked; w = w; remade = remade; turn = subst (λ (r : Result (Unit {0}) RoundFault). WroteInTurn F (restore_rounds w) last new r) ok turn })))

  -- what holds where it isn't
  pub did_err : (Q : RestoreFault → Type 0) (result : Result ℕ RestoreFault) → Q fault.Memory → ((a b : ℕ) → new ≡ old → Q (fault.Unsound a b)) → ((why : RestoreFault) → AskFails F P 2 old new why → Q why)
      → ((list : List Bad) (bad : ℕ → Clouds) (mid : A) → Looked F name m P bad old mid new → TooFewOutside F name m mid new P list → Q (fault.Short list))
      → ((c : ℕ) (bad : ℕ → Clouds) → Made F name m P old new bad (Err (round.Cloud c)) → Q (fault.Cloud c)) → RestoreDid F name m P old new result → IfErr result Q
  did_err Q result memory unfit fails short cloud (unsound a b kernel first same is) = by_answer (λ r. IfErr r Q) is (unfit a b same)
  did_err Q result memory unfit fails short cloud (unasked mds why asked is) = by_answer (λ r. IfErr r Q) is (fails why asked)
  did_err Q result memory unfit fails short cloud (all_good mds bad judged zero_count is) = by_answer (λ r. IfErr r Q) is tt
  did_err Q result memory unfit fails short cloud (lacking mds bad mid why looked lacks is) =
      by_answer (λ r. IfErr r Q) is (if_lacking F name m mid new P Q why lacks memory (λ list few. short list bad mid looked few))
  did_err Q result memory unfit fails short cloud (in_turn mds bad mid last looked w answer remade turn is) =
      by_answer (λ r. IfErr r Q) is
      (if_unwritten Q (bad_count n bad) answer memory
      (λ c failed. cloud c bad (record { mid = mid; last = last; looked = looked; w = w; remade = remade; turn = subst (λ (r : Result (Unit {0}) RoundFault). WroteInTurn F (restore_rounds w) last new r) failed turn })))

  -- ---- what it keeps

  same_keeps : new ≡ old → RepairKeeps F old new
  same_keeps same = subst (λ (e : A). RepairKeeps F old e) (sym same) (record { clouds = refl; grows = λ c. omega arith; slips = refl; time = goes_none old })

  pub looked_keeps : (bad : ℕ → Clouds) (mid last : A) → Looked F name m P bad old mid last → RepairKeeps F old last
  looked_keeps bad mid last looked = keeps_after F (look_keeps F looked.judged.looked looked.judged.stops) (look_keeps F looked.looked looked.stops)

  pub did_keep : (result : Result ℕ RestoreFault) → RestoreDid F name m P old new result → RepairKeeps F old new
  did_keep result (unsound a b kernel first same is) = same_keeps same
  did_keep result (unasked mds why fails is) = look_keeps F fails.looked fails.stops
  did_keep result (all_good mds bad judged none is) = look_keeps F judged.looked judged.stops
  did_keep result (lacking mds bad mid why looked lacks is) = looked_keeps bad mid new looked
  did_keep result (in_turn mds bad mid last looked w answer remade turn is) =
      let kept : RoundsKeep F last new answer = rounds_keep (restore_rounds w) last new answer turn in
      keeps_after F (looked_keeps bad mid last looked) (record { clouds = kept.clouds; grows = kept.grows; slips = kept.slips; time = kept.time })

  pub did_sound : (result : Result ℕ RestoreFault) → RestoreDid F name m P old new result → TellsSoundness m result
  did_sound result (unsound a b kernel first same is) = by_answer (TellsSoundness m) is (kernel, first)
  did_sound result (unasked mds why fails is) = by_answer (TellsSoundness m) is (subst (λ f. TellsSoundness m (Err f)) (sym fails.is) (by_round (λ f. TellsSoundness m (Err f)) fails.why mds (λ c e. mds)))
  did_sound result (all_good mds bad judged none is) = by_answer (TellsSoundness m) is mds
  did_sound result (lacking mds bad mid why looked lacks is) = by_answer (TellsSoundness m) is (if_lacking F name m mid new P (λ f. TellsSoundness m (Err f)) why lacks mds (λ list few. mds))
  did_sound result (in_turn mds bad mid last looked w answer remade turn is) = by_answer (TellsSoundness m) is (sound_by m (bad_count n bad) answer mds)

  kept_by : (f : RestoreFault) → F.held new ≡ F.held old → KeptAtRefusal (F.held new ≡ F.held old) f
  kept_by (fault.Short list) same = same
  kept_by (fault.Unsound a b) same = same
  kept_by (fault.Cloud c) same = tt
  kept_by fault.Memory same = tt

  pub did_kept : (result : Result ℕ RestoreFault) → RestoreDid F name m P old new result → IfErr result (KeptAtRefusal (F.held new ≡ F.held old))
  did_kept result =
      did_err (KeptAtRefusal (F.held new ≡ F.held old)) result tt (λ a b same. ap F.held same) (λ why fails. kept_by why fails.looked.held) (λ list bad mid looked few. looked.looked.held ∙ looked.judged.looked.held) (λ c bad made. tt)

  -- where the code isn't MDS, nothing was done
  not_unsound : (why : RoundFault) → IfUnsound (new ≡ old) (fault_of why)
  not_unsound (round.Cloud c) = tt
  not_unsound round.Memory = tt

  pub did_unasked : (result : Result ℕ RestoreFault) → RestoreDid F name m P old new result → IfErr result (IfUnsound (new ≡ old))
  did_unasked result =
      did_err (IfUnsound (new ≡ old)) result tt (λ a b same. same) (λ why fails. subst (IfUnsound (new ≡ old)) (sym fails.is) (not_unsound fails.why)) (λ list bad mid looked few. tt) (λ c bad made. tt)

  -- where nothing was written, nothing changed
  pub did_none : (result : Result ℕ RestoreFault) → RestoreDid F name m P old new result → IfOk result (λ count. count ≡ 0 → F.held new ≡ F.held old)
  did_none result =
      did_ok (λ count. count ≡ 0 → F.held new ≡ F.held old) result (λ bad judged none zero_count. judged.looked.held)
      (λ bad made zero_count. let some : 0 < bad_count n bad = made.looked.some in absurd (omega (arith, some, zero_count)))

  -- ---- which objects change

  -- a bad chunk
  pub bad_place : F.tells → (mid : A) (bad : ℕ → Clouds) → AreJudged F name m P old mid bad → (c r : ℕ) → r < 2 → bad r c ≡ true → (place : Key) → place ≡ chunk_key name m r c → IsBadPlace n name m P (F.held old) c place
  bad_place told mid bad judged c r pair is place at =
      let only = judged.only c r pair is in
      let how = judged_by n name m (F.held old) c r (bad r c) is (judged.judged told c r only.0 pair only.1) in
      record { within = only.0; one = only.1; row = r; pair = pair; at = at; how = how.0; bad = how.1 }

  pub writes_at : (mid last : A) (bad : ℕ → Clouds) (w : RowWrites) → AreJudged F name m P old mid bad → (remade : MadeOfFile F name m P bad mid last w) → AreRestoreWrites n name m bad remade.file w
  writes_at mid last bad w judged remade = subst (λ k. AreRestoreWrites k name m bad remade.file w) judged.looked.clouds remade.are

  only_step : F.tells → (mid : A) (bad : ℕ → Clouds) → AreJudged F name m P old mid bad → (r : ℕ) → r < 2 → (chunks : List (List ℕ)) (jobs : List Job) → AreChunkWrites n name m r (some_row (chosen_of chunks (bad r) r) 0 n) jobs
      → (H G : Contents) → ChangesOnlyBad n name m P (F.held old) H → Image (writes jobs) H G → ChangesOnlyBad n name m P (F.held old) G
  only_step told mid bad judged r pair chunks jobs made H G q image = record {
    others = λ c place other.
        row_untouched n name m (bad r) r chunks jobs made H G c place image (λ low one at. other (bad_place told mid bad judged c r pair one place at)) ∙ q.others c place other;
  }

  only_none : ChangesOnlyBad n name m P (F.held old) (F.held old)
  only_none = record { others = λ c place other. refl }

  abbrev Only : Contents → Type 0
  Only = ChangesOnlyBad n name m P (F.held old)

  pub did_only : F.tells → (result : Result ℕ RestoreFault) → RestoreDid F name m P old new result → Keeps F old new Only
  did_only told result (unsound a b kernel first same is) = subst (λ (e : A). Keeps F old e Only) (sym same) (keeps_none old Only only_none)
  did_only told result (unasked mds why fails is) = keeps_look Only fails.looked.held fails.stops only_none
  did_only told result (all_good mds bad judged none is) = keeps_look Only judged.looked.held judged.stops only_none
  did_only told result (lacking mds bad mid why looked lacks is) = looks_keep F Only looked.judged.looked.held looked.judged.stops looked.looked.held looked.stops only_none
  did_only told result (in_turn mds bad mid last looked w answer remade turn is) =
      let are : AreRestoreWrites n name m bad remade.file w = writes_at mid last bad w looked.judged remade in
      let first : Keeps F old last Only = looks_keep F Only looked.judged.looked.held looked.judged.stops looked.looked.held looked.stops only_none in
      keeps_then first
      (turn_keeps F Only told (restore_rounds w) last new answer (
        only_step told mid bad looked.judged 0 (omega arith) are.chunks w.first.items are.row_0,
        (only_step told mid bad looked.judged 1 (omega arith) are.chunks w.second.items are.row_1, tt),
      ) first.here turn)

  pub did_alone : F.tells → (result : Result ℕ RestoreFault) → RestoreDid F name m P old new result → Keeps F old new (ChangesOnlyName name (F.held old))
  did_alone told result did =
      keeps_by (ChangesOnlyName name (F.held old)) (did_only told result did)
      (λ G only. record { others = λ c place other. only.others c place (λ bad. other (ap name_of bad.at)) })
