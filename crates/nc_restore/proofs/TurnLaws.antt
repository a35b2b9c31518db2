-- What the restoring of chunks did, by its steps.
use Rattle.std.proofs.Common.{◌≡◌, ◌≢◌, ◌<◌, ◌≤◌, ◌+◌, ◌==◌, ◌||◌, inl, inr, ℕ, zero, suc, Bool, true, false, if◌then◌else◌, Option, None, Some, IfSome, List, Result, Ok, Err, refl, sym, ap, ◌∙◌, subst, arith}
use Rattle.std.proofs.lemmas.Bool.{eqb-true}
use Rattle.std.proofs.lemmas.Bool.Decides.{eqb_tells}
use Rattle.nc_cloud.specs.declared.fleet.Fleet.{Ghosts as FleetGhosts}
use Rattle.nc_cloud.specs.declared.deciding.RoundFault.{RoundFault}
use Rattle.nc_cloud.specs.declared.deciding.RoundFault.TheVariants as round
use Rattle.nc_cloud.specs.Contents.{Contents, Grows, Rose}
use Rattle.nc_cloud.specs.Deciding.{HasCause, OnlyLooked}
use Rattle.nc_cloud.specs.Fleet.{got_count}
use Rattle.nc_cloud.specs.Stopping.{Stops}
use Rattle.nc_fetch.specs.Asking.{GaveAtMost}
use Rattle.nc_cloud.proofs.Time.{stops_twice}
use Rattle.nc_meta.specs.declared.meta.Live.{Live}
use Rattle.nc_settle.specs.MetaWrites.{named}
use Rattle.nc_state.specs.Clouds.{Clouds, count_of}
use Rattle.nc_download.specs.Chunks.{wanted_of}
use Rattle.nc_download.specs.Clouds.{held_at}
use Rattle.nc_restore.specs.declared.fault.RestoreFault.{RestoreFault}
use Rattle.nc_restore.specs.Asking.{AskFails, JudgesAs, RowIsJudged, is_restored}
use Rattle.nc_code.specs.Codes.{IsMds}
use Rattle.nc_write.specs.declared.sealing.RowWrites.{RowWrites}
use Rattle.nc_write.specs.InTurn.{WroteInTurn}
use Rattle.nc_restore.specs.Restoring.{AreJudged, CanBeWritten, LacksOutside, Looked, MadeOfFile, RestoreDid, bad_count, by_row, count_by, restore_rounds}
use Rattle.nc_restore.specs.Restoring.RestoreDid.{all_good, in_turn, lacking}
use Rattle.nc_restore.proofs.MakeLaws.{can_be_written}

-- ---- counts

one_more : (b : Bool) (k n : ℕ) → k ≤ n → (if b then 1 else 0) + k ≤ suc n
one_more true k n l = omega (arith, l)
one_more false k n l = omega (arith, l)

pub count_few : (n : ℕ) (D : Clouds) → count_of n D ≤ n
count_few zero D = omega arith
count_few (suc n) D = one_more (D n) (count_of n D) n (count_few n D)

pub count_more : (n : ℕ) (D : Clouds) → count_of (n + 1) D ≡ (if D n then 1 else 0) + count_of n D
count_more n D = let next : n + 1 ≡ suc n = omega arith in ap (λ k. count_of k D) next

-- one cloud more is counted
pub counted_more : (n : ℕ) (D : Clouds) (count more : ℕ) (b : Bool) → count ≡ count_of n D → b ≡ D n → more ≡ (if b then 1 else 0) + count → more ≡ count_of (n + 1) D
counted_more n D count more b was is more_is = more_is ∙ ap (λ (x : Bool). (if x then 1 else 0) + count) is ∙ ap (λ k. (if D n then 1 else 0) + k) was ∙ sym (count_more n D)

-- ---- one look after another

pub looked_then : {A : Type 0} (F : FleetGhosts A) {old mid new : A} → OnlyLooked F old mid → OnlyLooked F mid new → OnlyLooked F old new
looked_then F {old} {mid} {new} a b = record {
  clouds = b.clouds ∙ a.clouds;
  held = b.held ∙ a.held;
  grows = λ c. let first : F.faults old c ≤ F.faults mid c = a.grows c in let second : F.faults mid c ≤ F.faults new c = b.grows c in omega (arith, first, second);
  slips = b.slips ∙ a.slips;
}

-- a later round's cause is one from the first on, where the first changed no exact count
later_cause : (exact : Type 0) (before mid now : ℕ → ℕ) → Grows before mid → (exact → (c : ℕ) → mid c ≡ before c) → (why : RoundFault) → HasCause exact mid now why → HasCause exact before now why
later_cause exact before mid now grows clean (round.Cloud c) is = (
  let rose : Rose (mid c) (now c) = is.0 in let low : before c ≤ mid c = grows c in omega (arith, rose, low),
  λ told d below. is.1 told d below ∙ clean told d,
)
later_cause exact before mid now grows clean round.Memory is = tt

-- ---- chunks that were read

got_then : (before first more : ℕ) → got_count (got_count before first) more ≡ got_count before (first + more)
got_then before first more = omega arith

pub gave_then : (x y before mid now : ℕ) → GaveAtMost x before mid → GaveAtMost y mid now → GaveAtMost (x + y) before now
gave_then x y before mid now a b = record {
  given = a.given + b.given;
  few = let first : a.given ≤ x = a.few in let second : b.given ≤ y = b.few in omega (arith, first, second);
  is = b.is ∙ ap (λ k. got_count k b.given) a.is ∙ got_then before a.given b.given;
}

pub gave_fewer : (x y before now : ℕ) → x ≤ y → GaveAtMost x before now → GaveAtMost y before now
gave_fewer x y before now l a = record { given = a.given; few = let few : a.given ≤ x = a.few in omega (arith, few, l); is = a.is }

module _ {A : Type 0} (F : FleetGhosts A) (name : List ℕ) (m : Live) (P : Clouds) (old mid new : A) where
  -- both rows
  pub both_judged : (zeros ones : List Bool) → RowIsJudged F name m 0 P old mid (named zeros) → RowIsJudged F name m 1 P mid new (named ones) → AreJudged F name m P old new (by_row zeros ones)
  both_judged zeros ones a b = record {
    judged = λ told c r. by told c r;
    only = λ c r. only_by c r;
    few = λ c. gave_then 1 1 (F.chunk_gets old c) (F.chunk_gets mid c) (F.chunk_gets new c) (a.few c) (b.few c);
    unread = λ c out. b.unread c out ∙ a.unread c out;
    gave = λ c low within first second.
        let same : F.clouds mid ≡ F.clouds old = a.looked.clouds in
        b.gave c (omega (arith, low, same)) within second ∙ ap (λ k. got_count k 1) (a.gave c low within first) ∙ got_then (F.chunk_gets old c) 1 1;
    looked = looked_then F a.looked b.looked;
    stops = stops_twice a.looked.held a.stops b.stops;
    clean = λ exact c. b.clean exact c ∙ a.clean exact c;
  }
    where
      by : F.tells → (c r : ℕ) → c < F.clouds old → r < 2 → P c ≡ true → JudgesAs (wanted_of (F.clouds old) name m r c) (held_at (F.clouds old) name m (F.held old) c r) (by_row zeros ones r c)
      by told c zero low pair within = a.judged told c low within
      by told c (suc zero) low pair within =
          let same : F.clouds mid ≡ F.clouds old = a.looked.clouds in
          subst (λ (n : ℕ). JudgesAs (wanted_of n name m 1 c) (held_at n name m (F.held old) c 1) (named ones c)) same
          (subst (λ (H : Contents). JudgesAs (wanted_of (F.clouds mid) name m 1 c) (held_at (F.clouds mid) name m H c 1) (named ones c)) a.looked.held (b.judged told c (omega (arith, low, same)) within))
      by told c (suc (suc r)) low pair within = absurd (omega (arith, pair))

      only_by : (c r : ℕ) → r < 2 → by_row zeros ones r c ≡ true → (c < F.clouds old) × (P c ≡ true)
      only_by c zero pair is = a.only c is
      only_by c (suc zero) pair is = let found = b.only c is in let same : F.clouds mid ≡ F.clouds old = a.looked.clouds in (omega (arith, found.0, same), found.1)
      only_by c (suc (suc r)) pair is = absurd (omega (arith, pair))

  -- the round of row 0 isn't Ok
  pub first_fails : (result : RestoreFault) → AskFails F P 1 old new result → AskFails F P 2 old new result
  first_fails result fails = record {
    why = fails.why;
    is = fails.is;
    cause = fails.cause;
    one = fails.one;
    few = λ c. gave_fewer 1 2 (F.chunk_gets old c) (F.chunk_gets new c) (omega arith) (fails.few c);
    looked = fails.looked;
    stops = fails.stops;
  }

  -- row 0 was judged, and the round of row 1 isn't Ok
  pub second_fails : (bad : Clouds) (result : RestoreFault) → RowIsJudged F name m 0 P old mid bad → AskFails F P 1 mid new result → AskFails F P 2 old new result
  second_fails bad result a fails = record {
    why = fails.why;
    is = fails.is;
    cause = later_cause F.counts_exactly (F.faults old) (F.faults mid) (F.faults new) a.looked.grows a.clean fails.why fails.cause;
    one = fails.one;
    few = λ c. gave_then 1 1 (F.chunk_gets old c) (F.chunk_gets mid c) (F.chunk_gets new c) (a.few c) (fails.few c);
    looked = looked_then F a.looked fails.looked;
    stops = stops_twice a.looked.held a.stops fails.stops;
  }

-- ---- all of it

module _ {A : Type 0} (F : FleetGhosts A) (name : List ℕ) (m : Live) (P : Clouds) (old mid : A) (bad : ℕ → Clouds) (judged : AreJudged F name m P old mid bad) (w count : ℕ) (width : w ≡ F.clouds mid) (is : count ≡ bad_count w bad) where
  count_is : count ≡ bad_count (F.clouds old) bad
  count_is = is ∙ ap (λ k. bad_count k bad) (width ∙ judged.looked.clouds)

  pub did_all_good : IsMds m.code → count ≡ 0 → RestoreDid F name m P old mid (Ok 0)
  did_all_good mds none = all_good mds bad judged (sym count_is ∙ none) refl

  abbrev SomeBad : Type 0
  SomeBad = count ≢ 0

  looks : {last : A} → SomeBad → OnlyLooked F mid last → Stops F mid last (λ G. G ≡ F.held mid) → Looked F name m P bad old mid last
  looks some looked stops = record { judged = judged; some = let same : count ≡ bad_count (F.clouds old) bad = count_is in omega (arith, same, some); looked = looked; stops = stops }

  pub did_lack : (new : A) (why : RestoreFault) → IsMds m.code → SomeBad → OnlyLooked F mid new → Stops F mid new (λ G. G ≡ F.held mid) → LacksOutside F name m mid new P why → RestoreDid F name m P old new (Err why)
  did_lack new why mds some looked stops lacks = lacking mds bad mid why (looks some looked stops) lacks refl

  pub did_write : (last new : A) (writes : RowWrites) (answer : Result (Unit {0}) RoundFault) (result : Result ℕ RestoreFault) → IsMds m.code → SomeBad → OnlyLooked F mid last → Stops F mid last (λ G. G ≡ F.held mid)
      → MadeOfFile F name m P bad mid last writes → WroteInTurn F (restore_rounds writes) last new answer → result ≡ count_by count answer → RestoreDid F name m P old new result
  did_write last new writes answer result mds some looked stops remade turn by =
      in_turn mds bad mid last (looks some looked stops) writes answer remade turn (by ∙ ap (λ k. count_by k answer) count_is)

-- the writes fit the clouds
pub fit_clouds : {A : Type 0} (F : FleetGhosts A) (name : List ℕ) (m : Live) (P : Clouds) (bad : ℕ → Clouds) (mid last : A) (w : RowWrites) → F.clouds last ≡ F.clouds mid → MadeOfFile F name m P bad mid last w → CanBeWritten (F.clouds last) w
fit_clouds F name m P bad mid last w same remade = subst (λ n. CanBeWritten n w) (sym same) (can_be_written (F.clouds mid) name m bad remade.file w remade.are)

-- the clouds to be restored are among the first n
pub restored_within : (first : ℕ) (second : Option ℕ) (n : ℕ) → first < n → IfSome second (λ c. c < n) → (c : ℕ) → is_restored first second c ≡ true → c < n
restored_within first None n low none c is = let same : c ≡ first = eqb-true c first is in omega (arith, low, same)
restored_within first (Some second) n low other c is = elim (eqb_tells c first) [
  | inl same ↦ let at : c ≡ first = same.1 in omega (arith, low, at)
  | inr differs ↦
      let at : c ≡ second = eqb-true c second (sym (ap (λ (b : Bool). b || c == second) differs.0) ∙ is) in
      let high : second < n = other in
      omega (arith, high, at)
]
