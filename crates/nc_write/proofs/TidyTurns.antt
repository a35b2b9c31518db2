-- What the rounds of tidying, one after the other, leave.
use Rattle.std.proofs.Common.{◌≡◌, ◌<◌, ◌≤◌, ℕ, Option, None, List, [], ◌∷◌, Result, Ok, Err, OnOk, refl, sym, ◌∙◌, subst, arith}
use Rattle.nc_name.specs.declared.blob.Memory.{Memory}
use Rattle.nc_name.specs.declared.key.Key.{Key}
use Rattle.nc_name.specs.Names.{IsName}
use Rattle.nc_meta.specs.declared.meta.Meta.{Meta}
use Rattle.nc_cloud.specs.declared.fleet.Erase.{Erase}
use Rattle.nc_cloud.specs.declared.fleet.Fleet.{Ghosts as FleetGhosts}
use Rattle.nc_cloud.specs.Contents.{Contents, Grows, Rose}
use Rattle.nc_cloud.specs.Deciding.{Erased}
use Rattle.nc_cloud.specs.Fleet.{erasures}
use Rattle.nc_cloud.specs.Images.{Written}
use Rattle.nc_cloud.specs.Stopping.{GoesOn, Keeps}
use Rattle.nc_cloud.proofs.Counts.{rose_more}
use Rattle.nc_cloud.proofs.Time.{goes_none, goes_then, keeps_by, keeps_none, keeps_then}
use Rattle.nc_state.specs.Tidy.{IsTidy}
use Rattle.nc_state.specs.Vaults.{ChangesOnlyName}
use Rattle.nc_state.proofs.Alone.{alone_none, alone_round, alone_then}
use Rattle.nc_write.specs.declared.part.Part.{Part}
use Rattle.nc_write.specs.Tidying.{AfterPart, AreErasures, ErasedFirst, ErasedInTurn, ErasedPart, LeavesWhatCounts, NoneSlipped, all_parts, erasures_of}
use Rattle.nc_write.proofs.TidyLaws.{PartsGone, erasures_named, leaves_none, leaves_then, part_gone, round_leaves, still_gone, still_none, tidy_by}
use Rattle.nc_write.proofs.VersionRounds.{not_ok}

-- a round of these deletes is that of a part
pub erased_as : {A : Type 0} {F : FleetGhosts A} {name : List ℕ} {top : Option Meta} {p : Part} {n k : ℕ} {erases : List Erase} {old new : A} → AreErasures name top p k erases → k ≡ n → Erased F (erasures erases) old new
    → Erased F (erasures_of n name top p) old new
erased_as {F = F} {name = name} {top = top} {p = p} {old = old} {new = new} made width erased = subst (λ i. Erased F (erasures_of i name top p) old new) width (subst (λ ps. Erased F ps old new) made.are erased)

module _ {A : Type 0} {F : FleetGhosts A} {name : List ℕ} {top : Option Meta} {p : Part} {rest : A → Type 0} where
  -- a part, and then the rest
  pub part_then : {old mid new : A} {result : Result (Unit {0}) Memory} → ErasedPart F name top p old mid (Ok tt) → rest mid → ErasedFirst F name top p rest old new result
  part_then {mid = mid} erased next = record { mid = mid; answer = Ok tt; erased = erased; after = next }

  -- no memory for a part
  pub part_stops : {old new : A} {fault : Memory} → ErasedPart F name top p old new (Err fault) → ErasedFirst F name top p rest old new (Err fault)
  part_stops {new = new} {fault = fault} same = record { mid = new; answer = Err fault; erased = same; after = (refl, refl) }

-- these parts are gone, and nothing new is there
pub record AllGone (n : ℕ) (name : List ℕ) (top : Option Meta) (parts : List Part) (F G : Contents) : Type 0 where
  pub each : PartsGone n G name top parts
  pub still : (c : ℕ) (place : Key) → F c place ≡ None → G c place ≡ None

pub record TurnKeeps {A : Type 0} (F : FleetGhosts A) (n : ℕ) (name : List ℕ) (top : Option Meta) (parts : List Part) (old new : A) (result : Result (Unit {0}) Memory) : Type 0 where
  pub keeps : F.tells → Keeps F old new (LeavesWhatCounts n name top (F.held old))
  pub alone : F.tells → Keeps F old new (ChangesOnlyName name (F.held old))
  pub gone : F.tells → F.sure_deletes → result ≡ Ok tt → NoneSlipped F old new → AllGone n name top parts (F.held old) (F.held new)
  pub clouds : F.clouds new ≡ F.clouds old
  pub faults : F.faults new ≡ F.faults old
  pub grows : Grows (F.slips old) (F.slips new)
  pub gets : F.chunk_gets new ≡ F.chunk_gets old
  pub time : GoesOn F old new

rose_sooner : (before mid now : ℕ) → mid ≤ now → Rose before mid → Rose before now
rose_sooner before mid now low rose = omega (arith, low, rose)

gone_more : (n : ℕ) (name : List ℕ) (top : Option Meta) (parts : List Part) (F G : Contents) → ((c : ℕ) (place : Key) → F c place ≡ None → G c place ≡ None) → PartsGone n F name top parts → PartsGone n G name top parts
gone_more n name top [] F G still was = tt
gone_more n name top (p ∷ parts) F G still was = (still_gone n name top p F G still was.0, gone_more n name top parts F G still was.1)

module _ {A : Type 0} (F : FleetGhosts A) (name : List ℕ) (top : Option Meta) (is_name : IsName name) where
  -- nothing was done
  keep_none : (n : ℕ) (old : A) (parts : List Part) (result : Result (Unit {0}) Memory) → (result ≡ Ok tt → parts ≡ []) → TurnKeeps F n name top parts old old result
  keep_none n old parts result all = record {
    keeps = λ told. keeps_none old (LeavesWhatCounts n name top (F.held old)) (leaves_none n name top (F.held old));
    alone = λ told. alone_none F name old;
    gone = λ told sure ok none. record { each = subst (PartsGone n (F.held old) name top) (sym (all ok)) tt; still = λ c place was. was };
    clouds = refl;
    faults = refl;
    grows = λ c. omega arith;
    gets = refl;
    time = goes_none old;
  }

  -- one part, and then others
  keep_then : (n : ℕ) (p : Part) (parts : List Part) (old mid new : A) (result : Result (Unit {0}) Memory) → n ≡ F.clouds old → Erased F (erasures_of n name top p) old mid → TurnKeeps F n name top parts mid new result
      → TurnKeeps F n name top (p ∷ parts) old new result
  keep_then n p parts old mid new result width first rest = record {
    keeps = λ told.
        let here : Keeps F old mid (LeavesWhatCounts n name top (F.held old)) =
        keeps_by (LeavesWhatCounts n name top (F.held old)) (first.keeps told) (λ G image. round_leaves n name top p (F.held old) G is_name image) in
        keeps_then here (keeps_by (LeavesWhatCounts n name top (F.held old)) (rest.keeps told) (λ G left. leaves_then n name top (F.held old) (F.held mid) G here.here left));
    alone = λ told. alone_then F name (alone_round F name (erasures_of n name top p) (erasures_named n name top p) (first.keeps told)) (rest.alone told);
    gone = λ told sure ok none.
        let written : Written (erasures_of n name top p) (F.held old) (F.held mid) =
        first.gone told sure (λ c l rose. none.none c l (rose_sooner (F.slips old c) (F.slips mid c) (F.slips new c) (rest.grows c) rose)) in
        let later : AllGone n name top parts (F.held mid) (F.held new) =
        rest.gone told sure ok (record { none = λ c l rose. none.none c (subst (λ k. c < k) first.clouds l) (rose_more (F.slips old c) (F.slips mid c) (F.slips new c) (first.grows c) rose) }) in
        record {
          each = (still_gone n name top p (F.held mid) (F.held new) later.still (part_gone n name top p (F.held old) (F.held mid) written), later.each);
          still = λ c place was. later.still c place (still_none n name top p (F.held old) (F.held mid) written c place was);
        };
    clouds = rest.clouds ∙ first.clouds;
    faults = rest.faults ∙ first.faults;
    grows = λ c. let low : F.slips old c ≤ F.slips mid c = first.grows c in let high : F.slips mid c ≤ F.slips new c = rest.grows c in omega (arith, low, high);
    gets = rest.gets ∙ first.gets;
    time = goes_then first.time rest.time;
  }

  keep_first : (p : Part) (parts : List Part) (old mid new : A) (result answer : Result (Unit {0}) Memory) → ErasedPart F name top p old mid answer → AfterPart answer (ErasedInTurn F name top parts mid new result) mid new result
      → (ErasedInTurn F name top parts mid new result → TurnKeeps F (F.clouds mid) name top parts mid new result) → TurnKeeps F (F.clouds old) name top (p ∷ parts) old new result
  keep_first p parts old mid new result (Ok done) erased next rests =
      keep_then (F.clouds old) p parts old mid new result refl erased (subst (λ k. TurnKeeps F k name top parts mid new result) erased.clouds (rests next))
  keep_first p parts old mid new result (Err fault) erased next rests =
      subst (λ (e : A). TurnKeeps F (F.clouds old) name top (p ∷ parts) old e result) (sym (next.0 ∙ erased))
      (keep_none (F.clouds old) old (p ∷ parts) result (λ ok. absurd (not_ok tt fault result ok next.1)))

  pub turn_keeps : (parts : List Part) (old new : A) (result : Result (Unit {0}) Memory) → ErasedInTurn F name top parts old new result → TurnKeeps F (F.clouds old) name top parts old new result
  turn_keeps [] old new result turn = subst (λ (e : A). TurnKeeps F (F.clouds old) name top [] old e result) (sym turn.0) (keep_none (F.clouds old) old [] result (λ ok. refl))
  turn_keeps (p ∷ parts) old new result turn = keep_first p parts old turn.mid new result turn.answer turn.erased turn.after (λ rest. turn_keeps parts turn.mid new result rest)

  tidy_ok : (old new : A) (T : Type 0) (result : Result (Unit {0}) Memory) → (result ≡ Ok tt → T) → OnOk result T
  tidy_ok old new T (Ok done) each = each refl
  tidy_ok old new T (Err fault) each = tt

  pub turn_tidies : (old new : A) (result : Result (Unit {0}) Memory) → ErasedInTurn F name top all_parts old new result → F.tells → F.sure_deletes
      → OnOk result (NoneSlipped F old new → IsTidy (F.clouds old) (F.held new) name top)
  turn_tidies old new result turn told sure =
      tidy_ok old new (NoneSlipped F old new → IsTidy (F.clouds old) (F.held new) name top) result
      (λ ok none. tidy_by (F.clouds old) (F.held new) name top ((turn_keeps all_parts old new result turn).gone told sure ok none).each)
