-- Counts over the record of a memory fleet.
use Rattle.std.proofs.Common.{◌≡◌, ◌≢◌, ℕ, zero, suc, ◌+◌, ◌<◌, ◌≤◌, Bool, true, false, ◌&&◌, Option, None, Some, List, [], ◌∷◌, ◌++◌, map, length, get_or, refl, sym, ap, ap₂, ◌∙◌, arith, All, nat_eq, if◌then◌else◌}
use Rattle.std.specs.Option.{is_none, is_some}
use Rattle.std.proofs.lemmas.Bool.{eq-eqb, eqb-true}
use Rattle.nc_cloud.specs.declared.fleet.Ask.{Ask}
use Rattle.nc_cloud.specs.declared.fleet.Done.{Done}
use Rattle.nc_cloud.specs.declared.fleet.Done.TheVariants as done
use Rattle.nc_cloud.specs.declared.fleet.Answer.{Answer}
use Rattle.nc_cloud.specs.declared.fleet.Answer.TheVariants.{Waiting, Bytes, Absent, Long, Failed, Memory}
use Rattle.nc_cloud.proofs.Entries.{tally_none}
use Rattle.nc_cloud.specs.Contents.{Grows, Rose, Write}
use Rattle.nc_cloud.specs.Fleet.{chunks_got, erasure, is_failed, tally, write}
use Rattle.nc_memory.specs.declared.record.Torn.{Torn}
use Rattle.nc_memory.specs.declared.record.Refusal.{Refusal}
use Rattle.nc_memory.specs.declared.record.Look.{Look}
use Rattle.nc_memory.specs.declared.record.Step.{Step}
use Rattle.nc_memory.specs.declared.record.Event.{Event}
use Rattle.nc_memory.specs.declared.record.Event.TheVariants.{Gets, Writes}
use Rattle.nc_memory.specs.Record.{counted, done_of, end_erase, end_job, ended_by, failed_in, given_in, look_of, over, refused_at, slipped_in, step_by, steps_of}
use Rattle.nc_memory.specs.Memory.{gets_event, writes_event}

pub over-append : (count : Event → ℕ → ℕ) (es more : List Event) (c : ℕ) → over count (es ++ more) c ≡ over count es c + over count more c
over-append count [] more c = omega arith
over-append count (e ∷ es) more c = let rest : over count (es ++ more) c ≡ over count es c + over count more c = over-append count es more c in omega (arith, rest)

tally_some : {X : Type 0} (p : X → Bool) (xs : List X) (i : ℕ) (d : X) → i < length xs → p (get_or xs i d) ≡ true → 1 ≤ tally p xs
tally_some p [] i d l is = absurd (omega arith)
tally_some p (x ∷ xs) zero d l is = rw is (omega arith)
tally_some p (x ∷ xs) (suc i) d l is = let more : 1 ≤ tally p xs = tally_some p xs i d (omega arith) is in omega (arith, more)

tally-map : {X Y : Type 0} (p : Y → Bool) (f : X → Y) (xs : List X) → tally p (map f xs) ≡ tally (λ x. p (f x)) xs
tally-map p f [] = refl
tally-map p f (x ∷ xs) = ap (λ n. (if p (f x) then 1 else 0) + n) (tally-map p f xs)

-- a put that failed
abbrev pub is_failed_done : Done → Bool
is_failed_done done.Failed = true
is_failed_done done.Ok = false
is_failed_done done.Waiting = false
is_failed_done done.Memory = false

-- an entry that failed on this cloud
abbrev pub failed_on : {X : Type 0} → (X → ℕ) → (X → Bool) → ℕ → X → Bool
failed_on cloud has_failed c x = nat_eq (cloud x) c && has_failed x

same_failed : (refused : Option Torn) → is_some refused ≡ is_failed_done (done_of refused)
same_failed None = refl
same_failed (Some outcome) = refl

pub and_false : (a b : Bool) → (a ≡ true → b ≡ false) → (a && b) ≡ false
and_false true b none = none refl
and_false false b none = refl

pub not_failed : (a : Answer) → a ≢ Failed → is_failed a ≡ false
not_failed Failed ne = absurd (ne refl)
not_failed (Bytes bytes) ne = refl
not_failed Absent ne = refl
not_failed Long ne = refl
not_failed Memory ne = refl
not_failed Waiting ne = refl

pub not_failed_done : (d : Done) → d ≢ done.Failed → is_failed_done d ≡ false
not_failed_done done.Failed ne = absurd (ne refl)
not_failed_done done.Ok ne = refl
not_failed_done done.Waiting ne = refl
not_failed_done done.Memory ne = refl

-- a count after entries of any kind, of which some failed
module _ {X : Type 0} (cloud : X → ℕ) (has_failed : X → Bool) (xs : List X) (before now : ℕ → ℕ) (more : (c : ℕ) → now c ≡ before c + tally (failed_on cloud has_failed c) xs) where
  pub counted_rose : All (λ x. has_failed x ≡ true → Rose (counted (before (cloud x))) (counted (now (cloud x)))) xs
  counted_rose k d l e =
      let c : ℕ = cloud (get_or xs k d) in
      let some : 1 ≤ tally (failed_on cloud has_failed c) xs = tally_some (failed_on cloud has_failed c) xs k d l (ap₂ (λ a b. a && b) (eq-eqb c c refl) e) in
      let after : now c ≡ before c + tally (failed_on cloud has_failed c) xs = more c in
      omega arith

  pub counted_exact : (c : ℕ) → All (λ x. cloud x ≡ c → has_failed x ≡ false) xs → counted (now c) ≡ counted (before c)
  counted_exact c none =
      let few : tally (failed_on cloud has_failed c) xs ≡ 0 = tally_none (failed_on cloud has_failed c) xs (λ k d l. and_false _ _ (λ e. none k d l (eqb-true (cloud (get_or xs k d)) c e))) in
      let after : now c ≡ before c + tally (failed_on cloud has_failed c) xs = more c in
      omega arith

  pub counted_grows : Grows (λ c. counted (before c)) (λ c. counted (now c))
  counted_grows c = let after : now c ≡ before c + tally (failed_on cloud has_failed c) xs = more c in omega arith

-- ---- a round of gets

pub gets_failed : (asks : List Ask) (c : ℕ) → over failed_in (gets_event (map look_of asks)) c ≡ tally (failed_on (λ a. a.cloud) (λ a. is_failed a.answer) c) asks
gets_failed [] c = refl
gets_failed (a ∷ asks) c =
    let all : failed_in (Gets (map look_of (a ∷ asks))) c ≡ tally (failed_on (λ a. a.cloud) (λ a. is_failed a.answer) c) (a ∷ asks) = tally-map (λ l. nat_eq l.cloud c && l.failed) look_of (a ∷ asks) in
    omega (arith, all)

pub gets_slipped : (looks : List Look) (c : ℕ) → over slipped_in (gets_event looks) c ≡ 0
gets_slipped [] c = refl
gets_slipped (look ∷ looks) c = refl

pub gets_given : (asks : List Ask) (c : ℕ) → over given_in (gets_event (map look_of asks)) c ≡ chunks_got c asks
gets_given [] c = refl
gets_given (a ∷ asks) c =
    let all : given_in (Gets (map look_of (a ∷ asks))) c ≡ chunks_got c (a ∷ asks) = tally-map (λ l. nat_eq l.cloud c && l.gave_chunk) look_of (a ∷ asks) in
    omega (arith, all)

-- ---- a round of writes

pub writes_given : (steps : List Step) (c : ℕ) → over given_in (writes_event steps) c ≡ 0
writes_given [] c = refl
writes_given (s ∷ steps) c = refl

-- how rounds of a kind of entries are answered, and which of two counts rise there
pub record Kind {X : Type 0} (as_write : X → Write) (done : X → Done) (end : Done → X → X) (count other : Event → ℕ → ℕ) : Type 0 where
  pub same_write : (d : Done) (x : X) → as_write (end d x) ≡ as_write x
  pub same_done : (d : Done) (x : X) → done (end d x) ≡ d
  pub counts : (refusals : List Refusal) (n : ℕ) (xs : List X) (c : ℕ)
      → over count (writes_event (steps_of refusals n (map as_write xs))) c ≡ tally (failed_on (λ x. (as_write x).cloud) (λ x. is_failed_done (done x)) c) (ended_by end refusals n xs)
  pub passes : (refusals : List Refusal) (n : ℕ) (xs : List X) (c : ℕ) → over other (writes_event (steps_of refusals n (map as_write xs))) c ≡ 0

module _ (count : Event → ℕ → ℕ) (has : Step → Bool) (is : (steps : List Step) (c : ℕ) → count (Writes steps) c ≡ tally (λ s. nat_eq s.cloud c && has s) steps) where
  event_counts : (steps : List Step) (c : ℕ) → over count (writes_event steps) c ≡ tally (λ s. nat_eq s.cloud c && has s) steps
  event_counts [] c = refl
  event_counts (s ∷ steps) c = let all : count (Writes (s ∷ steps)) c ≡ tally (λ s. nat_eq s.cloud c && has s) (s ∷ steps) = is (s ∷ steps) c in omega (arith, all)

  module _ {X : Type 0} (as_write : X → Write) where
    -- where it counts those that failed
    module _ (done : X → Done) (end : Done → X → X) (same_write : (d : Done) (x : X) → as_write (end d x) ≡ as_write x) (same_done : (d : Done) (x : X) → done (end d x) ≡ d)
        (each : (refused : Option Torn) (x : X) → has (step_by refused (as_write x)) ≡ is_some refused) where
      failed_entries : (refusals : List Refusal) (n : ℕ) (xs : List X) (c : ℕ)
          → tally (λ s. nat_eq s.cloud c && has s) (steps_of refusals n (map as_write xs)) ≡ tally (failed_on (λ x. (as_write x).cloud) (λ x. is_failed_done (done x)) c) (ended_by end refusals n xs)
      failed_entries refusals n [] c = refl
      failed_entries refusals n (x ∷ xs) c =
          let refused : Option Torn = refused_at refusals (n + 1) in
          ap₂ (λ b k. (if b then 1 else 0) + k)
          (ap₂ (λ (p : Write) b. nat_eq p.cloud c && b) (sym (same_write (done_of refused) x)) (each refused x ∙ same_failed refused ∙ sym (ap is_failed_done (same_done (done_of refused) x))))
          (failed_entries refusals (n + 1) xs c)

      writes_count : (refusals : List Refusal) (n : ℕ) (xs : List X) (c : ℕ)
          → over count (writes_event (steps_of refusals n (map as_write xs))) c ≡ tally (failed_on (λ x. (as_write x).cloud) (λ x. is_failed_done (done x)) c) (ended_by end refusals n xs)
      writes_count refusals n xs c = event_counts (steps_of refusals n (map as_write xs)) c ∙ failed_entries refusals n xs c

    -- where it counts none
    module _ (none : (refused : Option Torn) (x : X) → has (step_by refused (as_write x)) ≡ false) where
      no_entries : (refusals : List Refusal) (n : ℕ) (xs : List X) (c : ℕ) → tally (λ s. nat_eq s.cloud c && has s) (steps_of refusals n (map as_write xs)) ≡ 0
      no_entries refusals n [] c = refl
      no_entries refusals n (x ∷ xs) c =
          ap₂ (λ b k. (if b then 1 else 0) + k) (and_false (nat_eq (as_write x).cloud c) _ (λ e. none (refused_at refusals (n + 1)) x)) (no_entries refusals (n + 1) xs c)

      writes_pass : (refusals : List Refusal) (n : ℕ) (xs : List X) (c : ℕ) → over count (writes_event (steps_of refusals n (map as_write xs))) c ≡ 0
      writes_pass refusals n xs c = event_counts (steps_of refusals n (map as_write xs)) c ∙ no_entries refusals n xs c

and_true : (b : Bool) → (b && true) ≡ b
and_true true = refl
and_true false = refl

and_no : (b : Bool) → (b && false) ≡ false
and_no true = refl
and_no false = refl

pub puts : Kind write (λ j. j.done) end_job failed_in slipped_in
puts = record {
  same_write = λ d j. refl;
  same_done = λ d j. refl;
  counts = writes_count failed_in (λ s. s.failed && is_some s.new) (λ steps c. refl) write (λ j. j.done) end_job (λ d j. refl) (λ d j. refl) (λ refused j. and_true (is_some refused));
  passes = writes_pass slipped_in (λ s. s.failed && is_none s.new) (λ steps c. refl) write (λ refused j. and_no (is_some refused));
}

pub deletes : Kind erasure (λ e. e.done) end_erase slipped_in failed_in
deletes = record {
  same_write = λ d e. refl;
  same_done = λ d e. refl;
  counts = writes_count slipped_in (λ s. s.failed && is_none s.new) (λ steps c. refl) erasure (λ e. e.done) end_erase (λ d e. refl) (λ d e. refl) (λ refused e. and_true (is_some refused));
  passes = writes_pass failed_in (λ s. s.failed && is_some s.new) (λ steps c. refl) erasure (λ refused e. and_no (is_some refused));
}
