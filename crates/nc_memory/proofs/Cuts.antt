-- A record up to a stop in one of its rounds.
use Rattle.std.proofs.Common.{◌≡◌, ℕ, zero, suc, ◌+◌, ◌-◌, ◌<◌, ◌≤◌, Bool, true, false, List, [], ◌∷◌, ◌++◌, map, length, take, drop, get_or, refl, sym, ap, ap₂, ◌∙◌, subst, arith, inl, inr, nat_eq, ◌&&◌, if◌then◌else◌}
use Rattle.std.specs.Option.{is_none, is_some}
use Rattle.std.proofs.Math.Logic.{∥∥₁_map}
use Rattle.std.proofs.lemmas.Bool.Decides.{eqb_tells}
use Rattle.nc_cloud.specs.Contents.{Contents, Write}
use Rattle.nc_cloud.specs.Fleet.{tally}
use Rattle.nc_cloud.specs.Images.{Image}
use Rattle.nc_memory.specs.declared.record.Torn.{Torn}
use Rattle.nc_memory.specs.declared.record.Step.{Step}
use Rattle.nc_memory.specs.declared.record.Event.{Event}
use Rattle.nc_memory.specs.declared.record.Event.TheVariants.{Gets, Writes, Listed, Planted, Lost}
use Rattle.nc_memory.specs.Record.{contents_after, failed_in, failures, gifts, given_in, numbered, over, slipped, slipped_in, WholeEvent, WholeLog, WholeSteps}
use Rattle.nc_memory.specs.Moments.{ImageIn, step_write}
use Rattle.nc_memory.specs.Rounds.{is_round, rounds_in, round_place}
use Rattle.nc_memory.specs.Shelf.{after_steps}
use Rattle.nc_memory.specs.Stops.{cut, stopped_event, stopped_step}
use Rattle.nc_memory.proofs.Numbered.{map-numbered}
use Rattle.nc_memory.proofs.PastLaws.{first_one}
use Rattle.nc_memory.proofs.WriteLaws.{steps_image}

-- what was whole stays so
whole_stopped : (fates : List Torn) (n : ℕ) (steps : List Step) → WholeSteps steps → WholeSteps (numbered (stopped_step fates) n steps)
whole_stopped fates n [] whole = tt
whole_stopped fates n (s ∷ steps) whole = (whole.0, whole_stopped fates (n + 1) steps whole.1)

whole_event : (fates : List Torn) (e : Event) → WholeEvent e → WholeEvent (stopped_event fates e)
whole_event fates (Gets looks) whole = tt
whole_event fates (Writes steps) whole = whole_stopped fates 0 steps whole
whole_event fates (Listed cloud failed) whole = tt
whole_event fates (Planted cloud key bytes) whole = tt
whole_event fates (Lost cloud damage) whole = tt

stop_image : (fates : List Torn) (steps : List Step) (F : Contents) → ∥ WholeSteps steps ∥₁ → Image (map step_write steps) F (after_steps (numbered (stopped_step fates) 0 steps) F)
stop_image fates steps F whole =
    subst (λ (ps : List Write). Image ps F (after_steps (numbered (stopped_step fates) 0 steps) F)) (map-numbered (stopped_step fates) step_write step_write (λ k s. refl) 0 steps)
    (steps_image (numbered (stopped_step fates) 0 steps) F (∥∥₁_map whole (whole_stopped fates 0 steps)))

stopped_image : (fates : List Torn) (e : Event) (es : List Event) (F : Contents) → ∥ WholeEvent e ∥₁ → ImageIn (e ∷ es) F (contents_after (stopped_event fates e ∷ []) F)
stopped_image fates (Gets looks) es F whole = inl refl
stopped_image fates (Writes steps) es F whole = inl (stop_image fates steps F whole)
stopped_image fates (Listed cloud failed) es F whole = inl refl
stopped_image fates (Planted cloud key bytes) es F whole = inr (first_one es (contents_after (Planted cloud key bytes ∷ []) F))
stopped_image fates (Lost cloud damage) es F whole = inr (first_one es (contents_after (Lost cloud damage ∷ []) F))

-- what is held after a stop is an image since each moment up to it
pub cut_image : (at : ℕ) (fates : List Torn) (log : List Event) (t : ℕ) (F : Contents) → ∥ WholeLog log ∥₁ → at < length log → t ≤ at → ImageIn (drop t log) (contents_after (take t log) F) (contents_after (cut at fates log) F)
cut_image at fates [] t F whole l le = absurd (omega arith)
cut_image zero fates (e ∷ es) zero F whole l le = stopped_image fates e es F (∥∥₁_map whole (λ w. w.0))
cut_image zero fates (e ∷ es) (suc t) F whole l le = absurd (omega arith)
cut_image (suc at) fates (e ∷ es) zero F whole l le = inr (cut_image at fates es zero (contents_after (e ∷ []) F) (∥∥₁_map whole (λ w. w.1)) (omega arith) (omega arith))
cut_image (suc at) fates (e ∷ es) (suc t) F whole l le = cut_image at fates es t (contents_after (e ∷ []) F) (∥∥₁_map whole (λ w. w.1)) (omega arith) (omega arith)

-- what was told up to it stays
pub cut_before : (at : ℕ) (fates : List Torn) (log : List Event) (t : ℕ) (F : Contents) → at < length log → t ≤ at → contents_after (take t (cut at fates log)) F ≡ contents_after (take t log) F
cut_before at fates [] t F l le = absurd (omega arith)
cut_before zero fates (e ∷ es) zero F l le = refl
cut_before zero fates (e ∷ es) (suc t) F l le = absurd (omega arith)
cut_before (suc at) fates (e ∷ es) zero F l le = refl
cut_before (suc at) fates (e ∷ es) (suc t) F l le = cut_before at fates es t (contents_after (e ∷ []) F) (omega arith) (omega arith)

pub length-cut : (at : ℕ) (fates : List Torn) (log : List Event) → at < length log → length (cut at fates log) ≡ at + 1
length-cut at fates [] l = absurd (omega arith)
length-cut zero fates (e ∷ es) l = refl
length-cut (suc at) fates (e ∷ es) l = let rest : length (cut at fates es) ≡ at + 1 = length-cut at fates es (omega arith) in omega (arith, rest)

pub cut_whole : (at : ℕ) (fates : List Torn) (log : List Event) → WholeLog log → WholeLog (cut at fates log)
cut_whole at fates [] whole = tt
cut_whole zero fates (e ∷ es) whole = (whole_event fates e whole.0, tt)
cut_whole (suc at) fates (e ∷ es) whole = (whole.0, cut_whole at fates es whole.1)

-- the events before it, and that one stopped
pub cut_is : (at : ℕ) (fates : List Torn) (log : List Event) (d : Event) → at < length log → take at log ++ stopped_event fates (get_or log at d) ∷ [] ≡ cut at fates log
cut_is at fates [] d l = absurd (omega arith)
cut_is zero fates (e ∷ es) d l = refl
cut_is (suc at) fates (e ∷ es) d l = ap (λ xs. e ∷ xs) (cut_is at fates es d (omega arith))

-- a stop changes no count
tally_same : {A : Type 0} (p : A → Bool) (g : ℕ → A → A) → ((k : ℕ) (x : A) → p (g k x) ≡ p x) → (n : ℕ) (xs : List A) → tally p (numbered g n xs) ≡ tally p xs
tally_same p g same n [] = refl
tally_same p g same n (x ∷ xs) = ap₂ (λ b k. (if b then 1 else 0) + k) (same (n + 1) x) (tally_same p g same (n + 1) xs)

-- a count that no stop changes
module _ (count : Event → ℕ → ℕ) (same : (fates : List Torn) (e : Event) (c : ℕ) → count (stopped_event fates e) c ≡ count e c) where
  cut_over : (at : ℕ) (fates : List Torn) (log : List Event) (c : ℕ) → at < length log → over count (cut at fates log) c ≡ over count (take (at + 1) log) c
  cut_over at fates [] c l = absurd (omega arith)
  cut_over zero fates (e ∷ es) c l = ap (λ k. k + 0) (same fates e c)
  cut_over (suc at) fates (e ∷ es) c l =
      let next : suc at + 1 ≡ suc (at + 1) = omega arith in
      ap (λ k. count e c + k) (cut_over at fates es c (omega arith)) ∙ sym (ap (λ k. over count (take k (e ∷ es)) c) next)

failed_same : (fates : List Torn) (e : Event) (c : ℕ) → failed_in (stopped_event fates e) c ≡ failed_in e c
failed_same fates (Gets looks) c = refl
failed_same fates (Writes steps) c = tally_same (λ s. nat_eq s.cloud c && (s.failed && is_some s.new)) (stopped_step fates) (λ k s. refl) 0 steps
failed_same fates (Listed cloud failed) c = refl
failed_same fates (Planted cloud key bytes) c = refl
failed_same fates (Lost cloud damage) c = refl

slipped_same : (fates : List Torn) (e : Event) (c : ℕ) → slipped_in (stopped_event fates e) c ≡ slipped_in e c
slipped_same fates (Gets looks) c = refl
slipped_same fates (Writes steps) c = tally_same (λ s. nat_eq s.cloud c && (s.failed && is_none s.new)) (stopped_step fates) (λ k s. refl) 0 steps
slipped_same fates (Listed cloud failed) c = refl
slipped_same fates (Planted cloud key bytes) c = refl
slipped_same fates (Lost cloud damage) c = refl

given_same : (fates : List Torn) (e : Event) (c : ℕ) → given_in (stopped_event fates e) c ≡ given_in e c
given_same fates (Gets looks) c = refl
given_same fates (Writes steps) c = refl
given_same fates (Listed cloud failed) c = refl
given_same fates (Planted cloud key bytes) c = refl
given_same fates (Lost cloud damage) c = refl

pub cut_failures : (at : ℕ) (fates : List Torn) (log : List Event) (c : ℕ) → at < length log → failures (cut at fates log) c ≡ failures (take (at + 1) log) c
cut_failures = cut_over failed_in failed_same

pub cut_slipped : (at : ℕ) (fates : List Torn) (log : List Event) (c : ℕ) → at < length log → slipped (cut at fates log) c ≡ slipped (take (at + 1) log) c
cut_slipped = cut_over slipped_in slipped_same

pub cut_gifts : (at : ℕ) (fates : List Torn) (log : List Event) (c : ℕ) → at < length log → gifts (cut at fates log) c ≡ gifts (take (at + 1) log) c
cut_gifts = cut_over given_in given_same

-- a round stands in its record
there : (b : Bool) (n len more : ℕ) (place : ℕ → ℕ) → ((k : ℕ) → k < more → place k < len) → n < (if b then 1 else 0) + more → (if b && nat_eq n 0 then 0 else place (if b then n - 1 else n) + 1) < suc len
there true zero len more place later l = omega arith
there true (suc n) len more place later l =
    elim (eqb_tells (suc n) 0) [
      | inl same ↦ absurd (omega (arith, same.1))
      | inr other ↦ rw other.0 (let m : place (suc n - 1) < len = later (suc n - 1) (omega arith) in omega (arith, m))
    ]
there false n len more place later l = let m : place n < len = later n (omega arith) in omega (arith, m)

pub round_within : (log : List Event) (n : ℕ) → n < rounds_in log → round_place log n < length log
round_within [] n l = absurd (omega arith)
round_within (e ∷ es) n l = there (is_round e) n (length es) (rounds_in es) (round_place es) (λ k m. round_within es k m) l
