-- How the record of a memory fleet goes on: what it told before stays, and what a round adds.
use Rattle.std.proofs.Common.{◌≡◌, ℕ, zero, suc, ◌≤◌, ◌⊎◌, Bool, List, [], ◌∷◌, ◌++◌, map, length, take, drop, length-append, refl, sym, ap, subst, arith, inl, inr}
use Rattle.std.proofs.lemmas.List.{take-append-le}
use Rattle.nc_cloud.specs.Contents.{Contents, nothing}
use Rattle.nc_cloud.specs.Images.{Image}
use Rattle.nc_cloud.specs.Time.{Elapses, Stays}
use Rattle.nc_cloud.proofs.Images.{image_none}
use Rattle.nc_memory.specs.declared.record.Event.{Event}
use Rattle.nc_memory.specs.declared.record.Event.TheVariants.{Gets, Writes, Listed, Planted, Lost}
use Rattle.nc_memory.specs.declared.record.Look.{Look}
use Rattle.nc_memory.specs.declared.record.Step.{Step}
use Rattle.nc_memory.specs.Record.{contents_after, WholeSteps}
use Rattle.nc_memory.specs.Memory.{gets_event, writes_event}
use Rattle.nc_memory.specs.Moments.{ImageIn, step_write}
use Rattle.nc_memory.proofs.WriteLaws.{steps_image}

-- an image of a longer record was one before, or is one of what came after
pub image_more : (log more : List Event) (t : ℕ) (F G : Contents) → t ≤ length log → ImageIn (drop t (log ++ more)) (contents_after (take t (log ++ more)) F) G
    → ImageIn (drop t log) (contents_after (take t log) F) G ⊎ ImageIn more (contents_after log F) G
image_more [] more zero F G le is = inr is
image_more [] more (suc t) F G le is = absurd (omega arith)
image_more (e ∷ es) more zero F G le is =
    elim is [
      | inl here ↦ inl (inl here)
      | inr later ↦ elim (image_more es more zero (contents_after (e ∷ []) F) G (omega arith) later) [
        | inl was ↦ inl (inr was)
        | inr new ↦ inr new
      ]
    ]
image_more (e ∷ es) more (suc t) F G le is = image_more es more t (contents_after (e ∷ []) F) G (omega arith) is

-- what was held before some events is an image of them
pub first_one : (es : List Event) (F : Contents) → ImageIn es F F
first_one [] F = refl
first_one (Gets looks ∷ es) F = inl refl
first_one (Writes steps ∷ es) F = inl (image_none (map step_write steps) F)
first_one (Listed cloud failed ∷ es) F = inl refl
first_one (Planted cloud key bytes ∷ es) F = inl refl
first_one (Lost cloud damage ∷ es) F = inl refl

-- and what was an image stays one
pub image_kept : (log more : List Event) (t : ℕ) (F G : Contents) → t ≤ length log → ImageIn (drop t log) (contents_after (take t log) F) G → ImageIn (drop t (log ++ more)) (contents_after (take t (log ++ more)) F) G
image_kept [] more zero F G le is = subst (λ (H : Contents). ImageIn more F H) (sym is) (first_one more F)
image_kept [] more (suc t) F G le is = absurd (omega arith)
image_kept (e ∷ es) more zero F G le is =
    elim is [
      | inl here ↦ inl here
      | inr later ↦ inr (image_kept es more zero (contents_after (e ∷ []) F) G (omega arith) later)
    ]
image_kept (e ∷ es) more (suc t) F G le is = image_kept es more t (contents_after (e ∷ []) F) G (omega arith) is

-- a record as moments
abbrev pub since : List Event → ℕ → Contents → Type 0
since log t G = ImageIn (drop t log) (contents_after (take t log) nothing) G

abbrev pub before : List Event → ℕ → Contents
before log t = contents_after (take t log) nothing

pub elapses_more : (log more : List Event) (one : Contents → Type 0) → ((G : Contents) → ImageIn more (contents_after log nothing) G → one G) → Elapses (length log) (length (log ++ more)) (since log) (since (log ++ more)) one
elapses_more log more one only = record {
  later = omega (arith, length-append log more);
  nothing_else = λ t G le is. elim (image_more log more t nothing G le is) [ inl was ↦ inl was | inr new ↦ inr (only G new) ];
  keeps = λ t G le is. image_kept log more t nothing G le is;
}

pub stays_more : (log more : List Event) → Stays (length log) (before log) (before (log ++ more))
stays_more log more = record { each = λ t le. ap (λ es. contents_after es nothing) (take-append-le t log more le) }

-- the images of a round of gets
pub gets_only : (looks : List Look) (F G : Contents) → ImageIn (gets_event looks) F G → G ≡ F
gets_only [] F G is = is
gets_only (look ∷ looks) F G is = elim is [ inl here ↦ here | inr after ↦ after ]

-- and of a list
pub list_only : (cloud : ℕ) (failed : Bool) (F G : Contents) → ImageIn (Listed cloud failed ∷ []) F G → G ≡ F
list_only cloud failed F G is = elim is [ inl here ↦ here | inr after ↦ after ]

-- the images of a round of writes
pub writes_only : (steps : List Step) (F G : Contents) → ∥ WholeSteps steps ∥₁ → ImageIn (writes_event steps) F G → Image (map step_write steps) F G
writes_only [] F G whole is = subst (λ (H : Contents). Image [] F H) (sym is) (image_none [] F)
writes_only (s ∷ steps) F G whole is =
    elim is [
      | inl here ↦ here
      | inr after ↦ subst (λ (H : Contents). Image (map step_write (s ∷ steps)) F H) (sym after) (steps_image (s ∷ steps) F whole)
    ]
