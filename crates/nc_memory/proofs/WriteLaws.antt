-- What the writes of a round leave, by their steps.
use Rattle.std.proofs.Common.{◌≡◌, ℕ, ◌+◌, Bool, true, false, cond, Option, None, Some, List, [], ◌∷◌, map, nat_eq, refl, ap, ap₂, ◌∙◌}
use Rattle.std.specs.Option.{IfSome, is_none}
use Rattle.std.proofs.Math.Logic.{∥∥₁_map}
use Rattle.nc_frame.specs.Frames.{Whole}
use Rattle.nc_cloud.specs.declared.fleet.Done.{Done}
use Rattle.nc_cloud.specs.Contents.{Contents, Leaves, LeavesCloud, Settles, Store, Touch, Write, touch_at}
use Rattle.nc_cloud.specs.Fleet.{is_done}
use Rattle.nc_cloud.specs.Images.{Image}
use Rattle.nc_cloud.proofs.Images.{entries_image}
use Rattle.nc_memory.specs.declared.record.Refusal.{Refusal}
use Rattle.nc_memory.specs.declared.record.Step.{Step}
use Rattle.nc_memory.specs.declared.record.Torn.{Torn}
use Rattle.nc_memory.specs.Record.{done_of, ended_at, ended_by, left, refused_at, step_at, step_value, steps_of, WholeSteps}
use Rattle.nc_memory.specs.Moments.{step_write}
use Rattle.nc_memory.specs.Shelf.{after_steps}
use Rattle.nc_memory.proofs.Fates.{one_changes, write_fate}
use Rattle.nc_memory.proofs.Numbered.{map-numbered}

-- a step with its answer
abbrev pub step_touch : Step → Touch
step_touch s = record { write = step_write s; ok = is_none s.fate }

settles : (fate : Option Torn) (new old : Option (List ℕ)) → ∥ IfSome new Whole ∥₁ → Settles (is_none fate) new old (left fate new old)
settles None new old whole = refl
settles (Some torn) new old whole = write_fate (Some torn) new old whole

pick : {A B : Type 0} (P : Option A → Option B → Type 0) (here : Bool) (a : A) (b : B) (u : Option A) (v : Option B) → P (Some a) (Some b) → P u v → P (cond here (Some a) u) (cond here (Some b) v)
pick P true a b u v first later = first
pick P false a b u v first later = later

cloud_steps : (steps : List Step) (c : ℕ) (old : Store) → ∥ WholeSteps steps ∥₁ → LeavesCloud (touch_at (map step_touch steps) c) old (λ q. step_value (step_at steps c) q (old q))
cloud_steps [] c old whole = refl
cloud_steps (s ∷ steps) c old whole =
    pick (λ t step. LeavesCloud t old (λ q. step_value step q (old q))) (nat_eq s.cloud c) (step_touch s) s _ _
    (one_changes s.key (Settles (is_none s.fate) s.new) (left s.fate s.new) old (settles s.fate s.new (old s.key) (∥∥₁_map whole (λ w. w.0))))
    (cloud_steps steps c old (∥∥₁_map whole (λ w. w.1)))

pub steps_leave : (steps : List Step) (F : Contents) → ∥ WholeSteps steps ∥₁ → Leaves (map step_touch steps) F (after_steps steps F)
steps_leave steps F whole = record { each = λ c. cloud_steps steps c (F c) whole }

pub steps_image : (steps : List Step) (F : Contents) → ∥ WholeSteps steps ∥₁ → Image (map step_write steps) F (after_steps steps F)
steps_image steps F whole = entries_image step_write (λ s. is_none s.fate) steps F (after_steps steps F) (steps_leave steps F whole)

-- the writes that steps are of
pub same_writes : (refusals : List Refusal) (n : ℕ) (ps : List Write) → map step_write (steps_of refusals n ps) ≡ ps
same_writes refusals n [] = refl
same_writes refusals n (p ∷ ps) = ap (λ xs. p ∷ xs) (same_writes refusals (n + 1) ps)

is_done_of : (refused : Option Torn) → is_done (done_of refused) ≡ is_none refused
is_done_of None = refl
is_done_of (Some torn) = refl

-- entries of a kind, with what they write and their answers
module _ {X : Type 0} (as_write : X → Write) (done : X → Done) (end : Done → X → X) (same_write : (d : Done) (x : X) → as_write (end d x) ≡ as_write x) (same_done : (d : Done) (x : X) → done (end d x) ≡ d) where
  abbrev pub touch_of : X → Touch
  touch_of x = record { write = as_write x; ok = is_done (done x) }

  pub same_touches : (refusals : List Refusal) (n : ℕ) (xs : List X) → map touch_of (ended_by end refusals n xs) ≡ map step_touch (steps_of refusals n (map as_write xs))
  same_touches refusals n [] = refl
  same_touches refusals n (x ∷ xs) =
      let refused : Option Torn = refused_at refusals (n + 1) in
      ap₂ (λ t ts. t ∷ ts)
      (ap₂ (λ p b. record { write = p; ok = b }) (same_write (done_of refused) x) (ap is_done (same_done (done_of refused) x) ∙ is_done_of refused))
      (same_touches refusals (n + 1) xs)

  pub ended_writes : (refusals : List Refusal) (n : ℕ) (xs : List X) → map as_write (ended_by end refusals n xs) ≡ map as_write xs
  ended_writes refusals n xs = map-numbered (ended_at end refusals) as_write as_write (λ k x. same_write (done_of (refused_at refusals k)) x) n xs
