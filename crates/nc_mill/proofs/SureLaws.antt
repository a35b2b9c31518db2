-- Clouds in memory that were told to fail nowhere don't.
use Rattle.std.proofs.Common.{◌≡◌, ◌≢◌, ◌∙◌, ◌+◌, ℕ, zero, suc, Option, None, Some, List, [], ◌∷◌, length, get_or, nat_le, if◌then◌else◌, Bool, true, false, All, sym, subst, refl, arith}
use Rattle.std.proofs.lemmas.List.Elements.{All-map}
use Rattle.nc_cloud.specs.Contents.{Write}
use Rattle.nc_cloud.specs.declared.fleet.Answer.TheVariants.{Bytes, Failed as NoAnswer, Long}
use Rattle.nc_cloud.specs.declared.fleet.Ask.{Ask}
use Rattle.nc_cloud.specs.declared.fleet.Done.{Done}
use Rattle.nc_cloud.specs.declared.fleet.Done.TheVariants as done
use Rattle.nc_cloud.specs.declared.fleet.Erase.{Erase}
use Rattle.nc_cloud.specs.declared.fleet.Job.{Job}
use Rattle.nc_cloud.specs.Fleet.{erasure, write}
use Rattle.nc_memory.specs.declared.memory.MemFleet.{MemFleet}
use Rattle.nc_memory.specs.declared.record.Event.{Event}
use Rattle.nc_memory.specs.declared.record.Refusal.{Refusal}
use Rattle.nc_memory.specs.Memory.{ServesDeletes, ServesGets, ServesPuts, ServesWrites, entries_of, log_of, refusals_of}
use Rattle.nc_memory.specs.Memory.ServesGets.{starved, served}
use Rattle.nc_memory.specs.Memory.ServesWrites.{starved as writes_starved, served as writes_served}
use Rattle.nc_memory.specs.Record.{answer_of, answered_ask, answered_asks, end_erase, end_job, ended_at, ended_by, numbered, starved_ask, value}

-- ---- no entry fails

-- what each number makes of any element has P
all_numbered : {A B : Type 0} (P : B → Type 0) (g : ℕ → A → B) → ((k : ℕ) (x : A) → P (g k x)) → (n : ℕ) (xs : List A) → All P (numbered g n xs)
all_numbered P g each n [] k d l = absurd (omega arith)
all_numbered P g each n (x ∷ xs) zero d l = each (n + 1) x
all_numbered P g each n (x ∷ xs) (suc k) d l = all_numbered P g each (n + 1) xs k d (omega arith)

sized_spares : (bytes : List ℕ) (b : Bool) → (if b then Bytes bytes else Long) ≢ NoAnswer
sized_spares bytes true wrong = absurd cc
sized_spares bytes false wrong = absurd cc

answer_spares : (most : ℕ) (held : Option (List ℕ)) → answer_of None most held ≢ NoAnswer
answer_spares most None wrong = absurd cc
answer_spares most (Some bytes) wrong = sized_spares bytes (nat_le (length bytes) most) wrong

given_spares : (refusals : List Refusal) (log : List Event) (n : ℕ) (asks : List Ask) → refusals ≡ [] → All (λ a. a.answer ≢ NoAnswer) (answered_asks refusals n log asks)
given_spares refusals log n asks none =
    subst (λ (rs : List Refusal). All (λ a. a.answer ≢ NoAnswer) (answered_asks rs n log asks)) (sym none)
    (all_numbered (λ a. a.answer ≢ NoAnswer) (answered_ask [] log) (λ k a. answer_spares a.most (value log a.cloud a.key None)) n asks)

pub gets_spare : (old new : MemFleet) (asks left : List Ask) → refusals_of old ≡ [] → ServesGets old new asks left → All (λ a. a.answer ≢ NoAnswer) left
gets_spare old new asks left none (starved answers same) =
    subst (All (λ a. a.answer ≢ NoAnswer)) (sym answers) (All-map (λ a. a.answer ≢ NoAnswer) starved_ask asks (λ k d l wrong. absurd cc))
gets_spare old new asks left none (served gives) =
    subst (All (λ a. a.answer ≢ NoAnswer)) (sym gives.answers) (given_spares (refusals_of old) (log_of old) (entries_of old) asks none)

module _ {X : Type 0} (end : Done → X → X) (done_in : X → Done) (same : (d : Done) (x : X) → done_in (end d x) ≡ d) where
  ended_spares : (d : Done) (x : X) → d ≢ done.Failed → done_in (end d x) ≢ done.Failed
  ended_spares d x spared wrong = spared (sym (same d x) ∙ wrong)

  taken_spare : (refusals : List Refusal) (n : ℕ) (xs : List X) → refusals ≡ [] → All (λ x. done_in x ≢ done.Failed) (ended_by end refusals n xs)
  taken_spare refusals n xs none =
      subst (λ (rs : List Refusal). All (λ x. done_in x ≢ done.Failed) (ended_by end rs n xs)) (sym none)
      (all_numbered (λ x. done_in x ≢ done.Failed) (ended_at end []) (λ k x. ended_spares done.Ok x (λ wrong. absurd cc)) n xs)

  pub writes_spare : (as_write : X → Write) (old new : MemFleet) (xs left : List X) → refusals_of old ≡ [] → ServesWrites as_write end old new xs left → All (λ x. done_in x ≢ done.Failed) left
  writes_spare as_write old new xs left none (writes_starved answers unchanged) =
      subst (All (λ x. done_in x ≢ done.Failed)) (sym answers)
      (All-map (λ x. done_in x ≢ done.Failed) (end done.Memory) xs (λ k d l. ended_spares done.Memory (get_or xs k d) (λ wrong. absurd cc)))
  writes_spare as_write old new xs left none (writes_served takes) =
      subst (All (λ x. done_in x ≢ done.Failed)) (sym takes.answers) (taken_spare (refusals_of old) (entries_of old) xs none)

pub puts_spare : (old new : MemFleet) (jobs left : List Job) → refusals_of old ≡ [] → ServesPuts old new jobs left → All (λ j. j.done ≢ done.Failed) left
puts_spare old new jobs left none serves = writes_spare end_job (λ j. j.done) (λ d j. refl) write old new jobs left none serves

pub deletes_spare : (old new : MemFleet) (erases left : List Erase) → refusals_of old ≡ [] → ServesDeletes old new erases left → All (λ e. e.done ≢ done.Failed) left
deletes_spare old new erases left none serves = writes_spare end_erase (λ e. e.done) (λ d e. refl) erasure old new erases left none serves
