-- What was put in rounds stays whole.
use Rattle.std.proofs.Common.{◌≡◌, ℕ, suc, ◌+◌, List, [], ◌∷◌, ◌++◌, map, Result, Ok, Err, OnOk, OnErr, sym, subst, arith, All}
use Rattle.std.proofs.Math.Logic.{∥∥₁_map}
use Rattle.nc_frame.specs.Frames.{Whole}
use Rattle.std.specs.Option.{IfSome}
use Rattle.std.proofs.lemmas.List.Elements.{All-map}
use Rattle.nc_cloud.specs.Contents.{Write}
use Rattle.nc_memory.specs.declared.record.Event.{Event}
use Rattle.nc_memory.specs.declared.record.Refusal.{Refusal}
use Rattle.nc_memory.specs.Record.{steps_of, WholeEvent, WholeLog, WholeSteps}

whole_then : (log : List Event) (e : Event) → WholeEvent e → WholeLog log → WholeLog (log ++ e ∷ [])
whole_then [] e w before = (w, tt)
whole_then (f ∷ log) e w before = (before.0, whole_then log e w before.1)

-- an event more, where there was memory for it
pub whole_pushed : {T E : Type 0} (result : Result T E) (log new : List Event) (e : Event) → WholeEvent e → OnOk result (new ≡ log ++ e ∷ []) → OnErr result (new ≡ log) → ∥ WholeLog log ∥₁ → ∥ WholeLog new ∥₁
whole_pushed (Ok v) log new e w ok err whole = subst (λ (es : List Event). ∥ WholeLog es ∥₁) (sym ok) (∥∥₁_map whole (whole_then log e w))
whole_pushed (Err x) log new e w ok err whole = subst (λ (es : List Event). ∥ WholeLog es ∥₁) (sym err) whole

-- the writes of a round
whole_writes : (refusals : List Refusal) (n : ℕ) (ps : List Write) → All (λ p. IfSome p.new Whole) ps → WholeSteps (steps_of refusals n ps)
whole_writes refusals n [] whole = tt
whole_writes refusals n (p ∷ ps) whole = (whole 0 p (omega arith), whole_writes refusals (n + 1) ps (λ k d l. whole (suc k) d (omega arith)))

pub whole_entries : {X : Type 0} (as_write : X → Write) (refusals : List Refusal) (n : ℕ) (xs : List X) → All (λ x. IfSome (as_write x).new Whole) xs → WholeSteps (steps_of refusals n (map as_write xs))
whole_entries as_write refusals n xs whole = whole_writes refusals n (map as_write xs) (All-map (λ p. IfSome p.new Whole) as_write xs whole)
