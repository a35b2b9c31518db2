-- Event after event.
use Rattle.std.proofs.Common.{◌≡◌, ◌∙◌, ◌++◌, ℕ, List, [], ◌∷◌, length, refl, sym, ap, subst, arith}
use Rattle.nc_cloud.specs.Contents.{nothing}
use Rattle.nc_state.specs.Clouds.{Clouds}
use Rattle.nc_state.specs.Vaults.{IsVault, Vault}
use Rattle.nc_memory.specs.declared.memory.MemFleet.{MemFleet}
use Rattle.nc_memory.specs.declared.record.Event.{Event as Recorded}
use Rattle.nc_memory.specs.Memory.{contents_of, log_of, width_of}
use Rattle.nc_memory.specs.MomentLaws.{at_last}
use Rattle.nc_memory.specs.Record.{contents_after}
use Rattle.nc_history.specs.Histories.{LosesFew, StandsHappened}
use Rattle.nc_history.proofs.LossLaws.{damage_is}
use Rattle.nc_drive.specs.declared.event.Event.{Event}
use Rattle.nc_drive.specs.declared.outcome.Outcome.{Outcome}
use Rattle.nc_drive.specs.Driving.{Driven, Happened, HappenedAll}
use Rattle.nc_drive.specs.Marks.{HistoryStands, Kept, Mark, RecordTells, Steps, contents_at, happenings}

-- ---- the list of them

-- one more
pub all_then : (events : List Event) (old mid new : MemFleet) (os : List Outcome) (marks : List Mark) (event : Event) (o : Outcome) (mark : Mark)
    → HappenedAll events old mid os marks → Happened event mid new o mark → HappenedAll (events ++ event ∷ []) old new (os ++ o ∷ []) (marks ++ mark ∷ [])
all_then [] old mid new [] [] event o mark same one = (new, subst (λ (s : MemFleet). Happened event s new o mark) same one, refl)
all_then [] old mid new [] (m ∷ marks) event o mark wrong one = absurd wrong
all_then [] old mid new (p ∷ os) marks event o mark wrong one = absurd wrong
all_then (e ∷ events) old mid new [] marks event o mark wrong one = absurd wrong
all_then (e ∷ events) old mid new (p ∷ os) [] event o mark wrong one = absurd wrong
all_then (e ∷ events) old mid new (p ∷ os) (m ∷ marks) event o mark (next, first, rest) one =
    (next, first, all_then events next mid new os marks event o mark rest one)

-- ---- the record

kept_then : (a b c : List Recorded) → Kept a b → Kept b c → Kept a c
kept_then a b c x y = record {
  longer = omega (arith, x.longer, y.longer);
  past = λ t le. y.past t (omega (arith, le, x.longer)) ∙ x.past t le;
}

pub all_kept : (events : List Event) (old new : MemFleet) (os : List Outcome) (marks : List Mark) → HappenedAll events old new os marks → Kept (log_of old) (log_of new)
all_kept [] old new [] [] same = subst (λ (s : MemFleet). Kept (log_of old) (log_of s)) (sym same) (record { longer = omega arith; past = λ t le. refl })
all_kept [] old new [] (m ∷ marks) wrong = absurd wrong
all_kept [] old new (p ∷ os) marks wrong = absurd wrong
all_kept (e ∷ events) old new [] marks wrong = absurd wrong
all_kept (e ∷ events) old new (p ∷ os) [] wrong = absurd wrong
all_kept (e ∷ events) old new (p ∷ os) (m ∷ marks) (mid, first, rest) =
    kept_then (log_of old) (log_of mid) (log_of new) first.steps.kept (all_kept events mid new os marks rest)

pub all_wide : (events : List Event) (old new : MemFleet) (os : List Outcome) (marks : List Mark) → HappenedAll events old new os marks → width_of new ≡ width_of old
all_wide [] old new [] [] same = ap width_of same
all_wide [] old new [] (m ∷ marks) wrong = absurd wrong
all_wide [] old new (p ∷ os) marks wrong = absurd wrong
all_wide (e ∷ events) old new [] marks wrong = absurd wrong
all_wide (e ∷ events) old new (p ∷ os) [] wrong = absurd wrong
all_wide (e ∷ events) old new (p ∷ os) (m ∷ marks) (mid, first, rest) = all_wide events mid new os marks rest ∙ first.width

-- what a record told at its end, a longer one tells there
told_there : (log more : List Recorded) (place : ℕ) → Kept log more → place ≡ length log → contents_at more place ≡ contents_after log nothing
told_there log more place kept here =
    kept.past place (omega (arith, here)) ∙ ap (λ (t : ℕ). contents_at log t) here ∙ at_last log nothing

steps_at : (n : ℕ) (e : Event) (old mid : MemFleet) (o : Outcome) (m : Mark) → width_of old ≡ n → Happened e old mid o m → Steps n m (log_of old) (log_of mid)
steps_at n e old mid o m wide happened = subst (λ (k : ℕ). Steps k m (log_of old) (log_of mid)) wide happened.steps

pub all_tell : (n : ℕ) (events : List Event) (old new : MemFleet) (os : List Outcome) (marks : List Mark) (V : Vault) → width_of old ≡ n → HappenedAll events old new os marks
    → V.contents ≡ contents_of old → IsVault n V → RecordTells n (log_of new) marks V
all_tell n [] old new [] [] V wide same at stands = tt
all_tell n [] old new [] (m ∷ marks) V wide wrong at stands = absurd wrong
all_tell n [] old new (p ∷ os) marks V wide wrong at stands = absurd wrong
all_tell n (e ∷ events) old new [] marks V wide wrong at stands = absurd wrong
all_tell n (e ∷ events) old new (p ∷ os) [] V wide wrong at stands = absurd wrong
all_tell n (e ∷ events) old new (p ∷ os) (m ∷ marks) V wide (mid, first, rest) at stands =
    let s : Steps n m (log_of old) (log_of mid) = steps_at n e old mid p m wide first in
    let kept : Kept (log_of mid) (log_of new) = all_kept events mid new os marks rest in (
      omega (arith, s.here, kept.longer),
      λ bears.
          let next : StandsHappened n m.happening V (contents_of mid) = s.leads V at stands bears in (
            next.vault,
            next.contents ∙ sym (told_there (log_of mid) (log_of new) m.place kept s.here),
            next.happens,
            next.stands,
            all_tell n events mid new os marks next.vault (first.width ∙ wide) rest next.contents next.stands,
          ),
    )

-- ---- the history

pub all_lead : (n : ℕ) (events : List Event) (old new : MemFleet) (os : List Outcome) (marks : List Mark) (V : Vault) → width_of old ≡ n → HappenedAll events old new os marks
    → V.contents ≡ contents_of old → IsVault n V → LosesFew n (happenings marks) V.damaged → HistoryStands n (happenings marks) V (contents_of new)
all_lead n [] old new [] [] V wide same at stands few = record { vault = V; contents = at ∙ ap contents_of (sym same); stands = stands; history = refl }
all_lead n [] old new [] (m ∷ marks) V wide wrong at stands few = absurd wrong
all_lead n [] old new (p ∷ os) marks V wide wrong at stands few = absurd wrong
all_lead n (e ∷ events) old new [] marks V wide wrong at stands few = absurd wrong
all_lead n (e ∷ events) old new (p ∷ os) [] V wide wrong at stands few = absurd wrong
all_lead n (e ∷ events) old new (p ∷ os) (m ∷ marks) V wide (mid, first, rest) at stands few =
    let s : Steps n m (log_of old) (log_of mid) = steps_at n e old mid p m wide first in
    let next : StandsHappened n m.happening V (contents_of mid) = s.leads V at stands few.0 in
    let fewer : LosesFew n (happenings marks) next.vault.damaged =
    subst (λ (D : Clouds). LosesFew n (happenings marks) D) (sym (damage_is n m.happening V next.vault next.happens)) few.1 in
    let later : HistoryStands n (happenings marks) next.vault (contents_of new) =
    all_lead n events mid new os marks next.vault (first.width ∙ wide) rest next.contents next.stands fewer in
    record { vault = later.vault; contents = later.contents; stands = later.stands; history = (next.vault, next.happens, next.stands, later.history) }

-- ---- all of it

pub all_driven : (events : List Event) (old new : MemFleet) (os : List Outcome) (marks : List Mark) → HappenedAll events old new os marks → Driven events old new os
all_driven events old new os marks all = record {
  marks = marks;
  exact = all;
  kept = all_kept events old new os marks all;
  width = all_wide events old new os marks all;
  tells = λ V at stands. all_tell (width_of old) events old new os marks V refl all at stands;
  stands = λ V at stands few. all_lead (width_of old) events old new os marks V refl all at stands few;
}
