-- What becomes of an event, from what its run told.
use Rattle.std.proofs.Common.{◌≡◌, ◌≢◌, ◌∙◌, ◌≤◌, ◌<◌, ◌+◌, ◌++◌, ℕ, Option, None, Some, IsSome, List, [], ◌∷◌, length, take, get_or, refl, sym, ap, subst, arith}
use Rattle.std.proofs.lemmas.List.{take_all, take_more}
use Rattle.nc_name.specs.declared.key.Key.{Key}
use Rattle.nc_memory.specs.declared.memory.MemFleet.{MemFleet}
use Rattle.nc_memory.specs.declared.record.Damage.{Damage}
use Rattle.nc_memory.specs.declared.record.Torn.{Torn}
use Rattle.nc_memory.specs.declared.record.Event.TheVariants as recorded
use Rattle.nc_memory.specs.Memory.{contents_of, log_of, width_of}
use Rattle.nc_memory.specs.Moments.{now_of}
use Rattle.nc_memory.specs.Record.{fate_in, lost}
use Rattle.nc_memory.specs.Rounds.{round_place, rounds_in}
use Rattle.nc_memory.specs.Stops.{LeavesStopped, cut}
use Rattle.nc_run.specs.declared.status.Status.{Status}
use Rattle.nc_history.specs.Histories.{Happening}
use Rattle.nc_history.specs.Histories.Happening.{Lost}
use Rattle.nc_drive.specs.declared.driving.Ending.{Ending}
use Rattle.nc_drive.specs.declared.outcome.Outcome.{Outcome}
use Rattle.nc_drive.specs.declared.event.Event.{Event}
use Rattle.nc_drive.specs.Driving.{Driven, HappenedAll, Happens}
use Rattle.nc_drive.specs.Endings.{RunsUntil}
use Rattle.nc_drive.specs.Marks.{Mark, Steps}
use Rattle.nc_drive.specs.Outcomes.{Became, IsQuiet, IsStopped, LossBecame, MayStop, RunBecame, Runs, acts, place_in, was_stopped, without}
use Rattle.nc_drive.proofs.EventLaws.{loss_steps, mark_of, run_steps, stop_steps}
use Rattle.nc_drive.proofs.HistoryLaws.{all_driven, all_then}
use Rattle.nc_drive.proofs.RunLaws.{runs_follow}

-- an event of which this became, and what it makes of the record
pub record Makes (Became : Happening → Type 0) (old new : MemFleet) (o : Outcome) : Type 0 where
  pub mark : Mark
  pub width : width_of new ≡ width_of old
  pub place : mark.place ≡ o.mark
  pub became : Became mark.happening
  pub steps : Steps (width_of old) mark (log_of old) (log_of new)

pub happens_by : (event : Event) (old new : MemFleet) (o : Outcome) → Makes (λ h. Became event old new o h) old new o → Happens event old new o
happens_by event old new o m = record { mark = m.mark; happened = record { width = m.width; place = m.place; became = m.became; steps = m.steps } }

-- a run without the round has a status
some_status : (status : Option Status) → (status ≡ None → ⊥) → IsSome status
some_status None never = absurd (never refl)
some_status (Some s) never = refl

pub has_status : (words : List (List ℕ)) (given : List ℕ) (round : ℕ) (old new : MemFleet) (e : Ending) → RunsUntil words given round old new e
    → rounds_in (log_of new) ≤ round → IsSome e.status
has_status words given round old new e r within =
    some_status e.status (λ none. let has : round < rounds_in (log_of new) = r.reached none in absurd (omega (arith, has, within)))

-- a run that went to its end
pub whole_run : (words : List (List ℕ)) (given : List ℕ) (round : ℕ) (old new : MemFleet) (e : Ending) (o : Outcome) → RunsUntil words given round old new e
    → e.status ≡ Some o.status → o.out ≡ e.out → o.mark ≡ now_of new → o.done ≡ e.done → Makes (RunBecame words given old new o) old new o
whole_run words given round old new e o r status out mark done =
    let runs : Runs words given old new (Some o.status) o.out r.done r.next =
    subst (λ (s : Option Status). Runs words given old new s o.out r.done r.next) status
    (subst (λ (bytes : List ℕ). Runs words given old new e.status bytes r.done r.next) (sym out) r.runs) in
    record {
      mark = mark_of (acts r.done r.next) o.mark;
      width = (runs_follow words given old new (Some o.status) o.out r.done r.next runs).clouds;
      place = refl;
      became = record { done = r.done; next = r.next; runs = runs; counts = done ∙ r.counts; happens = refl };
      steps = run_steps words given old new o.status o.out r.done r.next o.mark runs mark;
    }

-- one that went to its end for want of the round
pub not_stopped : (words : List (List ℕ)) (given : List ℕ) (at round : ℕ) (fates : List Torn) (old new : MemFleet) (e : Ending) (o : Outcome) → RunsUntil words given at old new e
    → at ≤ rounds_in (log_of old) + round → rounds_in (log_of new) ≤ at → e.status ≡ Some o.status → o.out ≡ e.out → o.mark ≡ now_of new → o.done ≡ e.done
    → Makes (MayStop words given round fates old new o) old new o
not_stopped words given at round fates old new e o r small within status out mark done =
    let w : Makes (RunBecame words given old new o) old new o = whole_run words given at old new e o r status out mark done in
    record { mark = w.mark; width = w.width; place = w.place; became = without (omega (arith, small, within)) w.became; steps = w.steps }

-- one that was stopped in it
pub stopped : (words : List (List ℕ)) (given : List ℕ) (at round : ℕ) (fates : List Torn) (old ended new : MemFleet) (e : Ending) (o : Outcome) → RunsUntil words given at old ended e
    → at ≡ rounds_in (log_of old) + round → at < rounds_in (log_of ended) → e.since ≤ round_place (log_of ended) at
    → log_of new ≡ cut (round_place (log_of ended) at) fates (log_of ended) → LeavesStopped (round_place (log_of ended) at) ended new → width_of new ≡ width_of ended
    → IsQuiet o → o.mark ≡ now_of new → o.done ≡ e.done → Makes (MayStop words given round fates old new o) old new o
stopped words given at round fates old ended new e o r is has_round since left leaves wide quiet mark done =
    let before : now_of r.middle ≤ round_place (log_of ended) at = subst (λ (k : ℕ). k ≤ round_place (log_of ended) at) r.since since in
    let s : IsStopped words given round fates old new r.done r.next = record {
      result = e.status;
      out = e.out;
      ended = ended;
      runs = r.runs;
      middle = r.middle;
      takes_all = r.takes_all;
      takes_next = r.takes_next;
      ahead = subst (λ (k : ℕ). rounds_in (log_of r.middle) ≤ k) is r.ahead;
      has_round = subst (λ (k : ℕ). k < rounds_in (log_of ended)) is has_round;
      before = subst (λ (k : ℕ). now_of r.middle ≤ round_place (log_of ended) k) is before;
      left = subst (λ (k : ℕ). log_of new ≡ cut (round_place (log_of ended) k) fates (log_of ended)) is left;
    } in
    let leaves_there : LeavesStopped (place_in old ended round) ended new = subst (λ (k : ℕ). LeavesStopped (round_place (log_of ended) k) ended new) is leaves in
    record {
      mark = mark_of (acts r.done r.next) o.mark;
      width = wide ∙ (runs_follow words given old ended e.status e.out r.done r.next r.runs).clouds;
      place = refl;
      became = was_stopped (record { done = r.done; next = r.next; stopped = s; counts = done ∙ r.counts; quiet = quiet; happens = refl });
      steps = stop_steps words given round fates old new r.done r.next o.mark s leaves_there mark;
    }

-- a loss
pub lose : (cloud : ℕ) (damage : Damage) (old new : MemFleet) (o : Outcome) → cloud < width_of old → log_of new ≡ log_of old ++ recorded.Lost cloud damage ∷ []
    → ((q : Key) → contents_of new cloud q ≡ lost (fate_in damage q) (contents_of old cloud q)) → ((c : ℕ) (q : Key) → c ≢ cloud → contents_of new c q ≡ contents_of old c q)
    → width_of new ≡ width_of old → IsQuiet o → o.mark ≡ now_of new → o.done ≡ 0 → Makes (LossBecame cloud damage old new o) old new o
lose cloud damage old new o within is leaves others wide quiet mark none = record {
  mark = mark_of (Lost cloud) o.mark;
  width = wide;
  place = refl;
  became = record { loses = is; none = none; quiet = quiet; happens = refl };
  steps = loss_steps cloud damage old new o.mark within is leaves others mark;
}

-- ---- the events so far

-- what became of the first ones
pub record SoFar (events : List Event) (k : ℕ) (old new : MemFleet) (os : List Outcome) : Type 0 where
  pub marks : List Mark
  pub all : HappenedAll (take k events) old new os marks
  pub width : width_of new ≡ width_of old

pub so_far_none : (events : List Event) (old : MemFleet) → SoFar events 0 old old []
so_far_none events old = record { marks = []; all = refl; width = refl }

pub so_far_more : (events : List Event) (k : ℕ) (event : Event) (old mid new : MemFleet) (os : List Outcome) (o : Outcome) → k < length events → get_or events k event ≡ event
    → SoFar events k old mid os → Happens event mid new o → SoFar events (k + 1) old new (os ++ o ∷ [])
so_far_more events k event old mid new os o within here far one =
    let more : take (k + 1) events ≡ take k events ++ event ∷ [] = take_more events k event within ∙ ap (λ (e : Event). take k events ++ e ∷ []) here in
    record {
      marks = far.marks ++ one.mark ∷ [];
      all = subst (λ (es : List Event). HappenedAll es old new (os ++ o ∷ []) (far.marks ++ one.mark ∷ [])) (sym more)
          (all_then (take k events) old mid new os far.marks event o one.mark far.all one.happened);
      width = one.happened.width ∙ far.width;
    }

pub so_far_all : (events : List Event) (k : ℕ) (old new : MemFleet) (os : List Outcome) → length events ≤ k → SoFar events k old new os → Driven events old new os
so_far_all events k old new os le far =
    let whole : take k events ≡ events = take_all k events le in
    all_driven events old new os far.marks (subst (λ (es : List Event). HappenedAll es old new os far.marks) whole far.all)
