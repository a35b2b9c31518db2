-- One event of each kind: the record goes on to its mark, and what happened leads to what is held there.
use Rattle.std.proofs.Common.{◌≡◌, ◌≢◌, ◌∙◌, ◌≤◌, ◌<◌, ◌+◌, ◌++◌, ℕ, zero, suc, Option, Some, List, [], ◌∷◌, length, length-append, sym, ap, subst, arith}
use Rattle.std.proofs.lemmas.List.{take-append-le}
use Rattle.nc_name.specs.declared.key.Key.{Key}
use Rattle.nc_cloud.specs.Contents.{Contents, nothing}
use Rattle.nc_state.specs.Losses.{Loses}
use Rattle.nc_state.specs.Standing.{WholeOrTorn}
use Rattle.nc_memory.specs.declared.memory.MemFleet.{MemFleet}
use Rattle.nc_memory.specs.declared.record.Damage.{Damage}
use Rattle.nc_memory.specs.declared.record.Torn.{Torn}
use Rattle.nc_memory.specs.declared.record.Event.{Event as Recorded}
use Rattle.nc_memory.specs.declared.record.Event.TheVariants as recorded
use Rattle.nc_memory.specs.Memory.{contents_of, log_of, width_of}
use Rattle.nc_memory.specs.Moments.{now_of}
use Rattle.nc_memory.specs.Record.{contents_after, fate_in, lost}
use Rattle.nc_memory.specs.Stops.{LeavesStopped, cut}
use Rattle.nc_run.specs.declared.status.Status.{Status}
use Rattle.nc_run.specs.Turns.{Turn}
use Rattle.nc_history.specs.Histories.{Happening}
use Rattle.nc_history.specs.Histories.Happening.{Lost}
use Rattle.nc_history.proofs.LossLaws.{loss_leads}
use Rattle.nc_drive.specs.Fleets.{clouds}
use Rattle.nc_drive.specs.Marks.{Kept, Mark, Steps}
use Rattle.nc_drive.specs.Outcomes.{IsStopped, Runs, acts, place_in}
use Rattle.nc_drive.proofs.LossLaw.{cloud_loses}
use Rattle.nc_drive.proofs.RunLaws.{follows_kept, runs_follow, runs_lead}
use Rattle.nc_drive.proofs.StopLaws.{stopped_leads}
use Rattle.nc_drive.proofs.TurnLaws.{Follows, all_follow}

abbrev pub mark_of : Happening → ℕ → Mark
mark_of h place = record { happening = h; place = place }

-- ---- a run

pub run_steps : (words : List (List ℕ)) (given : List ℕ) (old new : MemFleet) (status : Status) (out : List ℕ) (done : List (Turn MemFleet)) (next : Option (Turn MemFleet)) (place : ℕ)
    → Runs words given old new (Some status) out done next → place ≡ now_of new → Steps (width_of old) (mark_of (acts done next) place) (log_of old) (log_of new)
run_steps words given old new status out done next place r here = record {
  kept = follows_kept old new (runs_follow words given old new (Some status) out done next r);
  here = here;
  leads = λ V at stands bears. runs_lead words given old new status out done next r V at stands;
}

-- ---- a stop

-- a record is no longer where it is cut
cut_length : (at : ℕ) (fates : List Torn) (log : List Recorded) → length (cut at fates log) ≤ length log
cut_length at fates [] = omega arith
cut_length zero fates (e ∷ log) = omega arith
cut_length (suc at) fates (e ∷ log) =
    let rest : length (cut at fates log) ≤ length log = cut_length at fates log in
    omega (arith, rest)

pub stop_steps : (words : List (List ℕ)) (given : List ℕ) (round : ℕ) (fates : List Torn) (old new : MemFleet) (done : List (Turn MemFleet)) (next : Option (Turn MemFleet)) (place : ℕ)
    → (s : IsStopped words given round fates old new done next) → LeavesStopped (place_in old s.ended round) s.ended new → place ≡ now_of new
    → Steps (width_of old) (mark_of (acts done next) place) (log_of old) (log_of new)
stop_steps words given round fates old new done next place s leaves here =
    let at : ℕ = place_in old s.ended round in
    let early : Follows clouds old s.middle = all_follow clouds old s.middle done s.takes_all in
    let whole : Follows clouds old s.ended = runs_follow words given old s.ended s.result s.out done next s.runs in
    let later : now_of old ≤ now_of s.middle = early.time.later in
    let before : now_of s.middle ≤ at = s.before in
    let long : now_of new ≡ at + 1 = leaves.length_is in
    let cut_there : now_of new ≡ length (cut at fates (log_of s.ended)) = ap length s.left in
    let short : length (cut at fates (log_of s.ended)) ≤ now_of s.ended = cut_length at fates (log_of s.ended) in
    record {
      kept = record {
        longer = omega (arith, later, before, long);
        past = λ t le. leaves.before.each t (omega (arith, le, later, before)) ∙ (whole.time.stays tt).each t le;
      };
      here = here;
      leads = λ V is stands bears.
          stopped_leads old s.middle s.ended new done next at V is stands s.takes_all s.takes_next before
          (omega (arith, long, cut_there, short)) leaves;
    }

-- ---- a loss

log_kept : (log more : List Recorded) → Kept log (log ++ more)
log_kept log more = record {
  longer = omega (arith, length-append log more);
  past = λ t le. ap (λ (l : List Recorded). contents_after l nothing) (take-append-le t log more le);
}

pub loss_steps : (cloud : ℕ) (damage : Damage) (old new : MemFleet) (place : ℕ) → cloud < width_of old → log_of new ≡ log_of old ++ recorded.Lost cloud damage ∷ []
    → ((q : Key) → contents_of new cloud q ≡ lost (fate_in damage q) (contents_of old cloud q)) → ((c : ℕ) (q : Key) → c ≢ cloud → contents_of new c q ≡ contents_of old c q)
    → place ≡ now_of new → Steps (width_of old) (mark_of (Lost cloud) place) (log_of old) (log_of new)
loss_steps cloud damage old new place within is leaves others here = record {
  kept = subst (λ (log : List Recorded). Kept (log_of old) log) (sym is) (log_kept (log_of old) (recorded.Lost cloud damage ∷ []));
  here = here;
  leads = λ V at stands few.
      let objects : WholeOrTorn (width_of old) (contents_of old) = subst (λ (F : Contents). WholeOrTorn (width_of old) F) at stands.objects in
      let loses : Loses cloud (contents_of old) (contents_of new) = cloud_loses (width_of old) cloud damage (contents_of old) (contents_of new) within objects leaves others in
      loss_leads (width_of old) cloud V (contents_of new) stands (subst (λ (F : Contents). Loses cloud F (contents_of new)) (sym at) loses) few;
}
