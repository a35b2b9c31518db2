-- What a run makes of a vault.
use Rattle.std.proofs.Common.{◌≡◌, ◌∙◌, ℕ, Option, None, Some, IfSome, IsSome, List, [], refl, sym, ap, subst}
use Rattle.nc_cloud.specs.Contents.{Contents}
use Rattle.nc_state.specs.Vaults.{ForEachVault, IsVault, Vault}
use Rattle.nc_state.specs.Standing.{Stands}
use Rattle.nc_stream.specs.declared.memory.MemSink.{MemSink}
use Rattle.nc_stream.specs.declared.memory.MemSource.{MemSource}
use Rattle.nc_memory.specs.declared.memory.MemFleet.{MemFleet}
use Rattle.nc_memory.specs.Memory.{contents_of, log_of, width_of}
use Rattle.nc_run.specs.declared.status.Status.{Status}
use Rattle.nc_run.specs.declared.status.Status.TheVariants as st
use Rattle.nc_run.specs.Ending.{HowEnded, IsEarly, IsRefused}
use Rattle.nc_run.specs.Running.{IsAnswered}
use Rattle.nc_run.specs.Sides.{Sides, sides}
use Rattle.nc_run.specs.Standing.{RunStands, task_in, tasks_of}
use Rattle.nc_run.specs.Turns.{Turn}
use Rattle.nc_history.specs.Histories.{StandsHappened}
use Rattle.nc_history.proofs.LossLaws.{run_leads}
use Rattle.nc_drive.specs.Fleets.{clouds, input, output}
use Rattle.nc_drive.specs.Marks.{Kept}
use Rattle.nc_drive.specs.Outcomes.{GoesBy, NoActs, Runs, acts, not_read, status_in, was_milled, was_refused, was_run, was_unbegun}
use Rattle.nc_drive.proofs.TurnLaws.{Follows, run_follows, same_follows}

-- what holds from whatever these contents stand for holds from this vault
pub for_vault : (n : ℕ) (F : Contents) (P : Vault → Type 0) → ForEachVault n F P → (V : Vault) → V.contents ≡ F → IsVault n V → P V
for_vault n F P for V at stands =
    let there : Stands n F V.entries V.damaged = subst (λ (G : Contents). Stands n G V.entries V.damaged) at stands in
    subst (λ (G : Contents). P (record { contents = G; entries = V.entries; damaged = V.damaged })) (sym at) (for.each V.entries V.damaged there)

pub refused_early : (status : Status) → IsRefused status → IsEarly status
refused_early st.Ok is = is
refused_early (st.Width w) is = tt
refused_early st.Usage is = tt
refused_early (st.Name cause) is = tt
refused_early (st.BatchLine k) is = is
refused_early st.TooLong is = absurd is
refused_early st.ReadFault is = absurd is
refused_early st.WriteFault is = is
refused_early (st.Vault fault) is = is

-- the record of a run only goes on
pub follows_kept : (old new : MemFleet) → Follows clouds old new → Kept (log_of old) (log_of new)
follows_kept old new f = record { longer = f.time.later; past = (f.time.stays tt).each }

-- nothing was done
none_happened : (n : ℕ) (V : Vault) (G : Contents) → V.contents ≡ G → IsVault n V → StandsHappened n (acts [] None) V G
none_happened n V G at stands = record { vault = V; contents = at; happens = (V, refl, stands, refl); stands = stands }

-- a run that ended has a status
pub ended_so : (ending : Option HowEnded) (e : HowEnded) (result : Option Status) → status_in ending ≡ result → ending ≡ Some e → result ≡ Some e.status
ended_so ending e result is ends = sym is ∙ ap (λ (o : Option HowEnded). status_in o) ends

has_ending : (ending : Option HowEnded) (status : Status) → status_in ending ≡ Some status → IsSome ending
has_ending None status is = absurd cc
has_ending (Some e) status is = refl

-- its ending
pub record EndedSo (ending : Option HowEnded) (status : Status) : Type 0 where
  pub by : HowEnded
  pub ends : ending ≡ Some by
  pub status_is : by.status ≡ status

pub ending_of : (ending : Option HowEnded) (status : Status) → status_in ending ≡ Some status → EndedSo ending status
ending_of None status is = absurd cc
ending_of (Some e) status is =
    let same : e.status ≡ status = cc in
    record { by = e; ends = refl; status_is = same }

module _ (words : List (List ℕ)) (old new : Sides MemFleet MemSource MemSink) (result : Option Status) (ending : Option HowEnded)
    (is : status_in ending ≡ result) (answered : IfSome result (IsAnswered clouds input output words old new)) where
  refused_same : (e : HowEnded) → ending ≡ Some e → IsRefused e.status → new.fleet ≡ old.fleet
  refused_same e ends refused =
      let here : IsAnswered clouds input output words old new e.status =
      subst (λ (r : Option Status). IfSome r (IsAnswered clouds input output words old new)) (ended_so ending e result is ends) answered in
      here.early (refused_early e.status refused)

  nothing_leads : (done : List (Turn MemFleet)) (next : Option (Turn MemFleet)) → new.fleet ≡ old.fleet → NoActs done next
      → (V : Vault) → V.contents ≡ contents_of old.fleet → IsVault (width_of old.fleet) V → StandsHappened (width_of old.fleet) (acts done next) V (contents_of new.fleet)
  nothing_leads done next same idle V at stands =
      let here : V.contents ≡ contents_of new.fleet = at ∙ ap contents_of (sym same) in
      subst (λ (ts : List (Turn MemFleet)). StandsHappened (width_of old.fleet) (acts ts next) V (contents_of new.fleet)) (sym idle.none)
      (subst (λ (o : Option (Turn MemFleet)). StandsHappened (width_of old.fleet) (acts [] o) V (contents_of new.fleet)) (sym idle.none_next)
      (none_happened (width_of old.fleet) V (contents_of new.fleet) here stands))

  pub goes_lead : (done : List (Turn MemFleet)) (next : Option (Turn MemFleet)) → GoesBy words old new ending done next → IsSome ending
      → (V : Vault) → V.contents ≡ contents_of old.fleet → IsVault (width_of old.fleet) V → StandsHappened (width_of old.fleet) (acts done next) V (contents_of new.fleet)
  goes_lead done next (was_refused e ends refused idle) some V at stands = nothing_leads done next (refused_same e ends refused) idle V at stands
  goes_lead done next (was_unbegun e ends memory u idle) some V at stands =
      nothing_leads done next (ap (λ (s : Sides MemFleet MemSource MemSink). s.fleet) u.same) idle V at stands
  goes_lead done next (not_read request asks unread idle) some V at stands = nothing_leads done next unread.fleet idle V at stands
  goes_lead done next (was_milled request asks mills idle) some V at stands = nothing_leads done next mills.fleet idle V at stands
  goes_lead done next (was_run request asks ran is_done is_next) some V at stands =
      let n : ℕ = width_of old.fleet in
      let all : RunStands clouds n ran.course.done ran.course.next old.fleet new.fleet V =
      for_vault n (contents_of old.fleet) (RunStands clouds n ran.course.done ran.course.next old.fleet new.fleet) (ran.stands some tt) V at stands in
      let there : StandsHappened n (acts ran.course.done ran.course.next) V (contents_of new.fleet) =
      run_leads n (tasks_of ran.course.done) (task_in ran.course.next) V (contents_of new.fleet) all.end in
      subst (λ (ts : List (Turn MemFleet)). StandsHappened n (acts ts next) V (contents_of new.fleet)) (sym is_done)
      (subst (λ (o : Option (Turn MemFleet)). StandsHappened n (acts ran.course.done o) V (contents_of new.fleet)) (sym is_next) there)

  pub goes_follow : (done : List (Turn MemFleet)) (next : Option (Turn MemFleet)) → GoesBy words old new ending done next → Follows clouds old.fleet new.fleet
  goes_follow done next (was_refused e ends refused idle) = same_follows clouds old.fleet new.fleet (refused_same e ends refused)
  goes_follow done next (was_unbegun e ends memory u idle) =
      same_follows clouds old.fleet new.fleet (ap (λ (s : Sides MemFleet MemSource MemSink). s.fleet) u.same)
  goes_follow done next (not_read request asks unread idle) = same_follows clouds old.fleet new.fleet unread.fleet
  goes_follow done next (was_milled request asks mills idle) = same_follows clouds old.fleet new.fleet mills.fleet
  goes_follow done next (was_run request asks ran is_done is_next) =
      run_follows clouds old.fleet ran.course.middle new.fleet ran.course.done ran.course.next ran.course.takes_all ran.course.takes_next

pub runs_follow : (words : List (List ℕ)) (given : List ℕ) (old new : MemFleet) (result : Option Status) (out : List ℕ) (done : List (Turn MemFleet)) (next : Option (Turn MemFleet))
    → Runs words given old new result out done next → Follows clouds old new
runs_follow words given old new result out done next r =
    goes_follow words (sides old r.source r.sink) (sides new r.read r.filled) result r.ending r.is r.answered done next r.goes

pub runs_lead : (words : List (List ℕ)) (given : List ℕ) (old new : MemFleet) (status : Status) (out : List ℕ) (done : List (Turn MemFleet)) (next : Option (Turn MemFleet))
    → Runs words given old new (Some status) out done next
    → (V : Vault) → V.contents ≡ contents_of old → IsVault (width_of old) V → StandsHappened (width_of old) (acts done next) V (contents_of new)
runs_lead words given old new status out done next r =
    goes_lead words (sides old r.source r.sink) (sides new r.read r.filled) (Some status) r.ending r.is r.answered done next r.goes (has_ending r.ending status r.is)
