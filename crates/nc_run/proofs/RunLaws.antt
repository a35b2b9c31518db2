-- From the acts of a run to what the run did.
use Rattle.std.proofs.Common.{◌≡◌, ◌⊎◌, Bool, Option, None, Some, IfSome, IsSome, List, Ok, ℕ, false, refl, sym, ap, subst, inl, inr}
use Rattle.std.specs.Option.{option_map}
use Rattle.nc_cloud.specs.declared.fleet.Fleet.{Ghosts as FleetGhosts}
use Rattle.nc_state.specs.Vaults.{ForEachVault}
use Rattle.nc_stream.specs.declared.sink.Sink.{Ghosts as SinkGhosts}
use Rattle.nc_stream.specs.declared.source.Source.{Ghosts as SourceGhosts}
use Rattle.nc_vault.specs.declared.fault.Fault.TheVariants as fault
use Rattle.nc_words.specs.declared.act.Command.TheVariants.{Mill}
use Rattle.nc_words.specs.declared.act.Request.{Request}
use Rattle.nc_run.specs.declared.ending.Ending.{Ending}
use Rattle.nc_run.specs.declared.status.Status.{Status}
use Rattle.nc_run.specs.declared.status.Status.TheVariants as st
use Rattle.nc_run.specs.declared.watching.Watch.{Ghosts as WatchGhosts}
use Rattle.nc_run.specs.Course.{Course, EndsIn}
use Rattle.nc_run.specs.Items.{Item, is_batch, items_of}
use Rattle.nc_run.specs.Milling.{MillRuns}
use Rattle.nc_run.specs.Running.{Concludes, Does, DoesBy, DoesRequest, Unread}
use Rattle.nc_run.specs.Sides.{Sides, TakesIf, reads_input}
use Rattle.nc_run.specs.Standing.{RunStands}
use Rattle.nc_run.specs.Turns.{Turn, is_done}
use Rattle.nc_run.specs.Watching.{ConcludesShown, CourseShown, DoesShown, KnowsBy, RequestShown, ShownBy, ShownIn, TellsIf}
use Rattle.nc_run.proofs.StandLaws.{run_stands}

-- the act at which a run ended wasn't done
ends_undone : {A : Type 0} (n : ℕ) (batch : Bool) (left : List Item) (done : List (Turn A)) (next : Option (Turn A)) (result : Option Ending)
    → IsSome result → EndsIn n batch left done next result → IfSome next (λ t. is_done t.answer ≡ false)
ends_undone n batch left done next None some ends = absurd cc
ends_undone n batch left done None (Some e) some ends = tt
ends_undone n batch left done (Some t) (Some e) some ends = ends.ends.0

course_stands : {A C : Type 0} (F : FleetGhosts A) (K : SinkGhosts C) (batch : Bool) (items : List Item) (old new : A) (out out_new : C) (result : Option Ending)
    → (course : Course F K (F.clouds old) batch items old new out out_new result) → IsSome result → F.tells
    → ForEachVault (F.clouds old) (F.held old) (RunStands F (F.clouds old) course.done course.next old new)
course_stands F K batch items old new out out_new result course some told = record {
  each = λ S D stands.
      run_stands F told (F.clouds old) old course.middle new course.done course.next (record { contents = F.held old; entries = S; damaged = D }) refl refl stands
      course.takes_all course.takes_next (ends_undone (F.clouds old) batch course.left course.done course.next result some course.ends);
}

module _ {A B C W : Type 0} (F : FleetGhosts A) (S : SourceGhosts B) (K : SinkGhosts C) (V : WatchGhosts W A) (request : Request) (old new : Sides A B C) where
  -- a run whose input was taken, and what its watcher knows
  pub ran : (start end : W) (result : Option Ending) (input bytes : List ℕ) → bytes ≡ input → TakesIf (reads_input request.command) S old.source new.source (Ok input)
      → CourseShown F K V (F.clouds old.fleet) (is_batch request.command) (items_of request bytes) old.fleet new.fleet old.out new.out start end result
      → RequestShown F S K V request old new start end result
  ran start end result input bytes is takes shown =
      let items : List Item = items_of request input in
      let all : CourseShown F K V (F.clouds old.fleet) (is_batch request.command) items old.fleet new.fleet old.out new.out start end result =
      subst (λ (b : List ℕ). CourseShown F K V (F.clouds old.fleet) (is_batch request.command) (items_of request b) old.fleet new.fleet old.out new.out start end result) is shown in
      record {
        does = inr (inr (record {
          input = input;
          takes = takes;
          course = all.course;
          stands = course_stands F K (is_batch request.command) items old.fleet new.fleet old.out new.out result all.course;
        }));
        knows = all.knows;
      }

  -- a run whose input wasn't read
  pub unread_shown : (watch : W) (result : Option Ending) → Unread S request.command old new result → RequestShown F S K V request old new watch watch result
  unread_shown watch result unread = record { does = inl unread; knows = refl }

  -- a run that milled
  pub mill_shown : (watch : W) (number : ℕ) (e : Ending) → request.command ≡ Mill number → MillRuns K (F.clouds old.fleet) request.setting number old.out new.out e
      → new.fleet ≡ old.fleet → new.source ≡ old.source → RequestShown F S K V request old new watch watch (Some e)
  mill_shown watch number e asks runs fleet source = record {
    does = inr (inl (record { number = number; asks = asks; ending = e; is = refl; runs = runs; fleet = fleet; source = source }));
    knows = refl;
  }

-- ---- a run, its watcher aside

module _ {A B C W : Type 0} (F : FleetGhosts A) (S : SourceGhosts B) (K : SinkGhosts C) (V : WatchGhosts W A) (words : List (List ℕ)) (old new : Sides A B C) (start end : W) (e : Ending) where
  does : DoesShown F S K V words old new start end (Some e) → Does F S K words old new e
  does d = record { wide = d.wide; request = d.request; asks = d.asks; does = d.shown.does }

  does_by : (status : Status) → ShownBy F S K V words old new start end e status → DoesBy F S K words old new e status
  does_by st.Ok d = does d
  does_by (st.Width w) d = d.0
  does_by st.Usage d = d.0
  does_by (st.Name cause) d = d.0
  does_by (st.BatchLine k) d = does d
  does_by st.TooLong d = does d
  does_by st.ReadFault d = does d
  does_by st.WriteFault d = does d
  does_by (st.Vault fault.NoFile) d = does d
  does_by (st.Vault (fault.Cloud c)) d = does d
  does_by (st.Vault (fault.Damaged c row how)) d = does d
  does_by (st.Vault (fault.Short bads)) d = does d
  does_by (st.Vault (fault.Conflict generation a b)) d = does d
  does_by (st.Vault (fault.Misplaced c said width)) d = does d
  does_by (st.Vault (fault.Unsound a b)) d = does d
  does_by (st.Vault fault.Worn) d = does d
  does_by (st.Vault (fault.Spent tried)) d = does d
  does_by (st.Vault fault.Memory) (inl unbegun) = inl unbegun.0
  does_by (st.Vault fault.Memory) (inr d) = inr (does d)

-- what a run did whose watcher never ends it
pub concludes : {A B C G W : Type 0} (F : FleetGhosts A) (S : SourceGhosts B) (K : SinkGhosts C) (E : SinkGhosts G) (V : WatchGhosts W A) (words : List (List ℕ)) (old new : Sides A B C) (err err_new : G)
    (start end : W) (status : Status) → ConcludesShown F S K E V words old new err err_new start end (Some status) → Concludes F S K E words old new err err_new status
concludes F S K E V words old new err err_new start end status c = concludes_by c.ending c.is c.shown c.tells
  where
    concludes_by : (ending : Option Ending) → option_map (λ e. e.status) ending ≡ Some status → ShownIn F S K V words old new start end ending → TellsIf E ending err err_new
        → Concludes F S K E words old new err err_new status
    concludes_by None is shown tells = absurd cc
    concludes_by (Some e) is shown tells =
        let same : e.status ≡ status = cc in
        record {
          ending = e;
          is = same;
          does = subst (λ (x : Status). DoesBy F S K words old new e x) same (does_by F S K V words old new start end e e.status shown);
          tells = tells;
        }

-- a watcher that ends no run
pub never_ended : {A B C G W : Type 0} (F : FleetGhosts A) (S : SourceGhosts B) (K : SinkGhosts C) (E : SinkGhosts G) (V : WatchGhosts W A) (words : List (List ℕ)) (old new : Sides A B C) (err err_new : G)
    (start end : W) → (V.why end new.fleet → ⊥) → ConcludesShown F S K E V words old new err err_new start end None → ⊥
never_ended F S K E V words old new err err_new start end never c = never_by c.ending c.is c.shown
  where
    never_by : (ending : Option Ending) → option_map (λ e. e.status) ending ≡ None → ShownIn F S K V words old new start end ending → ⊥
    never_by (Some e) is shown = absurd cc
    never_by None is shown = none_of shown.shown.does shown.shown.knows
      where
        none_of : (does : DoesRequest F S K shown.request old new None) → KnowsBy F S K V shown.request old new start end None does → ⊥
        none_of (inl unread) knows = absurd cc
        none_of (inr (inl mills)) knows = absurd cc
        none_of (inr (inr course)) knows = never (knows.why refl)
