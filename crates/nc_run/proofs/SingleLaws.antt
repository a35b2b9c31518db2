-- A run of one act.
use Rattle.std.proofs.Common.{◌≡◌, false, None, Option, List, [], ◌∷◌, ℕ, refl}
use Rattle.nc_stream.specs.declared.sink.Sink.{Ghosts as SinkGhosts}
use Rattle.nc_cloud.specs.declared.fleet.Fleet.{Ghosts as FleetGhosts}
use Rattle.nc_words.specs.Acts.{Task}
use Rattle.nc_vault.specs.declared.fault.Fault.{Fault}
use Rattle.nc_run.specs.declared.ending.Ending.{Ending}
use Rattle.nc_run.specs.declared.status.Status.TheVariants as st
use Rattle.nc_run.specs.declared.turned.Turned.TheVariants.{GoesOn, Cut, Unwritten, Stopped}
use Rattle.nc_run.specs.declared.watching.Watch.{Ghosts as WatchGhosts}
use Rattle.nc_run.specs.Ending.{plain}
use Rattle.nc_run.specs.Items.{Item}
use Rattle.nc_run.specs.Items.Item.{Alone}
use Rattle.nc_run.specs.Turning.{TurnLeaves, ending_at}
use Rattle.nc_run.specs.Watching.{CourseShown}
use Rattle.nc_run.proofs.CourseLaws.{Closes, SoFar, all_of, cut_of, more_of, none_yet, stopped_of, unwritten_of}

abbrev alone : Task → List Item
alone task = Alone task ∷ []

module _ {A C W : Type 0} (F : FleetGhosts A) (K : SinkGhosts C) (V : WatchGhosts W A) (task : Task) (old : A) (out : C) (start : W)
    (begins : V.knows start start [] old) where
  abbrev n : ℕ
  n = F.clouds old

  none_begun : SoFar F K V n false (alone task) (alone task) old old out out start start 0
  none_begun = none_yet F K V n false (alone task) old out start refl begins

  module _ {new : A} {out_new : C} {end : W} where
    -- it was done, and its text written
    pub single_done : TurnLeaves F K V false task old new out out_new start end GoesOn → (e : Ending) → e ≡ plain st.Ok
        → Closes F K V n false (alone task) old new out out_new start end e
    single_done turn = all_of F K V n false (alone task) (more_of F K V n false (alone task) none_begun turn refl) refl

    -- it was done, and the watcher ended the run
    pub single_cut : TurnLeaves F K V false task old new out out_new start end Cut → CourseShown F K V n false (alone task) old new out out_new start end None
    single_cut turn = cut_of F K V n false (alone task) none_begun turn refl

    -- it was done, and its text couldn't be written
    pub single_unwritten : TurnLeaves F K V false task old new out out_new start end Unwritten → (e : Ending) → e ≡ plain st.WriteFault
        → Closes F K V n false (alone task) old new out out_new start end e
    single_unwritten turn = unwritten_of F K V n false (alone task) none_begun turn refl

    -- it wasn't done
    pub single_stopped : {cause : Fault} {after : Option ℕ} → TurnLeaves F K V false task old new out out_new start end (Stopped cause after)
        → Closes F K V n false (alone task) old new out out_new start end (ending_at (st.Vault cause) None after)
    single_stopped {cause} {after} turn = stopped_of F K V n false (alone task) none_begun turn refl (ending_at (st.Vault cause) None after) refl
