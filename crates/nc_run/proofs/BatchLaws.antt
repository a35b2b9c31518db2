-- The lines of a batch, one after the other.
use Rattle.std.proofs.Common.{◌≡◌, ◌+◌, true, None, Some, Option, List, ◌∷◌, ℕ, map, refl, subst, sym}
use Rattle.nc_stream.specs.declared.sink.Sink.{Ghosts as SinkGhosts}
use Rattle.nc_cloud.specs.declared.fleet.Fleet.{Ghosts as FleetGhosts}
use Rattle.nc_words.specs.Acts.{Task, task_of}
use Rattle.nc_words.specs.Lines.{IsOutside, LineAsks, RefusesLine}
use Rattle.nc_words.specs.declared.act.Act.{Act}
use Rattle.nc_words.specs.declared.lines.LineFault.{LineFault}
use Rattle.nc_words.specs.declared.lines.LineFault.TheVariants.{Outside}
use Rattle.nc_words.specs.declared.setting.Setting.{Setting}
use Rattle.nc_vault.specs.declared.fault.Fault.{Fault}
use Rattle.nc_vault.specs.declared.fault.Fault.TheVariants as fault
use Rattle.nc_run.specs.declared.ending.Ending.{Ending}
use Rattle.nc_run.specs.declared.status.Status.TheVariants as st
use Rattle.nc_run.specs.declared.turned.Turned.TheVariants.{GoesOn, Cut, Unwritten, Stopped}
use Rattle.nc_run.specs.declared.watching.Watch.{Ghosts as WatchGhosts}
use Rattle.nc_run.specs.Ending.{plain}
use Rattle.nc_run.specs.Items.{Item, Wants, lines_of}
use Rattle.nc_run.specs.Items.Item.{InLine}
use Rattle.nc_run.specs.Turning.{TurnLeaves, ending_at}
use Rattle.nc_run.specs.Watching.{CourseShown}
use Rattle.nc_run.proofs.CourseLaws.{Closes, SoFar, at_line, cut_of, memory_of, more_of, outside_of, stopped_of, unwritten_of}

abbrev pub items_in : Setting → List ℕ → List Item
items_in s text = map (InLine s) (lines_of text)

-- a line asks as many clouds as there are
pub line_wants : (w n : ℕ) (s : Setting) (line : List ℕ) (a : Act) (bytes given : List ℕ) → w ≡ n → given ≡ bytes → LineAsks w line a bytes
    → Wants n (InLine s line) (task_of s a given)
line_wants w n s line a bytes given width same asks = (refl, subst (λ (l : List ℕ). LineAsks n line a l) (sym same) (subst (λ (k : ℕ). LineAsks k line a bytes) width asks))

-- or asks them for nothing
line_outside : (w n : ℕ) (line : List ℕ) (cause : LineFault) → w ≡ n → cause ≡ Outside → RefusesLine w line cause → IsOutside n line
line_outside w n line cause width outside refuses =
    subst (λ (k : ℕ). IsOutside k line) width (subst (λ (x : LineFault). RefusesLine w line x) outside refuses)

module _ {A C W : Type 0} (F : FleetGhosts A) (K : SinkGhosts C) (V : WatchGhosts W A) (s : Setting) (input : List ℕ) (old : A) (out : C) (start : W) where
  abbrev n : ℕ
  n = F.clouds old

  -- the acts of the lines before this text were done
  abbrev pub LeftOf : List ℕ → A → C → W → ℕ → Type 0
  LeftOf text now out_now mid count = SoFar F K V n true (items_in s input) (items_in s text) old now out out_now start mid count

  module _ {now : A} {out_now : C} {mid : W} {count : ℕ} (text line after : List ℕ) (is : lines_of text ≡ line ∷ lines_of after) (before : LeftOf text now out_now mid count) where
    here : SoFar F K V n true (items_in s input) (InLine s line ∷ items_in s after) old now out out_now start mid count
    here = at_line F K V n true (items_in s input) s text line after is before

    pub batch_outside : (w : ℕ) (cause : LineFault) → w ≡ n → cause ≡ Outside → RefusesLine w line cause → (e : Ending) → e ≡ plain (st.BatchLine (count + 1))
        → Closes F K V n true (items_in s input) old now out out_now start mid e
    batch_outside w cause width outside refuses = outside_of F K V n true (items_in s input) here (line_outside w n line cause width outside refuses)

    pub batch_memory : (e : Ending) → e ≡ plain (st.Vault fault.Memory) → Closes F K V n true (items_in s input) old now out out_now start mid e
    batch_memory = memory_of F K V n true (items_in s input) here

    module _ {new : A} {out_new : C} {end : W} (task : Task) (wants : Wants n (InLine s line) task) where
      pub batch_more : TurnLeaves F K V true task now new out_now out_new mid end GoesOn → LeftOf after new out_new end (count + 1)
      batch_more turn = more_of F K V n true (items_in s input) here turn wants

      pub batch_cut : TurnLeaves F K V true task now new out_now out_new mid end Cut → CourseShown F K V n true (items_in s input) old new out out_new start end None
      batch_cut turn = cut_of F K V n true (items_in s input) here turn wants

      pub batch_unwritten : TurnLeaves F K V true task now new out_now out_new mid end Unwritten
          → (e : Ending) → e ≡ ending_at st.WriteFault (Some (count + 1)) None → Closes F K V n true (items_in s input) old new out out_new start end e
      batch_unwritten turn = unwritten_of F K V n true (items_in s input) here turn wants

      pub batch_stopped : {cause : Fault} {names : Option ℕ} → TurnLeaves F K V true task now new out_now out_new mid end (Stopped cause names)
          → (e : Ending) → e ≡ ending_at (st.Vault cause) (Some (count + 1)) names → Closes F K V n true (items_in s input) old new out out_new start end e
      batch_stopped turn = stopped_of F K V n true (items_in s input) here turn wants
