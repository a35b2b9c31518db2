-- How a run ends that is asked for a mill.
use Rattle.std.specs.Prelude.{ℕ, ◌≡◌, Option, Some, List, Ok, Err}
use Rattle.std.specs.declared.result.Result.{Result}
use Rattle.std.specs.Io.KnownBytes.{Appends}
use Rattle.nc_name.specs.Counts.{Rose}
use Rattle.nc_stream.specs.Output.{AppendsSome}
use Rattle.nc_stream.specs.declared.sink.Sink.{Ghosts as SinkGhosts}
use Rattle.nc_cloud.specs.declared.fleet.Fleet.{Ghosts as FleetGhosts}
use Rattle.nc_mill.specs.Mills.{IsMilled, RefusesMill}
use Rattle.nc_mill.specs.declared.milled.MillFault.{MillFault}
use Rattle.nc_mill.specs.declared.milled.MillFault.TheVariants.{Memory, Spent}
use Rattle.nc_mill.specs.declared.milled.Milled.{Milled}
use Rattle.nc_vault.specs.declared.fault.Fault.TheVariants as fault
use Rattle.nc_words.specs.declared.act.Command.TheVariants.{Mill}
use Rattle.nc_words.specs.declared.act.Request.{Request}
use Rattle.nc_words.specs.declared.setting.Setting.{Setting}
use Rattle.nc_words.specs.Texts.{mill_text}
use Rattle.nc_run.specs.declared.ending.Ending.{Ending}
use Rattle.nc_run.specs.declared.status.Status.{Status}
use Rattle.nc_run.specs.declared.status.Status.TheVariants as st
use Rattle.nc_run.specs.Ending.{IsPlain}
use Rattle.nc_run.specs.Sides.{Sides}

-- what a mill of n clouds answers
abbrev pub MillAnswers : ℕ → Setting → ℕ → Result Milled MillFault → Type 0
MillAnswers n s number (Ok m) = IsMilled n number m
MillAnswers n s number (Err cause) = RefusesMill n s number cause

-- its text was written, or a beginning of it, since the output failed
abbrev pub EndsTold : {C : Type 0} → SinkGhosts C → List ℕ → C → C → Status → Type 0
EndsTold K text out out_new st.Ok = Appends (K.written out) (K.written out_new) text
EndsTold K text out out_new st.WriteFault = AppendsSome (K.written out) (K.written out_new) text × Rose (K.faults out) (K.faults out_new)
EndsTold K text out out_new other = ⊥

-- the status by what the mill answered
abbrev pub EndsMill : {C : Type 0} → SinkGhosts C → ℕ → ℕ → Result Milled MillFault → C → C → Status → Type 0
EndsMill K n number (Ok m) out out_new status = EndsTold K (mill_text number n m.lost m.fetched m.digest) out out_new status
EndsMill K n number (Err (Spent tried)) out out_new status = (status ≡ st.Vault (fault.Spent tried)) × (out_new ≡ out)
EndsMill K n number (Err Memory) out out_new status = (status ≡ st.Vault fault.Memory) × (out_new ≡ out)

-- a mill of n clouds was done, and the run ended so, with nothing to tell beside its status
pub record MillRuns {C : Type 0} (K : SinkGhosts C) (n : ℕ) (s : Setting) (number : ℕ) (out out_new : C) (e : Ending) : Type 0 where
  pub answer : Result Milled MillFault
  pub answers : MillAnswers n s number answer
  pub ends : EndsMill K n number answer out out_new e.status
  pub plain : IsPlain e

-- A mill was asked for, and done on clouds of its own: the clouds and the input of the run are as before.
pub record Mills {A B C : Type 0} (F : FleetGhosts A) (K : SinkGhosts C) (request : Request) (old new : Sides A B C)
    (result : Option Ending) : Type 0 where
  pub number : ℕ
  pub asks : request.command ≡ Mill number
  pub ending : Ending
  pub is : result ≡ Some ending
  pub runs : MillRuns K (F.clouds old.fleet) request.setting number old.out new.out ending
  pub fleet : new.fleet ≡ old.fleet
  pub source : new.source ≡ old.source
