-- How the acts of a mill end.
use Rattle.std.specs.Prelude.{◌≡◌, ◌+◌, Option, None, Some}
use Rattle.sha2.specs.Sha256.{sha256}
use Rattle.nc_cloud.specs.Contents.{Contents}
use Rattle.nc_search.specs.Searches.{NoStart}
use Rattle.nc_state.specs.Clouds.{no_cloud}
use Rattle.nc_vault.specs.declared.fault.Fault.{Fault}
use Rattle.nc_vault.specs.declared.fault.Fault.TheVariants as fault
use Rattle.nc_vault.specs.declared.reply.Reply.{Reply}
use Rattle.nc_vault.specs.declared.reply.Reply.TheVariants as reply
use Rattle.nc_mill.specs.declared.job.Job.{Job}
use Rattle.nc_mill.specs.declared.milled.Milled.{Milled}
use Rattle.nc_mill.specs.declared.milled.MillFault.{MillFault}
use Rattle.nc_mill.specs.declared.milled.MillFault.TheVariants as mill
use Rattle.nc_mill.specs.Mills.{DrawsNone, DrawsNoRepair, mill_draw}
use Rattle.nc_mill.specs.Stages.{KeepsFile, StoresFile}

-- ---- causes

-- those for which an act of a mill may stop
abbrev pub MayStop : Fault → Type 0
MayStop (fault.Spent tried) = Unit {0}
MayStop fault.Memory = Unit {0}
MayStop other = ⊥

-- what the mill answers then
abbrev pub mill_fault : Fault → MillFault
mill_fault (fault.Spent tried) = mill.Spent tried
mill_fault other = mill.Memory

-- what it answers where the act was stopped
abbrev pub stop_of : Reply → Option MillFault
stop_of (reply.Stopped cause after) = Some (mill_fault cause)
stop_of other = None

-- ---- how an act may be answered

-- the put
abbrev pub MayStore : Reply → Type 0
MayStore (reply.Stored generation) = Unit {0}
MayStore (reply.Stopped cause after) = MayStop cause
MayStore other = ⊥

-- a get, which only memory may stop
abbrev pub MayGive : Reply → Type 0
MayGive (reply.Bytes bytes) = Unit {0}
MayGive (reply.Stopped fault.Memory after) = Unit {0}
MayGive other = ⊥

-- the repair
abbrev pub MayRepair : Reply → Type 0
MayRepair (reply.Repaired files) = Unit {0}
MayRepair (reply.Stopped cause after) = MayStop cause
MayRepair other = ⊥

-- ---- what is so then

-- why the put stops
abbrev pub PutStops : Job → Fault → Type 0
PutStops job (fault.Spent tried) = (tried ≡ job.setting.budget) × NoStart job.width (mill_draw job.setting 1) job.setting.budget
PutStops job fault.Memory = Unit {0}
PutStops job other = ⊥

-- how it ends
abbrev pub PutEnds : Job → Contents → Reply → Type 0
PutEnds job G (reply.Stored generation) = StoresFile job no_cloud G
PutEnds job G (reply.Stopped cause after) = PutStops job cause
PutEnds job G other = ⊥

-- how a get ends
abbrev pub GetEnds : Job → Reply → Type 0
GetEnds job (reply.Bytes bytes) = bytes ≡ job.file
GetEnds job (reply.Stopped fault.Memory after) = Unit {0}
GetEnds job other = ⊥

-- why the repair stops
abbrev pub MendStops : Job → Fault → Type 0
MendStops job (fault.Spent tried) = (tried ≡ job.setting.budget) × DrawsNoRepair job.width job.setting job.lost
MendStops job fault.Memory = Unit {0}
MendStops job other = ⊥

-- how it ends: the one file is repaired
abbrev pub MendEnds : Job → Contents → Reply → Type 0
MendEnds job G (reply.Repaired files) = (files ≡ 1) × KeepsFile job G
MendEnds job G (reply.Stopped cause after) = MendStops job cause
MendEnds job G other = ⊥

-- ---- all acts together

-- they tell this of their job
pub record IsRun (job : Job) (m : Milled) : Type 0 where
  pub lost : m.lost ≡ job.lost
  pub fetched : m.fetched + 1 ≡ job.width
  pub digest : m.digest ≡ sha256 job.file

-- why they tell nothing
abbrev pub RefusesRun : Job → MillFault → Type 0
RefusesRun job (mill.Spent tried) = (tried ≡ job.setting.budget) × DrawsNone job.width job.setting job.lost
RefusesRun job mill.Memory = Unit {0}
