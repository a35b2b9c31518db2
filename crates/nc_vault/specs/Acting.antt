-- What a step promises.
use Rattle.std.specs.Prelude.{ℕ, ◌≡◌, false, Option, None, Some, List, Contains, Result, Ok, Err}
use Rattle.nc_meta.specs.declared.meta.Meta.{Meta}
use Rattle.nc_cloud.specs.Contents.{Contents}
use Rattle.nc_cloud.specs.Stopping.{GoesOn, Keeps}
use Rattle.nc_cloud.specs.declared.fleet.Fleet.{Ghosts as FleetGhosts}
use Rattle.nc_state.specs.Holding.{IsSettledOn}
use Rattle.nc_state.specs.Vaults.{ChangesOnlyName, ForEachVault}
use Rattle.nc_state.specs.Tidy.{IsTidy}
use Rattle.nc_write.specs.Tidying.{NoneSlipped}
use Rattle.nc_words.specs.declared.act.Act.{Act}
use Rattle.nc_words.specs.declared.act.Act.TheVariants as act
use Rattle.nc_words.specs.Acts.{Task}
use Rattle.nc_vault.specs.declared.fault.Fault.{Fault}
use Rattle.nc_vault.specs.declared.fault.Fault.TheVariants as fault
use Rattle.nc_vault.specs.declared.reply.Reply.{Reply}
use Rattle.nc_vault.specs.declared.reply.Reply.TheVariants as reply
use Rattle.nc_vault.specs.Counting.{CostsBy, CountsGrow, CountsSay, ReadsFor, TookBy, may_read_chunks, restores}
use Rattle.nc_vault.specs.Replies.{RepliesTo}
use Rattle.nc_vault.specs.Saying.{Says}
use Rattle.nc_vault.specs.Seeing.{SeesFor, only_reads}
use Rattle.nc_vault.specs.Vaults.{ActKeeps, WorksOn}

-- an act on all names that was stopped tells with how many it was done; any other tells nothing
abbrev pub TellsHowMany : Act → Option ℕ → Type 0
TellsHowMany act.List (Some after) = Unit {0}
TellsHowMany act.List None = ⊥
TellsHowMany (act.Repair i) (Some after) = Unit {0}
TellsHowMany (act.Repair i) None = ⊥
TellsHowMany (act.Restore first second) (Some after) = Unit {0}
TellsHowMany (act.Restore first second) None = ⊥
TellsHowMany act.Recover (Some after) = Unit {0}
TellsHowMany act.Recover None = ⊥
TellsHowMany act.Scrub (Some after) = Unit {0}
TellsHowMany act.Scrub None = ⊥
TellsHowMany other after = after ≡ None

-- how the act is answered where it is done; any may be stopped
abbrev pub IsReplyTo : Act → Reply → Type 0
IsReplyTo a (reply.Stopped cause after) = TellsHowMany a after
IsReplyTo (act.Put name) (reply.Stored generation) = Unit {0}
IsReplyTo (act.Get name) (reply.Bytes v) = Unit {0}
IsReplyTo (act.Remove name) (reply.Removed generation) = Unit {0}
IsReplyTo (act.Stat name) (reply.About generation len witnessed) = Unit {0}
IsReplyTo act.List (reply.Listing rows) = Unit {0}
IsReplyTo (act.Repair i) (reply.Repaired files) = Unit {0}
IsReplyTo (act.Restore first second) (reply.Restored objects) = Unit {0}
IsReplyTo act.Recover (reply.Settled names) = Unit {0}
IsReplyTo act.Scrub (reply.Damage flaws) = Unit {0}
IsReplyTo a other = ⊥

-- what may change: of a put or a removal objects of its name, of an act on all names any, of all others none
abbrev pub Changes : Act → Contents → Contents → Type 0
Changes (act.Put name) F G = ChangesOnlyName name F G
Changes (act.Remove name) F G = ChangesOnlyName name F G
Changes (act.Repair i) F G = Unit {0}
Changes (act.Restore first second) F G = Unit {0}
Changes act.Recover F G = Unit {0}
Changes other F G = G ≡ F

-- the act was done with no name before
abbrev pub IsFirst : Option ℕ → Type 0
IsFirst None = Unit {0}
IsFirst (Some after) = after ≡ 0

-- where the name that an act began with is disputed or misplaced, nothing was written
abbrev pub StaysBefore : Contents → Contents → Reply → Type 0
StaysBefore F G (reply.Stopped (fault.Conflict generation a b) after) = IsFirst after → G ≡ F
StaysBefore F G (reply.Stopped (fault.Misplaced c a b) after) = IsFirst after → G ≡ F
StaysBefore F G other = Unit {0}

-- every cloud holds one metadata of the name, if any, and of its other objects none that this doesn't name
pub record IsTidied (n : ℕ) (G : Contents) (name : List ℕ) : Type 0 where
  pub top : Option Meta
  pub settled : IsSettledOn n G name top
  pub tidy : IsTidy n G name top

-- each name that the act worked on is left so; a restore deletes nothing
pub record LeavesTidy (n : ℕ) (a : Act) (F G : Contents) : Type 0 where
  pub each : (names : List (List ℕ)) (name : List ℕ) → restores a ≡ false → WorksOn n F a names → Contains names name → IsTidied n G name

-- an act that is done
abbrev pub IfDone : Reply → Type 0 → Type 0
IfDone (reply.Stopped cause after) P = Unit {0}
IfDone other P = P

-- The task was begun on the fleet at `old`, which it left at `new`, and was answered so.
pub record Acted {A : Type 0} (F : FleetGhosts A) (task : Task) (old new : A) (answer : Reply) : Type 0 where
  pub clouds : F.clouds new ≡ F.clouds old
  pub grows : CountsGrow F old new
  pub time : GoesOn F old new
  pub kind : IsReplyTo task.act answer
  pub counts : CountsSay F task.act old new answer
  pub costs : CostsBy (may_read_chunks task.act answer) (F.chunk_gets old) (F.chunk_gets new)
  pub took : TookBy (F.clouds old) task.act answer (F.chunk_gets old) (F.chunk_gets new)
  pub before : StaysBefore (F.held old) (F.held new) answer
  pub only : F.tells → Keeps F old new (Changes task.act (F.held old))
  pub says : F.tells → Says F task old new answer
  pub sees : SeesFor (only_reads task.act) F old new task.act answer
  pub stands : F.tells → ForEachVault (F.clouds old) (F.held old) (ActKeeps F (F.clouds old) task old new answer)
  pub replies : F.tells → ForEachVault (F.clouds old) (F.held old) (RepliesTo F task old new answer)
  pub reads : F.tells → ForEachVault (F.clouds old) (F.held old) (ReadsFor (only_reads task.act) F old new task.act answer)
  pub tidy : F.tells → F.sure_deletes → NoneSlipped F old new → IfDone answer (LeavesTidy (F.clouds old) task.act (F.held old) (F.held new))

-- ---- answers

-- a put
abbrev pub put_reply : Result ℕ Fault → Reply
put_reply (Ok generation) = reply.Stored generation
put_reply (Err cause) = reply.Stopped cause None

-- a removal
abbrev pub remove_reply : Result ℕ Fault → Reply
remove_reply (Ok generation) = reply.Removed generation
remove_reply (Err cause) = reply.Stopped cause None
