-- What a run does.
use Rattle.std.specs.Prelude.{ℕ, ◌≡◌, ◌≤◌, ◌⊎◌, ◌↔◌, Option, None, Some, IsSome, true, List, Ok, Err}
use Rattle.std.specs.declared.result.Result.{Result}
use Rattle.nc_stream.specs.declared.input.InputFault.{InputFault}
use Rattle.nc_stream.specs.declared.sink.Sink.{Ghosts as SinkGhosts}
use Rattle.nc_stream.specs.declared.source.Source.{Ghosts as SourceGhosts}
use Rattle.nc_cloud.specs.declared.fleet.Fleet.{Ghosts as FleetGhosts}
use Rattle.nc_state.specs.Vaults.{ForEachVault}
use Rattle.nc_vault.specs.declared.fault.Fault.TheVariants as fault
use Rattle.nc_words.specs.declared.act.Command.{Command}
use Rattle.nc_words.specs.declared.act.Request.{Request}
use Rattle.nc_name.specs.declared.name.NameFault.{NameFault as NameCause}
use Rattle.nc_words.specs.Words.{Asks, AsksNothing, HasBadName}
use Rattle.nc_run.specs.declared.ending.Ending.{Ending}
use Rattle.nc_run.specs.declared.status.Status.{Status}
use Rattle.nc_run.specs.declared.status.Status.TheVariants.{Width, Usage, Name, ReadFault, WriteFault, Vault}
use Rattle.nc_run.specs.Course.{Course}
use Rattle.nc_run.specs.Ending.{CountsStream, IsEarly, IsPlain, IsRefused, plain, unread}
use Rattle.nc_run.specs.Items.{is_batch, items_of}
use Rattle.nc_run.specs.Milling.{Mills}
use Rattle.nc_run.specs.Sides.{IsWide, Sides, TakesIf, reads_input}
use Rattle.nc_run.specs.Standing.{RunStands}
use Rattle.nc_run.specs.Telling.{Tells}

-- the run is answered so exactly where this holds, want of memory aside
pub record AnswersWhere (answer status : Status) (Such : Type 0) : Type 0 where
  pub only : status ≡ answer → Such
  pub always : Such → (status ≡ answer) ⊎ (status ≡ Vault fault.Memory)

-- How a run is answered whatever it asks for: what is refused before any call on the clouds, and what the counts of its streams say.
pub record IsAnswered {A B C : Type 0} (F : FleetGhosts A) (S : SourceGhosts B) (K : SinkGhosts C) (words : List (List ℕ))
    (old new : Sides A B C) (status : Status) : Type 0 where
  pub width : (w : ℕ) → (status ≡ Width w) ↔ ((w ≡ F.clouds old.fleet) × (IsWide w → ⊥))
  pub usage : AnswersWhere Usage status (IsWide (F.clouds old.fleet) × AsksNothing (F.clouds old.fleet) words)
  pub name : (cause : NameCause) → AnswersWhere (Name cause) status
      (IsWide (F.clouds old.fleet) × HasBadName (F.clouds old.fleet) words cause)
  pub early : IsEarly status → new.fleet ≡ old.fleet
  pub refused : IsRefused status → (new.source ≡ old.source) × (new.out ≡ old.out)
  pub read : CountsStream ReadFault S.counts_exactly (S.faults old.source) (S.faults new.source) status
  pub write : CountsStream WriteFault K.counts_exactly (K.faults old.out) (K.faults new.out) status

-- The input wasn't read to its end, for this cause, and nothing was begun.
pub record Unread {A B C : Type 0} (S : SourceGhosts B) (command : Command) (old new : Sides A B C) (result : Option Ending) : Type 0 where
  pub cause : InputFault
  pub reads : reads_input command ≡ true
  pub takes : TakesIf (reads_input command) S old.source new.source (Err cause)
  pub ends : result ≡ Some (plain (unread cause))
  pub fleet : new.fleet ≡ old.fleet
  pub quiet : new.out ≡ old.out

-- All of the input was taken, or none where none is read, and what the request asks for with it was done.
pub record Ran {A B C : Type 0} (F : FleetGhosts A) (S : SourceGhosts B) (K : SinkGhosts C) (request : Request)
    (old new : Sides A B C) (result : Option Ending) : Type 0 where
  pub input : List ℕ
  pub takes : TakesIf (reads_input request.command) S old.source new.source (Ok input)
  pub course : Course F K (F.clouds old.fleet) (is_batch request.command) (items_of request input) old.fleet new.fleet old.out new.out result
  pub stands : IsSome result → F.tells → ForEachVault (F.clouds old.fleet) (F.held old.fleet)
      (RunStands F (F.clouds old.fleet) course.done course.next old.fleet new.fleet)

-- the input wasn't read, a mill was done, or what the request asks for was
abbrev pub DoesRequest : {A B C : Type 0} → FleetGhosts A → SourceGhosts B → SinkGhosts C → Request
    → Sides A B C → Sides A B C → Option Ending → Type 0
DoesRequest F S K request old new result =
    Unread S request.command old new result ⊎ (Mills F K request old new result ⊎ Ran F S K request old new result)

-- The words ask for this, and it was done so.
pub record Does {A B C : Type 0} (F : FleetGhosts A) (S : SourceGhosts B) (K : SinkGhosts C) (words : List (List ℕ))
    (old new : Sides A B C) (e : Ending) : Type 0 where
  pub wide : IsWide (F.clouds old.fleet)
  pub request : Request
  pub asks : Asks (F.clouds old.fleet) words request
  pub does : DoesRequest F S K request old new (Some e)

-- memory ran out while the words were read, and nothing was begun
pub record Unbegun {A B C : Type 0} (old new : Sides A B C) (e : Ending) : Type 0 where
  pub same : new ≡ old
  pub plain : IsPlain e

-- what a run did that ended so; where it was refused, nothing
abbrev pub DoesBy : {A B C : Type 0} → FleetGhosts A → SourceGhosts B → SinkGhosts C → List (List ℕ)
    → Sides A B C → Sides A B C → Ending → Status → Type 0
DoesBy F S K words old new e (Width w) = IsPlain e
DoesBy F S K words old new e Usage = IsPlain e
DoesBy F S K words old new e (Name cause) = IsPlain e
DoesBy F S K words old new e (Vault fault.Memory) = Unbegun old new e ⊎ Does F S K words old new e
DoesBy F S K words old new e other = Does F S K words old new e

-- a run that ended so, with what is told of its ending
pub record Concludes {A B C G : Type 0} (F : FleetGhosts A) (S : SourceGhosts B) (K : SinkGhosts C) (E : SinkGhosts G)
    (words : List (List ℕ)) (old new : Sides A B C) (err err_new : G) (status : Status) : Type 0 where
  pub ending : Ending
  pub is : ending.status ≡ status
  pub does : DoesBy F S K words old new ending status
  pub tells : Tells E ending err err_new
