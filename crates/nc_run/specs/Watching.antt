-- What the watcher of a run knows at its end.
use Rattle.std.specs.Prelude.{ℕ, ◌≡◌, ◌⊎◌, Bool, true, false, Option, None, Some, IsNone, List, [], ◌∷◌}
use Rattle.std.proofs.Common.{inl, inr}
use Rattle.std.specs.Option.{option_map}
use Rattle.nc_cloud.specs.declared.fleet.Fleet.{Ghosts as FleetGhosts}
use Rattle.nc_stream.specs.declared.sink.Sink.{Ghosts as SinkGhosts}
use Rattle.nc_stream.specs.declared.source.Source.{Ghosts as SourceGhosts}
use Rattle.nc_vault.specs.declared.fault.Fault.TheVariants as fault
use Rattle.nc_words.specs.declared.act.Request.{Request}
use Rattle.nc_words.specs.Words.{Asks}
use Rattle.nc_run.specs.declared.ending.Ending.{Ending}
use Rattle.nc_run.specs.declared.status.Status.{Status}
use Rattle.nc_run.specs.declared.status.Status.TheVariants.{Width, Usage, Name, Vault}
use Rattle.nc_run.specs.declared.watching.Watch.{Ghosts as WatchGhosts}
use Rattle.nc_run.specs.Course.{Course}
use Rattle.nc_run.specs.Ending.{IsPlain}
use Rattle.nc_run.specs.Items.{Item}
use Rattle.nc_run.specs.Running.{DoesRequest, Unbegun}
use Rattle.nc_run.specs.Sides.{IsWide, Sides}
use Rattle.nc_run.specs.Telling.{Tells}
use Rattle.nc_run.specs.Turns.{Turn}

-- the fleets that these acts began at, the last of them first, and earlier ones
abbrev pub begun_at : {A : Type 0} → List (Turn A) → List A → List A
begun_at [] earlier = earlier
begun_at (t ∷ ts) earlier = begun_at ts (t.before ∷ earlier)

-- The watcher let the run go on at each of these acts and knows what the last one left; where it ended the run, it was at the one that
-- came next.
pub record Knows {A W : Type 0} (V : WatchGhosts W A) (start end : W) (done : List (Turn A)) (middle new : A) (result : Option Ending) : Type 0 where
  pub known : V.knows start end (begun_at done []) middle
  pub why : IsNone result → V.why end new

-- the acts of a run, and what its watcher knows of them
pub record CourseShown {A C W : Type 0} (F : FleetGhosts A) (K : SinkGhosts C) (V : WatchGhosts W A) (n : ℕ) (batch : Bool) (items : List Item)
    (old new : A) (out out_new : C) (start end : W) (result : Option Ending) : Type 0 where
  pub course : Course F K n batch items old new out out_new result
  pub knows : Knows V start end course.done course.middle new result

-- nothing is known of a run that did no act, else what was seen of its acts
abbrev pub KnowsBy : {A B C W : Type 0} → (F : FleetGhosts A) → (S : SourceGhosts B) → (K : SinkGhosts C) → WatchGhosts W A
    → (request : Request) → (old new : Sides A B C) → W → W → (result : Option Ending)
    → DoesRequest F S K request old new result → Type 0
KnowsBy F S K V request old new start end result (inl unread) = end ≡ start
KnowsBy F S K V request old new start end result (inr (inl mills)) = end ≡ start
KnowsBy F S K V request old new start end result (inr (inr ran)) =
    Knows V start end ran.course.done ran.course.middle new.fleet result

-- what was done for a request, and what the watcher knows then
pub record RequestShown {A B C W : Type 0} (F : FleetGhosts A) (S : SourceGhosts B) (K : SinkGhosts C) (V : WatchGhosts W A)
    (request : Request) (old new : Sides A B C) (start end : W) (result : Option Ending) : Type 0 where
  pub does : DoesRequest F S K request old new result
  pub knows : KnowsBy F S K V request old new start end result does

-- the same of what the words ask for
pub record DoesShown {A B C W : Type 0} (F : FleetGhosts A) (S : SourceGhosts B) (K : SinkGhosts C) (V : WatchGhosts W A)
    (words : List (List ℕ)) (old new : Sides A B C) (start end : W) (result : Option Ending) : Type 0 where
  pub wide : IsWide (F.clouds old.fleet)
  pub request : Request
  pub asks : Asks (F.clouds old.fleet) words request
  pub shown : RequestShown F S K V request old new start end result

-- what a run did that ended so, and what its watcher knows; where it was refused, nothing
abbrev pub ShownBy : {A B C W : Type 0} → FleetGhosts A → SourceGhosts B → SinkGhosts C → WatchGhosts W A → List (List ℕ)
    → Sides A B C → Sides A B C → W → W → Ending → Status → Type 0
ShownBy F S K V words old new start end e (Width w) = IsPlain e × (end ≡ start)
ShownBy F S K V words old new start end e Usage = IsPlain e × (end ≡ start)
ShownBy F S K V words old new start end e (Name cause) = IsPlain e × (end ≡ start)
ShownBy F S K V words old new start end e (Vault fault.Memory) =
    (Unbegun old new e × (end ≡ start)) ⊎ DoesShown F S K V words old new start end (Some e)
ShownBy F S K V words old new start end e other = DoesShown F S K V words old new start end (Some e)

-- the same where the watcher may have ended it
abbrev pub ShownIn : {A B C W : Type 0} → FleetGhosts A → SourceGhosts B → SinkGhosts C → WatchGhosts W A → List (List ℕ)
    → Sides A B C → Sides A B C → W → W → Option Ending → Type 0
ShownIn F S K V words old new start end (Some e) = ShownBy F S K V words old new start end e e.status
ShownIn F S K V words old new start end None = DoesShown F S K V words old new start end None

-- what is told of a run, unless its watcher ended it
abbrev pub TellsIf : {B : Type 0} → SinkGhosts B → Option Ending → B → B → Type 0
TellsIf E (Some e) err err_new = Tells E e err err_new
TellsIf E None err err_new = err_new ≡ err

-- what a run did that ended with this status, or was ended by its watcher: then there is none
pub record ConcludesShown {A B C G W : Type 0} (F : FleetGhosts A) (S : SourceGhosts B) (K : SinkGhosts C) (E : SinkGhosts G)
    (V : WatchGhosts W A) (words : List (List ℕ)) (old new : Sides A B C) (err err_new : G) (start end : W)
    (result : Option Status) : Type 0 where
  pub ending : Option Ending
  pub is : option_map (λ e. e.status) ending ≡ result
  pub shown : ShownIn F S K V words old new start end ending
  pub tells : TellsIf E ending err err_new
