-- How far an act has come on a vault.
use Rattle.std.specs.Prelude.{ℕ, ◌≡◌, ◌<◌, ◌≤◌, ◌+◌, true, Option, None, Some, List, [], ◌∷◌, length, take, slice_get, Contains, IfSome, IsSome}
use Rattle.nc_name.specs.declared.key.Key.{Key}
use Rattle.nc_name.specs.Keys.{name_of}
use Rattle.nc_cloud.specs.Contents.{Contents}
use Rattle.nc_cloud.specs.Stopping.{Stops}
use Rattle.nc_cloud.specs.declared.fleet.Fleet.{Ghosts as FleetGhosts}
use Rattle.nc_state.specs.Clouds.{Clouds, without_cloud}
use Rattle.nc_state.specs.Commands.{RestsAt}
use Rattle.nc_state.specs.Entries.Entry.{Rest}
use Rattle.nc_state.specs.Holding.{AllHold}
use Rattle.nc_state.specs.Right.{RightOn}
use Rattle.nc_state.specs.Standing.{AreNames}
use Rattle.nc_state.specs.Vaults.{IsVault, Vault, version_in}
use Rattle.nc_state.specs.Versions.{Version}
use Rattle.nc_state.specs.Weighing.{after}
use Rattle.nc_words.specs.declared.act.Act.{Act}
use Rattle.nc_words.specs.declared.act.Act.TheVariants as act
use Rattle.nc_words.specs.Acts.{Task, heals}
use Rattle.nc_vault.specs.declared.reply.Reply.{Reply}
use Rattle.nc_vault.specs.declared.reply.Reply.TheVariants as reply
use Rattle.nc_vault.specs.Makings.{Brings, Makes}

-- The names that an act writes objects of, in its order: its own, all that stand on clouds, or none where it only reads.
abbrev pub WorksOn : ℕ → Contents → Act → List (List ℕ) → Type 0
WorksOn n F (act.Put name) names = names ≡ name ∷ []
WorksOn n F (act.Remove name) names = names ≡ name ∷ []
WorksOn n F (act.Repair i) names = AreNames n F names
WorksOn n F (act.Restore first second) names = AreNames n F names
WorksOn n F act.Recover names = AreNames n F names
WorksOn n F other names = names ≡ []

-- the clouds on which an act leaves all chunks of a name right
abbrev pub fills : Act → Clouds
fills (act.Put name) c = true
fills other c = heals other c

-- of the damaged clouds, those that still are once the act is done
abbrev pub still_damaged : Act → Clouds → Clouds
still_damaged (act.Repair i) D = without_cloud D i
still_damaged (act.Restore first None) D = without_cloud D first
still_damaged (act.Restore first (Some second)) D = without_cloud (without_cloud D first) second
still_damaged other D = D

-- ---- one name

-- The act that began at V is done with the name, at W: it rests at the version that the act brings it to, every cloud holds its
-- metadata, and its chunks are right on the clouds that the act fills.
pub record IsDoneWith (n : ℕ) (task : Task) (V W : Vault) (name : List ℕ) : Type 0 where
  pub version : Version
  pub brought : Brings n task name (version_in n V name) version
  pub rests : W.entries name ≡ Rest version
  pub held : AllHold n W.contents name version
  pub filled : (c : ℕ) → c < n → fills task.act c ≡ true → RightOn n W.contents name version c

-- The act that began at V may be under way with the name, at W: it has its old version, its new one, or both.
pub record IsUnderWay (n : ℕ) (task : Task) (V W : Vault) (name : List ℕ) : Type 0 where
  pub made : Option Version
  pub makes : IfSome made (Makes n task name (version_in n V name))
  pub entry : W.entries name ≡ after n V.contents W.contents V.damaged name (V.entries name) made

-- the name is as before, with all its objects
pub record IsUntouched (V W : Vault) (name : List ℕ) : Type 0 where
  pub entry : W.entries name ≡ V.entries name
  pub objects : (c : ℕ) (place : Key) → name_of place ≡ name → W.contents c place ≡ V.contents c place

-- ---- all of them

-- Of these names, the act is done with the first ones, may be under way with the next, and hasn't touched any other name.
pub record HasReached (n : ℕ) (task : Task) (V W : Vault) (names : List (List ℕ)) (done : ℕ) : Type 0 where
  pub among : done ≤ length names
  pub finished : (name : List ℕ) → Contains (take done names) name → IsDoneWith n task V W name
  pub under_way : IfSome (slice_get names done) (IsUnderWay n task V W)
  pub others : (name : List ℕ) → (Contains (take (done + 1) names) name → ⊥) → IsUntouched V W name

-- an act that was begun at V and has come to its names left W; it was done with so many of them
pub record HasBegun (n : ℕ) (task : Task) (done : ℕ) (V W : Vault) : Type 0 where
  pub names : List (List ℕ)
  pub works_on : WorksOn n V.contents task.act names
  pub reached : HasReached n task V W names done
  pub damaged : W.damaged ≡ V.damaged

-- An act that was begun at V and wasn't answered Ok, or was stopped, left W: nothing was changed yet, or it was done with so many
-- names.
pub data Begins (n : ℕ) (task : Task) (done : ℕ) (V W : Vault) : Type 0 where
  not_yet : done ≡ 0 → W ≡ V → Begins n task done V W
  has_come : HasBegun n task done V W → Begins n task done V W

-- an act that was answered Ok made W of V
pub record Does (n : ℕ) (task : Task) (V W : Vault) : Type 0 where
  pub names : List (List ℕ)
  pub works_on : WorksOn n V.contents task.act names
  pub reached : HasReached n task V W names (length names)
  pub damaged : W.damaged ≡ still_damaged task.act V.damaged

-- ---- contents that stand for it

-- contents that the act left where it wasn't answered Ok, or at which it was stopped
pub record StandsBegun (n : ℕ) (task : Task) (V : Vault) (G : Contents) : Type 0 where
  pub vault : Vault
  pub contents : vault.contents ≡ G
  pub stands : IsVault n vault
  pub done : ℕ
  pub begun : Begins n task done V vault

-- the same, with the number of names that the act is done with
pub record StandsBegunAt (n : ℕ) (task : Task) (V : Vault) (done : ℕ) (G : Contents) : Type 0 where
  pub left : StandsBegun n task V G
  pub tells : left.done ≡ done

-- contents that the act left at Ok
pub record StandsDone (n : ℕ) (task : Task) (V : Vault) (G : Contents) : Type 0 where
  pub vault : Vault
  pub contents : vault.contents ≡ G
  pub stands : IsVault n vault
  pub done : Does n task V vault

-- an act on all names that was stopped tells how many it was done with; any other tells nothing
abbrev pub TellsDone : Act → Option ℕ → ℕ → Type 0
TellsDone (act.Repair i) after done = after ≡ Some done
TellsDone (act.Restore first second) after done = after ≡ Some done
TellsDone act.Recover after done = after ≡ Some done
TellsDone act.List after done = IsSome after
TellsDone act.Scrub after done = IsSome after
TellsDone other after done = after ≡ None

pub record StandsStopped (n : ℕ) (task : Task) (V : Vault) (G : Contents) (after : Option ℕ) : Type 0 where
  pub left : StandsBegun n task V G
  pub tells : TellsDone task.act after left.done

-- what the clouds hold once the act was answered so
abbrev pub StandsAtEnd : ℕ → Task → Vault → Contents → Reply → Type 0
StandsAtEnd n task V G (reply.Stopped fault after) = StandsStopped n task V G after
StandsAtEnd n task V G other = StandsDone n task V G

-- From the vault V on, each stop of the act leaves contents that stand for the act begun, and what is held at its end stands for
-- the act by its answer.
pub record ActKeeps {A : Type 0} (F : FleetGhosts A) (n : ℕ) (task : Task) (old new : A) (answer : Reply) (V : Vault) : Type 0 where
  pub stops : Stops F old new (StandsBegun n task V)
  pub end : StandsAtEnd n task V (F.held new) answer

-- ---- between two names

-- the act is done with the first names and hasn't touched any other
pub record HasFinished (n : ℕ) (task : Task) (V W : Vault) (names : List (List ℕ)) (done : ℕ) : Type 0 where
  pub among : done ≤ length names
  pub finished : (name : List ℕ) → Contains (take done names) name → IsDoneWith n task V W name
  pub others : (name : List ℕ) → (Contains (take done names) name → ⊥) → IsUntouched V W name

-- and what the clouds hold stands: this holds between the works on two names
pub record StandsFinished (n : ℕ) (task : Task) (V : Vault) (names : List (List ℕ)) (done : ℕ) (G : Contents) : Type 0 where
  pub vault : Vault
  pub contents : vault.contents ≡ G
  pub stands : IsVault n vault
  pub damaged : vault.damaged ≡ V.damaged
  pub reached : HasFinished n task V vault names done

-- G stands for the act done with the name, to which it came at V
pub record DoesName (n : ℕ) (task : Task) (name : List ℕ) (V : Vault) (G : Contents) : Type 0 where
  pub version : Version
  pub brought : Brings n task name (version_in n V name) version
  pub rests : RestsAt n G V.entries V.damaged name version
  pub filled : (c : ℕ) → c < n → fills task.act c ≡ true → RightOn n G name version c
