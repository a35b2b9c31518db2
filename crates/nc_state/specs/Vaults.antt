-- What a command on one name makes of a vault, wherever it is stopped and at its end.
use Rattle.std.specs.Prelude.{ℕ, ◌≡◌, Option, None, List, IfSome}
use Rattle.nc_name.specs.declared.key.Key.{Key}
use Rattle.nc_name.specs.Keys.{name_of}
use Rattle.nc_meta.specs.declared.meta.Meta.{Meta}
use Rattle.nc_cloud.specs.Contents.{Contents}
use Rattle.nc_cloud.specs.Stopping.{Keeps}
use Rattle.nc_cloud.specs.declared.fleet.Fleet.{Ghosts as FleetGhosts}
use Rattle.nc_state.specs.Clouds.{Clouds}
use Rattle.nc_state.specs.Versions.{Version, meta_of}
use Rattle.nc_state.specs.Weighing.{settled}
use Rattle.nc_state.specs.Standing.{Entries, Stands}
use Rattle.nc_state.specs.Commands.{RestsAt, StandsAfter}

-- what the clouds hold, what each name stands for, and which clouds are damaged
pub record Vault : Type 0 where
  pub contents : Contents
  pub entries : Entries
  pub damaged : Clouds

-- the contents stand for the entries
abbrev pub IsVault : ℕ → Vault → Type 0
IsVault n V = Stands n V.contents V.entries V.damaged

-- the same from whatever these contents stand for
pub record ForEachVault (n : ℕ) (F : Contents) (P : Vault → Type 0) : Type 0 where
  pub each : (S : Entries) (D : Clouds) → Stands n F S D → P (record { contents = F; entries = S; damaged = D })

-- the version that a command goes on from
abbrev pub version_in : ℕ → Vault → List ℕ → Version
version_in n V name = settled n V.contents name (V.entries name)

-- only objects of the name changed
pub record ChangesOnlyName (name : List ℕ) (F G : Contents) : Type 0 where
  pub others : (c : ℕ) (place : Key) → (name_of place ≡ name → ⊥) → G c place ≡ F c place

-- G stands for V, with the name weighed: a command that came to it at V has made nothing
abbrev pub NothingMade : ℕ → List ℕ → Vault → Contents → Type 0
NothingMade n name V G = StandsAfter n V.contents G V.entries V.damaged name None

-- G stands with a command on the name under way that came to it at V: nothing is made yet, or such a version of what was settled
pub record BeginsMaking (n : ℕ) (name : List ℕ) (makes : Version → Version → Type 0) (V : Vault) (G : Contents) : Type 0 where
  pub made : Option Version
  pub makes_it : IfSome made (makes (version_in n V name))
  pub stands : StandsAfter n V.contents G V.entries V.damaged name made

-- a command that came to the name at V has settled it: at H it is at rest at what was settled, whose metadata is this
pub record ComesTo (n : ℕ) (name : List ℕ) (V : Vault) (H : Contents) (top : Option Meta) : Type 0 where
  pub stands : IsVault n V
  pub rests : RestsAt n H V.entries V.damaged name (version_in n V name)
  pub is_top : meta_of (version_in n V name) ≡ top

-- the command is done at G, where the name is at rest at such a version, whose metadata is this
pub record DoesMaking (n : ℕ) (name : List ℕ) (makes : Version → Version → Type 0) (V : Vault) (top : Option Meta) (G : Contents) : Type 0 where
  pub version : Version
  pub made : makes (version_in n V name) version
  pub is_top : meta_of version ≡ top
  pub rests : RestsAt n G V.entries V.damaged name version

-- the part of the command behind settling, from wherever it came to the name, while this metadata is settled: what it leaves at
-- its end and wherever it is stopped
pub record MayBegin {A : Type 0} (F : FleetGhosts A) (n : ℕ) (name : List ℕ) (top : Option Meta) (makes : Version → Version → Type 0) (old new : A) : Type 0 where
  pub each : (V : Vault) → ComesTo n name V (F.held old) top → Keeps F old new (BeginsMaking n name makes V)

-- the same where it is done, with this metadata in place of it
pub record MayDo (n : ℕ) (name : List ℕ) (top : Option Meta) (makes : Version → Version → Type 0) (H G : Contents) (next : Option Meta) : Type 0 where
  pub each : (V : Vault) → ComesTo n name V H top → DoesMaking n name makes V next G
