-- The restoring of the file that a name is settled on.
use Rattle.std.specs.Prelude.{ℕ, ◌≡◌, ◌≤◌, true, Some, List, Err}
use Rattle.nc_code.specs.Codes.{IsMds}
use Rattle.nc_meta.specs.declared.meta.Live.{Live}
use Rattle.nc_meta.specs.declared.meta.Meta.TheVariants as meta
use Rattle.nc_cloud.specs.Stopping.{Keeps}
use Rattle.nc_cloud.specs.declared.fleet.Fleet.{Ghosts as FleetGhosts}
use Rattle.nc_state.specs.Clouds.{Clouds}
use Rattle.nc_state.specs.Vaults.{ChangesOnlyName}
use Rattle.nc_restore.specs.declared.fault.RestoreFault.{RestoreFault}
use Rattle.nc_restore.specs.Restored.{ChangesOnlyBad, CountsWrong, HasRestoreCause, IfShort, RestoreIsShort, RightRestored, ShortShows, StaysResting, TellsSoundness}
use Rattle.nc_vault.specs.Repairing.{Advances}

-- what each stop and the end leave of the restoring of the clouds of P on the file of this metadata
pub record Restores {A : Type 0} (F : FleetGhosts A) (n : ℕ) (name : List ℕ) (m : Live) (P : Clouds) (old new : A) : Type 0 where
  pub rests : F.tells → StaysResting F n name (Some (meta.Live m)) old new
  pub healthy : F.tells → Keeps F old new (ChangesOnlyBad n name m P (F.held old))
  pub alone : F.tells → Keeps F old new (ChangesOnlyName name (F.held old))
  pub advances : Advances F old new

-- It is done: all chunks on the clouds of P are right, and so many of them weren't, four at most. None of those clouds failed.
pub record IsFileRestored {A : Type 0} (F : FleetGhosts A) (n : ℕ) (name : List ℕ) (m : Live) (P : Clouds) (old new : A) (count : ℕ) : Type 0 where
  pub restores : Restores F n name m P old new
  pub sound : IsMds m.code
  pub few : count ≤ 4
  pub right : F.tells → RightRestored n name m P (F.held old) (F.held new)
  pub counts : F.tells → CountsWrong n name m P (F.held old) count
  pub clean : F.counts_exactly → (c : ℕ) → P c ≡ true → F.faults new c ≡ F.faults old c

-- It isn't, for this cause.
pub record IsFileUnrestored {A : Type 0} (F : FleetGhosts A) (n : ℕ) (name : List ℕ) (m : Live) (P : Clouds) (old new : A) (why : RestoreFault) : Type 0 where
  pub restores : Restores F n name m P old new
  pub sound : TellsSoundness m (Err why)
  pub short : IfShort (RestoreIsShort F name m P old new) why
  pub shows : F.tells → IfShort (λ list. ShortShows F name m P old new) why
  pub cause : HasRestoreCause F.counts_exactly P (F.faults old) (F.faults new) why
