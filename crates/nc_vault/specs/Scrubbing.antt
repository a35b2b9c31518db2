-- How what isn't right of one name is told, after what was told of others.
use Rattle.std.specs.Prelude.{ℕ, ◌≡◌, ◌++◌, List}
use Rattle.nc_cloud.specs.Deciding.{OnlyLooked}
use Rattle.nc_cloud.specs.Stopping.{Stops}
use Rattle.nc_cloud.specs.declared.fleet.Fleet.{Ghosts as FleetGhosts}
use Rattle.nc_scrub.specs.declared.flaw.Flaw.{Flaw}
use Rattle.nc_scrub.specs.Flaws.{AreFlaws}
use Rattle.nc_settle.specs.declared.settled.SettleFault.{SettleFault}
use Rattle.nc_settle.specs.Settling.{HasSettleCause, SettleRefuses}
use Rattle.nc_vault.specs.declared.fault.Fault.{Fault}
use Rattle.nc_vault.specs.declared.reply.NamedFlaw.{NamedFlaw}
use Rattle.nc_vault.specs.Damage.{with_name}
use Rattle.nc_vault.specs.Faults.{fault_of_settle}

-- the clouds were only looked at, and no stop left anything new
pub record OnlyScrubs {A : Type 0} (F : FleetGhosts A) (old new : A) : Type 0 where
  pub looked : OnlyLooked F old new
  pub stops : Stops F old new (λ G. G ≡ F.held old)

-- exactly what isn't right of the name was told after the others
pub record NameTold {A : Type 0} (F : FleetGhosts A) (name : List ℕ) (before told : List NamedFlaw) (old new : A) : Type 0 where
  pub flaws : List Flaw
  pub are : F.tells → AreFlaws (F.clouds old) name (F.held old) flaws
  pub is : told ≡ before ++ with_name name flaws
  pub clean : F.counts_exactly → (c : ℕ) → F.faults new c ≡ F.faults old c

-- it can't be told, for this cause
pub record NameUntold {A : Type 0} (F : FleetGhosts A) (name : List ℕ) (cause : Fault) (old new : A) : Type 0 where
  pub fault : SettleFault
  pub is : cause ≡ fault_of_settle fault
  pub refuses : F.tells → SettleRefuses (F.clouds old) name (F.held old) fault
  pub counts : HasSettleCause F.counts_exactly (F.faults old) (F.faults new) fault
