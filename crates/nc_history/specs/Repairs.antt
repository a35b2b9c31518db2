-- What a repair leaves of a vault.
use Rattle.std.specs.Prelude.{ℕ, ◌≡◌, false, Some, List}
use Rattle.nc_name.specs.Names.{IsName}
use Rattle.nc_code.specs.Good.{IsGood}
use Rattle.nc_code.specs.declared.plan.Witnesses.{Witnesses}
use Rattle.nc_meta.specs.declared.meta.Live.{Live}
use Rattle.nc_state.specs.Clouds.{without_cloud}
use Rattle.nc_state.specs.Entries.Entry.{Rest}
use Rattle.nc_state.specs.Vaults.{IsVault, Vault}
use Rattle.nc_state.specs.Versions.{Version}
use Rattle.nc_state.specs.Versions.Version.{Stored}
use Rattle.nc_words.specs.declared.act.Act.TheVariants as act
use Rattle.nc_words.specs.Acts.{Task}
use Rattle.nc_vault.specs.Vaults.{Does}

-- the task is a repair of cloud i that was done on V and left W
pub record DoesRepair (n i : ℕ) (task : Task) (V W : Vault) : Type 0 where
  pub is_repair : task.act ≡ act.Repair i
  pub stood : IsVault n V
  pub done : Does n task V W

-- the metadata stores a witness for each next loss of its code
pub record StoresWitnesses (m : Live) : Type 0 where
  pub witnesses : Witnesses
  pub stored : m.witnesses ≡ Some witnesses
  pub good : IsGood m.code witnesses

-- each name is at rest, and each file's code has a witness for each next loss
pub record FilesAreGood (W : Vault) : Type 0 where
  pub rests : (name : List ℕ) → IsName name → (x : Version) × (W.entries name ≡ Rest x)
  pub each : (name v : List ℕ) (m : Live) → IsName name → W.entries name ≡ Rest (Stored m v) → StoresWitnesses m

-- cloud i isn't damaged, and each other cloud is damaged where it was
pub record IsMadeWhole (i : ℕ) (V W : Vault) : Type 0 where
  pub here : W.damaged i ≡ false
  pub others : W.damaged ≡ without_cloud V.damaged i
