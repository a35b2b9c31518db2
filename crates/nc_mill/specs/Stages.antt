-- What the clouds of a mill hold between its acts.
use Rattle.std.specs.Prelude.{ℕ, ◌≡◌, ◌≢◌, ◌<◌, ◌≤◌, ◌^◌, None, List, length}
use Rattle.nc_cloud.specs.Contents.{Contents}
use Rattle.nc_meta.specs.declared.meta.Live.{Live}
use Rattle.nc_name.specs.Names.{IsName}
use Rattle.nc_nextloss.specs.GoodCodes.{GoodParts}
use Rattle.nc_search.specs.Searches.{IsStart}
use Rattle.nc_state.specs.Clouds.{Clouds}
use Rattle.nc_state.specs.Entries.Entry.{Rest}
use Rattle.nc_state.specs.Vaults.{IsVault, Vault}
use Rattle.nc_state.specs.Versions.Version.{Never, Stored}
use Rattle.nc_words.specs.Settings.{IsSetting}
use Rattle.nc_write.specs.Putting.{put_meta}
use Rattle.nc_mill.specs.Mills.{mill_draw, mill_name}
use Rattle.nc_mill.specs.declared.job.Job.{Job}

-- the job is in its ranges, and its file has the mill's name
pub record FitsMill (job : Job) : Type 0 where
  pub wide : 4 ≤ job.width
  pub narrow : job.width ≤ 10
  pub setting : IsSetting job.setting
  pub lost : job.lost < job.width
  pub name : job.name ≡ mill_name
  pub is_name : IsName mill_name
  pub short : length job.file ≤ 2 ^ 26

-- G stands for the job's file alone, stored by the first good code that is drawn for it, while the clouds of D are damaged
pub record StoresFile (job : Job) (D : Clouds) (G : Contents) : Type 0 where
  pub index : ℕ
  pub good : GoodParts
  pub drawn : IsStart job.width (mill_draw job.setting 1) job.setting.budget index good
  pub vault : Vault
  pub contents : vault.contents ≡ G
  pub stands : IsVault job.width vault
  pub damaged : vault.damaged ≡ D
  pub file : vault.entries mill_name ≡ Rest (Stored (put_meta job.width None good job.file) job.file)
  pub others : (name : List ℕ) → name ≢ mill_name → vault.entries name ≡ Rest Never

-- G stands for clouds that keep the job's file
pub record KeepsFile (job : Job) (G : Contents) : Type 0 where
  pub vault : Vault
  pub contents : vault.contents ≡ G
  pub stands : IsVault job.width vault
  pub meta : Live
  pub file : vault.entries mill_name ≡ Rest (Stored meta job.file)
