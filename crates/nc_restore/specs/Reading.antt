-- Why the clouds were found bad that aren't to be restored.
use Rattle.std.specs.Prelude.{ℕ, ◌≡◌, ◌<◌, Option, List, length}
use Rattle.nc_state.specs.Clouds.{Clouds}
use Rattle.nc_download.specs.declared.short.Why.{Why}
use Rattle.nc_fetch.specs.Whys.{why_at}
use Rattle.nc_restore.specs.Restoring.{why_outside}

-- of the first k clouds the table says why they were found bad, but of none of P
pub record AreOutside (P : Clouds) (whys : List (Option Why)) (k : ℕ) (table : List (Option Why)) : Type 0 where
  pub long : length table ≡ 10
  pub each : (c : ℕ) → c < k → why_at table c ≡ why_outside P whys c
