-- How many chunks a fetch reads.
use Rattle.std.specs.Prelude.{ℕ, ◌≡◌, ◌<◌, ◌≤◌, ◌+◌}
use Rattle.nc_cloud.specs.Fleet.{got_count}
use Rattle.nc_cloud.specs.declared.fleet.Fleet.{Ghosts as FleetGhosts}
use Rattle.nc_state.specs.Clouds.{Clouds}
use Rattle.nc_state.specs.Showing.{NoneOf, together}
use Rattle.nc_state.specs.Vaults.{ForEachVault, Vault}
use Rattle.nc_download.specs.declared.fault.FetchFault.{FetchFault}
use Rattle.nc_download.specs.declared.fault.FetchFault.TheVariants as fault
use Rattle.nc_download.specs.Finding.{HasRisen}

-- none, where the metadata alone shows why no file is given
abbrev pub ReadsNone : (ℕ → ℕ) → (ℕ → ℕ) → FetchFault → Type 0
ReadsNone before now (fault.Short list) = Unit {0}
ReadsNone before now fault.Memory = Unit {0}
ReadsNone before now other = (c : ℕ) → now c ≡ before c

-- both chunks of each of the first n - 2 clouds, and none of the others
pub record ReadsFirst (n : ℕ) (before now : ℕ → ℕ) : Type 0 where
  pub first : (c : ℕ) → c + 2 < n → now c ≡ got_count (before c) 2
  pub others : (c : ℕ) → c < n → n ≤ c + 2 → now c ≡ before c

-- it does, where no cloud is damaged and none is of X
abbrev pub ReadsWhole : ℕ → Clouds → (ℕ → ℕ) → (ℕ → ℕ) → Vault → Type 0
ReadsWhole n X before now V = NoneOf n (together V.damaged X) → ReadsFirst n before now

-- for any set of clouds that has those of which a count rose
pub record EachReadsWhole {A : Type 0} (F : FleetGhosts A) (old new : A) : Type 0 where
  pub each : (X : Clouds) → HasRisen F old new X
      → ForEachVault (F.clouds old) (F.held old) (ReadsWhole (F.clouds old) X (F.chunk_gets old) (F.chunk_gets new))
