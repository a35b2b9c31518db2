-- What the rounds of a version need of the command that writes it.
use Rattle.std.specs.Prelude.{ℕ, ◌<◌, Some, List, All}
use Rattle.nc_name.specs.Names.{IsName}
use Rattle.nc_meta.specs.declared.meta.Live.{Live}
use Rattle.nc_cloud.specs.Contents.{Contents}
use Rattle.nc_state.specs.Commands.{IsNext, RestsAt}
use Rattle.nc_state.specs.Right.{HasChunkAt, PlacesStand, RightOn}
use Rattle.nc_state.specs.Vaults.{IsVault, Vault, version_in}
use Rattle.nc_state.specs.Versions.Version.{Stored}
use Rattle.nc_write.specs.Writes.{chunk_key}

-- A command came to the name at V; at H it is at rest at what was settled, and the file v with this metadata can follow: its chunks
-- on these clouds overwrite none of what was settled, and once they are right, all its chunks stand.
pub record Replaces (n : ℕ) (name : List ℕ) (clouds : List ℕ) (V : Vault) (H : Contents) (m : Live) (v : List ℕ) : Type 0 where
  pub is_name : IsName name
  pub stands : IsVault n V
  pub rests : RestsAt n H V.entries V.damaged name (version_in n V name)
  pub next : IsNext n (version_in n V name) (Some (Stored m v))
  pub free : (r : ℕ) → r < 2 → All (λ c. HasChunkAt name (version_in n V name) c (chunk_key name m r c) → ⊥) clouds
  pub others : (G : Contents) → PlacesStand n G V.damaged name (version_in n V name) → All (RightOn n G name (Stored m v)) clouds → PlacesStand n G V.damaged name (Stored m v)
