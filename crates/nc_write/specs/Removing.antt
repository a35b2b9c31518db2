-- What a removal makes of the version before.
use Rattle.std.specs.Prelude.{ℕ, ◌≡◌, ◌+◌, true, Option, Some, List, [], ◌∷◌}
use Rattle.nc_meta.specs.declared.meta.Meta.{Meta}
use Rattle.nc_meta.specs.declared.meta.Meta.TheVariants as meta
use Rattle.nc_meta.specs.Parts.{IsGeneration}
use Rattle.nc_cloud.specs.declared.fleet.Job.{Job}
use Rattle.nc_cloud.specs.Contents.{Write}
use Rattle.nc_cloud.specs.Fleet.{writes}
use Rattle.nc_state.specs.Commands.{IsNext}
use Rattle.nc_state.specs.Holding.{top_generation}
use Rattle.nc_state.specs.Versions.{Version, is_stored, version_generation}
use Rattle.nc_state.specs.Versions.Version.{Removed}
use Rattle.nc_write.specs.Writes.{AreMetaWrites}

-- the metadata of a removal after this metadata
abbrev pub gone_after : Option Meta → Meta
gone_after top = meta.Gone (top_generation top + 1)

-- y says that the file x was removed
pub record IsRemoval (n : ℕ) (x y : Version) : Type 0 where
  pub stored : is_stored x ≡ true
  pub is : y ≡ Removed (version_generation x + 1)
  pub next : IsNext n x (Some y)

-- the one round of a removal after this metadata
pub record PreparesRemoval (n : ℕ) (name : List ℕ) (top : Option Meta) (m : Meta) (rounds : List (List Write)) : Type 0 where
  pub jobs : List Job
  pub is_meta : m ≡ gone_after top
  pub last : IsGeneration (top_generation top + 1)
  pub made : AreMetaWrites n name (gone_after top) jobs
  pub are_rounds : rounds ≡ writes jobs ∷ []
