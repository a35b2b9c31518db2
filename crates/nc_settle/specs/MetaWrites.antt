-- Writes of metadata.
use Rattle.std.specs.Prelude.{ℕ, ◌≡◌, Bool, false, Option, None, Some, List, All, if◌then◌else◌, slice_index_or}
use Rattle.nc_frame.specs.Frames.{Whole}
use Rattle.nc_meta.specs.declared.meta.Meta.{Meta}
use Rattle.nc_cloud.specs.declared.fleet.Job.{Job}
use Rattle.nc_cloud.specs.Contents.{Write}
use Rattle.nc_cloud.specs.Fleet.{writes}
use Rattle.nc_cloud.specs.Rounds.{some_row}
use Rattle.nc_state.specs.Clouds.{Clouds}
use Rattle.nc_state.specs.Holding.{meta_key, meta_object}

-- the write of a meta on cloud c of n
abbrev pub meta_write : ℕ → List ℕ → Meta → ℕ → Write
meta_write n name m c = record { cloud = c; key = meta_key name m; new = Some (meta_object n name c m) }

-- the same, where the cloud is one of P
abbrev pub meta_write_on : ℕ → List ℕ → Meta → Clouds → ℕ → Option Write
meta_write_on n name m P c = if P c then Some (meta_write n name m c) else None

-- the clouds that a table names
abbrev pub named : List Bool → Clouds
named table c = slice_index_or table c false

-- the writes of a meta on those of the first k clouds that are of P
pub record AreMetaJobs (n : ℕ) (name : List ℕ) (m : Meta) (P : Clouds) (k : ℕ) (jobs : List Job) : Type 0 where
  pub writes_are : writes jobs ≡ some_row (meta_write_on n name m P) 0 k
  pub whole : All (λ j. Whole j.bytes) jobs
