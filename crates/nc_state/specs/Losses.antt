-- The loss of a cloud's objects.
use Rattle.std.specs.Prelude.{ℕ, ◌≡◌, ◌≢◌, None}
use Rattle.nc_name.specs.declared.key.Key.{Key}
use Rattle.nc_cloud.specs.Contents.{Contents, Fate}
use Rattle.nc_state.specs.Clouds.{Clouds}
use Rattle.nc_state.specs.Weighing.{weigh}
use Rattle.nc_state.specs.Standing.{Entries}

-- each object of the lost cloud is left unchanged, gone or torn, and none is made; no other cloud changes
pub record Loses (lost : ℕ) (F G : Contents) : Type 0 where
  pub objects : (place : Key) → Fate (F lost place) (F lost place) (G lost place)
  pub none : (place : Key) → F lost place ≡ None → G lost place ≡ None
  pub others : (c : ℕ) (place : Key) → c ≢ lost → G c place ≡ F c place

-- each entry is weighed anew
abbrev pub weighed : ℕ → Contents → Clouds → Entries → Entries
weighed n G D S name = weigh n G D name (S name)
