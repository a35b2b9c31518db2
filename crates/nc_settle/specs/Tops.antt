-- How the top of a view is found.
use Rattle.std.specs.Prelude.{ℕ, ◌≤◌, Option, None, Some, IfSome, IfNone, nat_lt, if◌then◌else◌}
use Rattle.std.specs.Borrow.{Bor}
use Rattle.nc_meta.specs.declared.meta.Meta.{Meta}
use Rattle.nc_meta.specs.Metas.{generation_of}
use Rattle.nc_settle.specs.declared.deciding.Top.{Top}
use Rattle.nc_settle.specs.Views.{Places}
use Rattle.nc_settle.specs.Decisions.{HasSealed, IsTopOf, SeesNoneOf}

-- the top of the first n clouds
pub record IsTopSoFar (v : Places) (n : ℕ) (top : Option Top) : Type 0 where
  pub some : IfSome top (λ t. IsTopOf v n t.cloud t.meta.now)
  pub none : IfNone top (SeesNoneOf v n)

-- a sealed meta of the cloud, of the highest generation that it has
pub record IsBestOn (v : Places) (c : ℕ) (m : Meta) : Type 0 where
  pub has : HasSealed v c m
  pub highest : (o : Meta) → HasSealed v c o → generation_of o ≤ generation_of m

abbrev pub top_at : ℕ → Bor Meta → Top
top_at c m = record { cloud = c; meta = m }

-- the top, once cloud c is looked at too
abbrev pub top_after : Option Top → ℕ → Option (Bor Meta) → Option Top
top_after top c None = top
top_after None c (Some m) = Some (top_at c m)
top_after (Some t) c (Some m) = Some (if nat_lt (generation_of t.meta.now) (generation_of m.now) then top_at c m else t)
