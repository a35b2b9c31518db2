-- Moments, and what a stop at one of them may leave.
use Rattle.std.specs.Prelude.{ℕ, ◌≡◌, ◌≤◌, ◌⊎◌}
use Rattle.nc_cloud.specs.Contents.{Contents}

-- Time goes on: an image since an earlier moment was one before, or is one of what was done.
pub record Elapses (before now : ℕ) (past since : ℕ → Contents → Type 0) (one : Contents → Type 0) : Type 0 where
  pub later : before ≤ now
  pub nothing_else : (t : ℕ) (G : Contents) → t ≤ before → since t G → past t G ⊎ one G
  pub keeps : (t : ℕ) (G : Contents) → t ≤ before → past t G → since t G

-- what was held up to a moment stays
pub record Stays (moment : ℕ) (old new : ℕ → Contents) : Type 0 where
  pub each : (t : ℕ) → t ≤ moment → new t ≡ old t
