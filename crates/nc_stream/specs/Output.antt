-- What was written.
use Rattle.std.specs.Prelude.{ℕ, ◌≡◌, ◌≤◌, Option, List, ◌++◌}
use Rattle.std.specs.Io.KnownBytes.{Appends}

-- a beginning of these bytes was written, and nothing else
pub record AppendsSome (before now : Option (List ℕ)) (bytes : List ℕ) : Type 0 where
  pub front : List ℕ
  pub rest : List ℕ
  pub parts : front ++ rest ≡ bytes
  pub appends : Appends before now front

-- the bytes so far were written, these are left, and no write has failed
pub record IsSending (exact : Type 0) (before now : Option (List ℕ)) (old new : ℕ) (bytes rest : List ℕ) : Type 0 where
  pub front : List ℕ
  pub parts : front ++ rest ≡ bytes
  pub appends : Appends before now front
  pub later : old ≤ new
  pub same : exact → new ≡ old
