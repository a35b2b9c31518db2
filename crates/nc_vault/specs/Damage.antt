-- What isn't right of all names, on n clouds that hold F.
use Rattle.std.specs.Prelude.{ℕ, ◌≡◌, ◌++◌, List, [], ◌∷◌, Contains}
use Rattle.nc_cloud.specs.Contents.{Contents}
use Rattle.nc_scrub.specs.declared.flaw.Flaw.{Flaw}
use Rattle.nc_scrub.specs.Flaws.{AreFlaws}
use Rattle.nc_state.specs.Standing.{AreNames}
use Rattle.nc_vault.specs.declared.reply.NamedFlaw.{NamedFlaw}

-- the flaws of a name, each with the name
abbrev pub with_name : List ℕ → List Flaw → List NamedFlaw
with_name name [] = []
with_name name (f ∷ flaws) = record { name = name; flaw = f } ∷ with_name name flaws

-- the flaws of each of these names, name by name in their order
abbrev pub named_flaws : (List ℕ → List Flaw) → List (List ℕ) → List NamedFlaw
named_flaws of [] = []
named_flaws of (name ∷ names) = with_name name (of name) ++ named_flaws of names

-- The list has exactly what isn't right of each name of which some cloud holds a key, name by name in their order.
pub record AreAllFlaws (n : ℕ) (F : Contents) (flaws : List NamedFlaw) : Type 0 where
  pub names : List (List ℕ)
  pub are_names : AreNames n F names
  pub of : (name : List ℕ) → List Flaw
  pub each : (name : List ℕ) → Contains names name → AreFlaws n name F (of name)
  pub is : flaws ≡ named_flaws of names
