-- Rounds with an entry for each cloud, or for some.
use Rattle.std.specs.Prelude.{ℕ, zero, suc, Option, List, [], ◌∷◌, ◌++◌, option_to_list}

-- f a, f (a + 1), .., k of them: one for each cloud from a on
abbrev pub row : {X : Type 0} → (ℕ → X) → ℕ → ℕ → List X
row f a zero = []
row f a (suc k) = f a ∷ row f (suc a) k

-- those of f a, f (a + 1), .., k of them, that are there: the entries of the clouds that have one
abbrev pub some_row : {X : Type 0} → (ℕ → Option X) → ℕ → ℕ → List X
some_row f a zero = []
some_row f a (suc k) = option_to_list (f a) ++ some_row f (suc a) k
