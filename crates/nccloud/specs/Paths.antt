-- Where the clouds' folders are.
use Rattle.std.specs.Prelude.{ℕ, ◌==◌, List, [], ◌∷◌}
use Rattle.std.specs.List.{slice_split}

-- the paths of the clouds' folders: the parts of the first word between its commas
abbrev pub folder_paths : List (List ℕ) → List (List ℕ)
folder_paths [] = []
folder_paths (list ∷ words) = slice_split (λ b. b == 44) list
