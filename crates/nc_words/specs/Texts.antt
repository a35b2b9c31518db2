-- What commands print, over numbers and names.
use Rattle.std.specs.Prelude.{ℕ, ◌++◌, Bool, true, false, Option, None, Some, List, [], ◌∷◌, codes, decimal}
use Rattle.std.specs.List.{concat}
use Rattle.hex.specs.Hex.{encode_lower}

-- a word and a number
abbrev pub number_text : List ℕ → ℕ → List ℕ
number_text word number = concat (word ∷ decimal number ∷ codes "\n" ∷ [])

-- a file, as a list of all tells it: how many bytes it has, and its name
abbrev pub row_text : ℕ → List ℕ → List ℕ
row_text len name = concat (decimal len ∷ codes " " ∷ name ∷ codes "\n" ∷ [])

abbrev pub yes_or_no : Bool → List ℕ
yes_or_no true = codes "yes"
yes_or_no false = codes "no"

-- what is known of a file
abbrev pub about_text : ℕ → ℕ → Bool → List ℕ
about_text generation len witnessed =
    concat (codes "generation " ∷ decimal generation ∷ codes " length " ∷ decimal len
    ∷ codes " witnesses " ∷ yes_or_no witnessed ∷ codes "\n" ∷ [])

-- a file's bytes, as a line of a batch prints them: two lower-case hexadecimal digits each
abbrev pub hex_text : List ℕ → List ℕ
hex_text bytes = encode_lower bytes ++ codes "\n"

-- ---- a part that isn't right

-- the part: metadata, or the chunk of a row
abbrev pub part_text : Option ℕ → List ℕ
part_text None = codes "meta"
part_text (Some row) = codes "chunk " ++ decimal row

-- its line: on which cloud, which part, why in a word, and of which name
abbrev pub flaw_text : ℕ → Option ℕ → List ℕ → List ℕ → List ℕ
flaw_text cloud row state name =
    concat (codes "cloud " ∷ decimal cloud ∷ codes " " ∷ part_text row ∷ codes " " ∷ state
    ∷ codes " " ∷ name ∷ codes "\n" ∷ [])

-- ---- a mill

-- its number, how many clouds there were, which was lost, how many chunks its repair took, and the SHA-256 of what it got last
abbrev pub mill_text : ℕ → ℕ → ℕ → ℕ → List ℕ → List ℕ
mill_text number width lost fetched digest =
    concat (codes "mill " ∷ decimal number ∷ codes " width " ∷ decimal width ∷ codes " lost " ∷ decimal lost
    ∷ codes " fetched " ∷ decimal fetched ∷ codes " sha256 " ∷ encode_lower digest ∷ codes "\n" ∷ [])
