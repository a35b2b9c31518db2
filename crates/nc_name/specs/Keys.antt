-- The texts of keys.
use Rattle.std.specs.Prelude.{ℕ, ◌<◌, ◌+◌, List, [], ◌∷◌, ◌++◌}
use Rattle.hex.specs.Hex.{encode_lower}
use Rattle.nc_name.specs.declared.key.Key.{Key}
use Rattle.nc_name.specs.declared.key.Key.TheVariants.{Meta, Chunk}
use Rattle.nc_name.specs.Names.{IsName}

abbrev pub name_of : Key → List ℕ
name_of (Meta name slot) = name
name_of (Chunk name slot row) = name

-- slot and row are 0 or 1
abbrev pub Slots : Key → Type 0
Slots (Meta name slot) = slot < 2
Slots (Chunk name slot row) = (slot < 2) × (row < 2)

-- a key with a valid name
abbrev pub IsKey : Key → Type 0
IsKey key = IsName (name_of key) × Slots key

-- `m-HEX-s` and `c-HEX-s-r`: HEX is the name in lower-case hexadecimal digits, s the slot, r the row
unfoldable pub key_text : Key → List ℕ
key_text (Meta name slot) = (109 ∷ 45 ∷ []) ++ (encode_lower name ++ (45 ∷ (48 + slot) ∷ []))
key_text (Chunk name slot row) = (99 ∷ 45 ∷ []) ++ (encode_lower name ++ (45 ∷ (48 + slot) ∷ 45 ∷ (48 + row) ∷ []))
