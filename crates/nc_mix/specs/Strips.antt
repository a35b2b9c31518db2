-- Parts of all mixes, made at the same time.
use Rattle.std.specs.Prelude.{ℕ, ◌≡◌, ◌+◌, ◌*◌, ◌<◌, ◌≤◌, true, List, [], ◌∷◌, length, slice_index_or}
use Rattle.std.specs.List.{All, concat, flat_map}
use Rattle.nc_bytes.specs.Bytes.{part}
use Rattle.nc_mix.specs.declared.strips.Strip.{Strip}
use Rattle.nc_mix.specs.Mixing.{mixed_parts}

-- the strip's part lies within a mix of so many bytes
abbrev pub LiesWithin : ℕ → Strip → Type 0
LiesWithin size strip = strip.start + strip.count ≤ size

-- and there is room for one of each row
pub record HasRoom (rows size : ℕ) (strip : Strip) : Type 0 where
  pub fits : LiesWithin size strip
  pub room : length strip.bytes.items ≡ rows * strip.count

-- the strips' parts lie one after another, from the first place to the last
abbrev pub Follow : ℕ → List Strip → ℕ → Type 0
Follow at [] end = at ≡ end
Follow at (strip ∷ strips) end = (strip.start ≡ at) × Follow (at + strip.count) strips end

-- the strip holds the parts of all mixes
abbrev pub IsMixed : List (List ℕ) → List (List ℕ) → Strip → Type 0
IsMixed rows sources strip =
    strip.bytes.items ≡ concat (mixed_parts strip.start strip.count rows sources)

-- memory was found for the strip's parts, and they are made
abbrev pub IsMade : Strip → Type 0
IsMade strip = strip.made ≡ true

-- a strip before and after its parts were made, where memory was found for them
pub record Mixes (rows sources : List (List ℕ)) (old new : Strip) : Type 0 where
  pub start : new.start ≡ old.start
  pub count : new.count ≡ old.count
  pub room : IsMade new → length new.bytes.items ≡ length rows * new.count
  pub mixed : IsMade new → IsMixed rows sources new

pub record AllMix (rows sources : List (List ℕ)) (old new : List Strip) : Type 0 where
  pub same_length : length new ≡ length old
  pub each : (k : ℕ) (d : Strip) → k < length old
      → Mixes rows sources (slice_index_or old k d) (slice_index_or new k d)

-- part k of those that the strip holds
abbrev pub part_in : ℕ → Strip → List ℕ
part_in k strip = part (k * strip.count) strip.count strip.bytes.items

-- part k of each strip in turn
abbrev pub parts_in : ℕ → List Strip → List ℕ
parts_in k strips = flat_map (part_in k) strips

-- the strip has a part k
abbrev pub HoldsPart : ℕ → Strip → Type 0
HoldsPart k strip = k * strip.count + strip.count ≤ length strip.bytes.items

-- each strip has so many parts
abbrev pub HoldParts : ℕ → List Strip → Type 0
HoldParts rows strips = (k : ℕ) → k < rows → All (HoldsPart k) strips
