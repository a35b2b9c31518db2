-- Sums that grow by the parts that strips hold.
use Rattle.std.specs.Prelude.{ℕ, ◌≡◌, ◌<◌, false, List, [], ◌++◌, length, slice_index_or}
use Rattle.nc_mix.specs.declared.strips.Strip.{Strip}
use Rattle.nc_mix.specs.declared.sum.Sum.{Sum}
use Rattle.nc_mix.specs.Mixing.{mixed_part}
use Rattle.nc_mix.specs.Strips.{parts_in}

-- a sum of these bytes, of which no part was refused
abbrev pub kept : List ℕ → Sum
kept bytes = record { bytes = bytes; refused = false }

-- a sum before and after these bytes were put behind it; they are there where none was refused
pub record Extends (more : List ℕ) (old new : Sum) : Type 0 where
  pub before : new.refused ≡ false → old.refused ≡ false
  pub bytes : new.refused ≡ false → new.bytes ≡ old.bytes ++ more

-- part k of each strip in turn was put behind sum k
pub record AllExtend (strips : List Strip) (old new : List Sum) : Type 0 where
  pub same_length : length new ≡ length old
  pub each : (k : ℕ) (d : Sum) → k < length old
      → Extends (parts_in k strips) (slice_index_or old k d) (slice_index_or new k d)

-- sum k holds the first so many bytes of the mix by row k, where no part of it was refused
pub record AreSums (at : ℕ) (rows sources : List (List ℕ)) (sums : List Sum) : Type 0 where
  pub count : length sums ≡ length rows
  pub each : (k : ℕ) (d : Sum) → k < length rows → (slice_index_or sums k d).refused ≡ false
      → (slice_index_or sums k d).bytes ≡ mixed_part 0 at (slice_index_or rows k []) sources
