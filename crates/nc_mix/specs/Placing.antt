-- Sums of one size that lie side by side, and are filled with the parts that strips hold.
use Rattle.std.specs.Prelude.{ℕ, ◌≡◌, ◌+◌, ◌*◌, ◌<◌, ◌≤◌, List, [], ◌∷◌, ◌++◌}
use Rattle.std.specs.Prelude.{drop, length, slice_index_or, take}
use Rattle.nc_bytes.specs.Bytes.{part}
use Rattle.nc_mix.specs.declared.strips.Strip.{Strip}
use Rattle.nc_mix.specs.Mixing.{mixed_part}
use Rattle.nc_mix.specs.Strips.{part_in}

-- the part is written over what a sum holds from start on
abbrev pub put_at : ℕ → List ℕ → List ℕ → List ℕ
put_at start part sum = take start sum ++ (part ++ drop (start + length part) sum)

-- part k of each strip in turn is written over what a sum holds
abbrev pub placed : ℕ → List Strip → List ℕ → List ℕ
placed k [] sum = sum
placed k (strip ∷ strips) sum = placed k strips (put_at strip.start (part_in k strip) sum)

-- sums before and after each got its parts; the first of them is sum `first`
pub record ArePlaced (first size : ℕ) (strips : List Strip) (old new : List ℕ) : Type 0 where
  pub same_length : length new ≡ length old
  pub each : (j : ℕ) → j * size + size ≤ length old
      → part (j * size) size new ≡ placed (first + j) strips (part (j * size) size old)

-- the first so many bytes of each mix stand
pub record AreBegun (size at : ℕ) (rows sources : List (List ℕ)) (sums : List ℕ) : Type 0 where
  pub long : length sums ≡ length rows * size
  pub each : (k : ℕ) → k < length rows
      → take at (part (k * size) size sums) ≡ mixed_part 0 at (slice_index_or rows k []) sources
