-- How the parts of mixes add up.
use Rattle.std.proofs.Common.{◌≡◌, ℕ, zero, suc, ◌+◌, ◌*◌, ◌<◌, ◌≤◌, List, [], ◌∷◌, ◌++◌}
use Rattle.std.proofs.Common.{All, length, get_or, take, drop, map, refl, sym, ◌∙◌, ap, subst, arith}
use Rattle.std.proofs.lemmas.List.{take_at, drop_at, drop-drop}
use Rattle.std.proofs.lemmas.Nat.{mul-le}
use Rattle.std.specs.List.{concat, range_with_len}
use Rattle.nc_mix.specs.declared.strips.Strip.{Strip}
use Rattle.nc_mix.specs.Mixing.{mixed_byte, mixed, mixed_part, mixed_parts}
use Rattle.nc_bytes.specs.Bytes.{part}
use Rattle.nc_mix.specs.Strips.{AllMix, Follow, HasRoom, HoldParts, IsMade, IsMixed, LiesWithin, Mixes, part_in}
use Rattle.nc_mix.proofs.Mixes.{length-part}

-- the part of all bytes is the mix
pub whole_part : (size : ℕ) (row : List ℕ) (sources : List (List ℕ)) →
    mixed_part 0 size row sources ≡ mixed size row sources
unfolding mixed mixed_part
whole_part size row sources = refl

-- the list of f over so many numbers, and over those after them
ranges : (f : ℕ → ℕ) (start a n mid all : ℕ) → start + a ≡ mid → a + n ≡ all →
    map f (range_with_len start a) ++ map f (range_with_len mid n)
    ≡ map f (range_with_len start all)
ranges f start zero n mid all at whole =
    let e : mid ≡ start = omega arith in
    let same : n ≡ all = omega arith in
    λ i. map f (range_with_len (e i) (same i))
ranges f start (suc a) n mid zero at whole = absurd (omega arith)
ranges f start (suc a) n mid (suc all) at whole =
    ap (λ xs. f start ∷ xs) (ranges f (start + 1) a n mid all (omega arith) (omega arith))

module _ (sources : List (List ℕ)) where
  -- the next part of a mix
  pub next_part : (at count : ℕ) (row : List ℕ) →
      mixed_part 0 at row sources ++ mixed_part at count row sources
      ≡ mixed_part 0 (at + count) row sources
  unfolding mixed_part
  next_part at count row =
      ranges (mixed_byte (length sources) row sources) 0 at count at (at + count) (omega arith) refl

  -- the first row's part, and the parts after it
  pub first_part : (start count : ℕ) (row : List ℕ) (rows : List (List ℕ)) →
      take count (concat (mixed_parts start count (row ∷ rows) sources))
      ≡ mixed_part start count row sources
  first_part start count row rows =
      take_at (mixed_part start count row sources) _ count (length-part start count row sources)

  pub later_parts : (start count : ℕ) (row : List ℕ) (rows : List (List ℕ)) →
      drop count (concat (mixed_parts start count (row ∷ rows) sources))
      ≡ concat (mixed_parts start count rows sources)
  later_parts start count row rows =
      drop_at (mixed_part start count row sources) _ count (length-part start count row sources)

  -- part k is that of row k
  pub part_at : (start count k : ℕ) (rows : List (List ℕ)) → k < length rows →
      part (k * count) count (concat (mixed_parts start count rows sources))
      ≡ mixed_part start count (get_or rows k []) sources
  part_at start count k [] h = absurd (omega arith)
  part_at start count zero (row ∷ rows) h =
      let none : 0 * count ≡ 0 = omega arith in
      ap (λ j. part j count (concat (mixed_parts start count (row ∷ rows) sources))) none
      ∙ first_part start count row rows
  part_at start count (suc k) (row ∷ rows) h =
      let parts : List ℕ = concat (mixed_parts start count (row ∷ rows) sources) in
      let more : suc k * count ≡ count + k * count = omega arith in
      ap (λ j. part j count parts) more
      ∙ ap (take count) (sym (drop-drop (k * count) count parts))
      ∙ ap (part (k * count) count) (later_parts start count row rows)
      ∙ part_at start count k rows (omega arith)

-- the strips lie where they lay
pub follow_on : (rows sources : List (List ℕ)) (at end : ℕ) (old new : List Strip) →
    AllMix rows sources old new → Follow at old end → Follow at new end
follow_on rows sources at end [] [] mix follow = follow
follow_on rows sources at end [] (strip ∷ strips) mix follow =
    let none = mix.same_length in absurd (omega (arith, none))
follow_on rows sources at end (strip ∷ strips) [] mix follow =
    let none = mix.same_length in absurd (omega (arith, none))
follow_on rows sources at end (before ∷ old) (strip ∷ new) mix follow =
    let first : Mixes rows sources before strip = mix.each 0 before (omega arith) in
    let same : length (strip ∷ new) ≡ length (before ∷ old) = mix.same_length in
    let others : AllMix rows sources old new =
    record { same_length = omega arith; each = λ k d h. mix.each (suc k) d (omega arith) } in
    let rest : Follow (at + before.count) new end =
    follow_on rows sources (at + before.count) end old new others follow.1 in
    (first.start ∙ follow.0, subst (λ n. Follow (at + n) new end) (sym first.count) rest)

-- strips that are made have room for a part of each row
pub made_room : (rows sources : List (List ℕ)) (size : ℕ) (old new : List Strip) →
    All (LiesWithin size) old → AllMix rows sources old new → All IsMade new →
    All (HasRoom (length rows) size) new
made_room rows sources size old new fits mix made i d h =
    let within : i < length old = let same = mix.same_length in omega (arith, same, h) in
    let mixes : Mixes rows sources (get_or old i d) (get_or new i d) = mix.each i d within in
    let lies : LiesWithin size (get_or old i d) = fits i d within in
    let start = mixes.start in
    let count = mixes.count in
    record { fits = omega (arith, lies, start, count); room = mixes.room (made i d h) }

-- and hold the parts of all mixes
pub made_mixed : (rows sources : List (List ℕ)) (old new : List Strip) →
    AllMix rows sources old new → All IsMade new → All (IsMixed rows sources) new
made_mixed rows sources old new mix made i d h =
    (mix.each i d (let same = mix.same_length in omega (arith, same, h))).mixed (made i d h)

-- where there is room for a part of each row, there are as many parts
pub hold_parts : (rows size : ℕ) (strips : List Strip) → All (HasRoom rows size) strips →
    HoldParts rows strips
hold_parts rows size strips each k h i d within =
    let strip : Strip = get_or strips i d in
    let room : length strip.bytes.items ≡ rows * strip.count = (each i d within).room in
    let up : (k + 1) * strip.count ≤ rows * strip.count =
    mul-le (k + 1) strip.count rows strip.count (omega arith) (omega arith) in
    omega (arith, room, up)

-- part k of a strip is that of row k
pub part_is : (rows sources : List (List ℕ)) (k : ℕ) (strip : Strip) → k < length rows →
    IsMixed rows sources strip →
    part_in k strip ≡ mixed_part strip.start strip.count (get_or rows k []) sources
part_is rows sources k strip h mixed =
    ap (part (k * strip.count) strip.count) mixed
    ∙ part_at sources strip.start strip.count k rows h
