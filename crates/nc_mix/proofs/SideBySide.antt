-- How sums that lie side by side are filled with the parts that strips hold.
use Rattle.std.proofs.Common.{◌≡◌, ℕ, suc, ◌+◌, ◌-◌, ◌*◌, ◌<◌, ◌≤◌, List, [], ◌∷◌, ◌++◌}
use Rattle.std.proofs.Common.{length, get_or, take, drop, All, refl, sym, ◌∙◌, ap, subst, arith}
use Rattle.std.proofs.lemmas.List.{append_assoc, length-drop, length-take-le, nil_from_length}
use Rattle.std.proofs.lemmas.List.{take-append-drop, take_at, take-take}
use Rattle.std.proofs.lemmas.Nat.{row_fits}
use Rattle.std.proofs.lemmas.Grind.{common_steps}
use Rattle.nc_bytes.specs.Bytes.{part}
use Rattle.nc_mix.specs.declared.strips.Strip.{Strip}
use Rattle.nc_mix.specs.Mixing.{mixed, mixed_part}
use Rattle.nc_mix.specs.Decoding.{solved}
use Rattle.nc_mix.specs.Strips.{Follow, HasRoom, IsMixed, part_in}
use Rattle.nc_mix.specs.Placing.{ArePlaced, AreBegun, placed, put_at}
use Rattle.nc_mix.proofs.Mixes.{length-part}
use Rattle.nc_mix.proofs.Parts.{whole_part, next_part, part_is}
use Rattle.nc_mix.proofs.Groups.{part_past}

length-put : (at : ℕ) (part sum : List ℕ) → at + length part ≤ length sum →
    length (put_at at part sum) ≡ length sum
length-put at part sum fits = grind (arith, common_steps)

module _ (size : ℕ) (sources : List (List ℕ)) where
  -- no byte is made of any mix
  pub none_begun : (rows : List (List ℕ)) (sums : List ℕ) → length sums ≡ length rows * size →
      AreBegun size 0 rows sources sums
  unfolding mixed_part
  none_begun rows sums long = record { long = long; each = λ k h. refl }

  -- all bytes of all mixes stand
  pub all_begun : (rows : List (List ℕ)) (sums : List ℕ) → AreBegun size size rows sources sums →
      sums ≡ solved size sources rows
  all_begun [] sums begun =
      let long : length sums ≡ 0 * size = begun.long in
      nil_from_length sums (omega arith)
  all_begun (row ∷ rows) sums begun =
      let none : 0 * size ≡ 0 = omega arith in
      let long : length sums ≡ suc (length rows) * size = begun.long in
      let left : length (drop size sums) ≡ length sums - size = length-drop size sums in
      let first : take size sums ≡ mixed size row sources =
      sym (take-take size size sums (omega arith))
      ∙ ap (λ p. take size (part p size sums)) (sym none)
      ∙ begun.each 0 (omega arith)
      ∙ whole_part size row sources in
      let others : AreBegun size size rows sources (drop size sums) = record {
        long = omega (arith, long, left);
        each = λ k h.
            let more : suc k * size ≡ size + k * size = omega arith in
            ap (take size)
            (sym (part_past size (k * size) size sums) ∙ ap (λ p. part p size sums) (sym more))
            ∙ begun.each (suc k) (omega arith);
      } in
      let rest : drop size sums ≡ solved size sources rows =
      all_begun rows (drop size sums) others in
      sym (take-append-drop size sums) ∙ (λ i. first i ++ rest i)

  -- one part more stands in a sum
  put_next : (at count : ℕ) (row sum part : List ℕ) → take at sum ≡ mixed_part 0 at row sources →
      part ≡ mixed_part at count row sources →
      take (at + count) (put_at at part sum) ≡ mixed_part 0 (at + count) row sources
  put_next at count row sum part before is =
      let front : List ℕ = mixed_part 0 at row sources in
      let next : List ℕ = mixed_part at count row sources in
      let rest : List ℕ = drop (at + length part) sum in
      let joined : front ++ next ≡ mixed_part 0 (at + count) row sources =
      next_part sources at count row in
      let long : length (front ++ next) ≡ at + count =
      ap length joined ∙ length-part 0 (at + count) row sources in
      ap (take (at + count))
      ((λ i. before i ++ (is i ++ rest)) ∙ sym (append_assoc front next rest))
      ∙ take_at (front ++ next) rest (at + count) long
      ∙ joined

  -- strips that follow one another carry a sum on
  sum_on : (rows : List (List ℕ)) (k at end : ℕ) (strips : List Strip) (sum : List ℕ) →
      k < length rows → length sum ≡ size → Follow at strips end →
      All (HasRoom (length rows) size) strips → All (IsMixed rows sources) strips →
      take at sum ≡ mixed_part 0 at (get_or rows k []) sources →
      take end (placed k strips sum) ≡ mixed_part 0 end (get_or rows k []) sources
  sum_on rows k at end [] sum h long follow room each begun =
      subst (λ n. take n sum ≡ mixed_part 0 n (get_or rows k []) sources) follow begun
  sum_on rows k at end (strip ∷ strips) sum h long follow room each begun =
      let row : List ℕ = get_or rows k [] in
      let own : List ℕ = part_in k strip in
      let next : List ℕ = put_at strip.start own sum in
      let starts : strip.start ≡ at = follow.0 in
      let lies : HasRoom (length rows) size strip = room 0 strip (omega arith) in
      let is : own ≡ mixed_part at strip.count row sources =
      part_is rows sources k strip h (each 0 strip (omega arith))
      ∙ ap (λ n. mixed_part n strip.count row sources) starts in
      let long_own : length own ≡ strip.count =
      ap length is ∙ length-part at strip.count row sources in
      let fits : strip.start + length own ≤ length sum =
      let within = lies.fits in omega (arith, within, long_own, long) in
      let on : take (at + strip.count) next ≡ mixed_part 0 (at + strip.count) row sources =
      ap (λ n. take (at + strip.count) (put_at n own sum)) starts
      ∙ put_next at strip.count row sum own begun is in
      sum_on rows k (at + strip.count) end strips next h
      (length-put strip.start own sum fits ∙ long) follow.1 (λ i d w. room (suc i) d (omega arith)) (λ i d w. each (suc i) d (omega arith)) on

  -- strips that follow one another carry the sums on
  pub carried_over : (rows : List (List ℕ)) (at end : ℕ) (strips : List Strip)
      (old new : List ℕ) → Follow at strips end → All (HasRoom (length rows) size) strips →
      All (IsMixed rows sources) strips → ArePlaced 0 size strips old new →
      AreBegun size at rows sources old → AreBegun size end rows sources new
  carried_over rows at end strips old new follow room each put begun = record {
    long = put.same_length ∙ begun.long;
    each = λ k h.
        let row_end : k * size + size ≤ length rows * size =
        row_fits k size (length rows) size h (omega arith) in
        let fits : k * size + size ≤ length old =
        let long = begun.long in omega (arith, long, row_end) in
        let sum : List ℕ = part (k * size) size old in
        let left : length (drop (k * size) old) ≡ length old - k * size =
        length-drop (k * size) old in
        let long : length sum ≡ size =
        length-take-le size (drop (k * size) old) (omega (arith, fits, left)) in
        let number : 0 + k ≡ k = omega arith in
        ap (take end) (put.each k fits ∙ ap (λ j. placed j strips sum) number)
        ∙ sum_on rows k at end strips sum h long follow room each (begun.each k h);
  }
