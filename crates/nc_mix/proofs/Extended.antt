-- How sums grow by the parts that strips hold.
use Rattle.std.proofs.Common.{◌≡◌, ℕ, suc, ◌+◌, ◌<◌, List, [], ◌∷◌, ◌++◌, length, get_or}
use Rattle.std.proofs.Common.{map, replicate, All, append-nil, append_assoc, sym, ◌∙◌, ap, subst, arith}
use Rattle.std.proofs.lemmas.List.{length-map, length-replicate, get_or-map, get_or-replicate}
use Rattle.std.proofs.lemmas.List.{same_lists}
use Rattle.nc_mix.specs.declared.strips.Strip.{Strip}
use Rattle.nc_mix.specs.declared.sum.Sum.{Sum}
use Rattle.nc_mix.specs.Mixing.{mixed, mixed_part}
use Rattle.nc_mix.specs.Strips.{Follow, IsMixed, part_in, parts_in}
use Rattle.nc_mix.specs.Sums.{AllExtend, AreSums, Extends, kept}
use Rattle.nc_mix.proofs.Parts.{whole_part, next_part, part_is}

-- empty sums hold no byte of any mix
pub none_made : (rows sources : List (List ℕ)) (sums : List Sum) →
    sums ≡ replicate (length rows) (kept []) → AreSums 0 rows sources sums
unfolding mixed_part
none_made rows sources sums empty = record {
  count = ap length empty ∙ length-replicate (length rows) (kept []);
  each = λ k d h whole.
      ap (λ xs. (get_or xs k d).bytes) empty
      ∙ ap (λ s. s.bytes) (get_or-replicate (length rows) k (kept []) d h);
}

-- strips that follow one another carry a mix on
next_parts : (rows sources : List (List ℕ)) (k at end : ℕ) (strips : List Strip) →
    k < length rows → Follow at strips end → All (IsMixed rows sources) strips →
    mixed_part 0 at (get_or rows k []) sources ++ parts_in k strips
    ≡ mixed_part 0 end (get_or rows k []) sources
next_parts rows sources k at end [] h follow each =
    append-nil (mixed_part 0 at (get_or rows k []) sources)
    ∙ ap (λ n. mixed_part 0 n (get_or rows k []) sources) follow
next_parts rows sources k at end (strip ∷ strips) h follow each =
    let row : List ℕ = get_or rows k [] in
    let front : List ℕ = mixed_part 0 at row sources in
    let rest : List ℕ = parts_in k strips in
    let part : part_in k strip ≡ mixed_part at strip.count row sources =
    part_is rows sources k strip h (each 0 strip (omega arith))
    ∙ ap (λ n. mixed_part n strip.count row sources) follow.0 in
    sym (append_assoc front (part_in k strip) rest)
    ∙ ap (λ xs. xs ++ rest) (ap (λ xs. front ++ xs) part ∙ next_part sources at strip.count row)
    ∙ next_parts rows sources k (at + strip.count) end strips h follow.1
    (λ i d within. each (suc i) d (omega arith))

-- strips that follow one another carry the sums on
pub carried_on : (rows sources : List (List ℕ)) (at end : ℕ) (strips : List Strip)
    (old new : List Sum) → Follow at strips end → All (IsMixed rows sources) strips →
    AllExtend strips old new → AreSums at rows sources old → AreSums end rows sources new
carried_on rows sources at end strips old new follow mixed extend are = record {
  count = extend.same_length ∙ are.count;
  each = λ k d h whole.
      let e : Extends (parts_in k strips) (get_or old k d) (get_or new k d) =
      extend.each k d (subst (λ n. k < n) (sym are.count) h) in
      e.bytes whole
      ∙ ap (λ xs. xs ++ parts_in k strips) (are.each k d h (e.before whole))
      ∙ next_parts rows sources k at end strips h follow mixed;
}

-- sums of all bytes, of which no part was refused, are the mixes
pub all_made : (size : ℕ) (rows sources : List (List ℕ)) (sums : List Sum)
    (chunks : List (List ℕ)) → AreSums size rows sources sums → sums ≡ map kept chunks →
    chunks ≡ map (λ row. mixed size row sources) rows
all_made size rows sources sums chunks are whole =
    let mix : List ℕ → List ℕ = λ row. mixed size row sources in
    let count : length chunks ≡ length rows =
    sym (length-map chunks kept) ∙ ap length (sym whole) ∙ are.count in
    same_lists chunks (map mix rows) (count ∙ sym (length-map rows mix)) (λ k d h.
    let within : k < length rows = subst (λ n. k < n) count h in
    let sum : get_or sums k (kept d) ≡ kept (get_or chunks k d) =
    ap (λ xs. get_or xs k (kept d)) whole ∙ get_or-map kept chunks k d (kept d) h in
    sym (ap (λ s. s.bytes) sum)
    ∙ are.each k (kept d) within (ap (λ s. s.refused) sum)
    ∙ whole_part size (get_or rows k []) sources
    ∙ sym (get_or-map mix rows k [] d within))
