-- How the natives are solved for, part by part.
use Rattle.std.proofs.Common.{◌≡◌, ℕ, ◌+◌, ◌*◌, ◌<◌, List, [], ◌∷◌, ◌++◌, length, get_or, take, refl, sym, ◌∙◌, ap, arith}
use Rattle.std.proofs.lemmas.List.{map-append, append_assoc, take_more, length-append}
use Rattle.std.specs.Borrow.{Bor}
use Rattle.nc_mix.specs.declared.pieces.Piece.{Piece}
use Rattle.nc_mix.specs.Mixing.{mixed, lent}
use Rattle.nc_mix.specs.Decoding.{chunks_in, solved}
use Rattle.nc_mix.proofs.Mixes.{length-mixed}

chunks_in-append : (xs ys : List Piece) → chunks_in (xs ++ ys) ≡ chunks_in xs ++ chunks_in ys
chunks_in-append [] ys = refl
chunks_in-append (x ∷ xs) ys = ap (λ l. x.zero ∷ x.one ∷ l) (chunks_in-append xs ys)

-- the chunks of one piece more are lent
pub pieces_more : (pieces : List Piece) (i : ℕ) (piece : Piece) (list first second : List (Bor (List ℕ))) (zero one : Bor (List ℕ)) → i < length pieces → piece ≡ get_or pieces i piece →
    first ≡ list ++ (zero ∷ []) → second ≡ first ++ (one ∷ []) → zero.now ≡ piece.zero → one.now ≡ piece.one → lent list ≡ chunks_in (take i pieces) → lent second ≡ chunks_in (take (i + 1) pieces)
pieces_more pieces i piece list first second zero one h is with_zero with_one is_zero is_one before =
    let joined : second ≡ list ++ (zero ∷ one ∷ []) = with_one ∙ ap (λ xs. xs ++ (one ∷ [])) with_zero ∙ append_assoc list (zero ∷ []) (one ∷ []) in
    ap lent joined
    ∙ map-append (λ s. s.now) list (zero ∷ one ∷ [])
    ∙ ap (λ xs. xs ++ (zero.now ∷ one.now ∷ [])) before
    ∙ ap (λ x. chunks_in (take i pieces) ++ (x ∷ one.now ∷ [])) is_zero
    ∙ ap (λ x. chunks_in (take i pieces) ++ (piece.zero ∷ x ∷ [])) is_one
    ∙ sym (chunks_in-append (take i pieces) (piece ∷ []))
    ∙ ap (λ x. chunks_in (take i pieces ++ (x ∷ []))) is
    ∙ ap chunks_in (sym (take_more pieces i piece h))

pub length-solved : (size : ℕ) (sources rows : List (List ℕ)) → length (solved size sources rows) ≡ length rows * size
length-solved size sources [] = let e : 0 ≡ 0 * size = omega arith in e
length-solved size sources (row ∷ rest) =
    let more : size + length rest * size ≡ length (row ∷ rest) * size = omega arith in
    length-append (mixed size row sources) (solved size sources rest)
    ∙ ap (λ k. k + length (solved size sources rest)) (length-mixed size row sources)
    ∙ ap (λ k. size + k) (length-solved size sources rest)
    ∙ more
