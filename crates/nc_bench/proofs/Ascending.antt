-- Pieces of clouds in ascending order, to which one of a later cloud is added.
use Rattle.std.proofs.Common.{◌≡◌, ◌+◌, ◌<◌, ◌++◌, ◌∷◌, [], ℕ, List, length, get_or, length-append, inl, inr, sym, subst, arith}
use Rattle.std.specs.List.{All, AllPairs}
use Rattle.std.proofs.lemmas.Bool.{cases_lt}
use Rattle.std.proofs.lemmas.List.{get_or_append_left, get_or_at}
use Rattle.std.proofs.lemmas.List.Elements.{All-push, All-weaker}
use Rattle.nc_mix.specs.declared.pieces.Piece.{Piece}
use Rattle.nc_mix.specs.Decoding.{IsBefore}

pub all_below : (pieces : List Piece) (x : Piece) (cloud : ℕ) → x.cloud ≡ cloud →
    All (λ (p : Piece). p.cloud < cloud) pieces → All (λ (p : Piece). p.cloud < cloud + 1) (pieces ++ x ∷ [])
all_below pieces x cloud is below =
    All-push (λ (p : Piece). p.cloud < cloud + 1) pieces x
    (All-weaker (λ (p : Piece). p.cloud < cloud) (λ (p : Piece). p.cloud < cloud + 1) (λ p less. omega arith) pieces below)
    (omega arith)

pub still_ascending : (pieces : List Piece) (x : Piece) (cloud : ℕ) → x.cloud ≡ cloud →
    All (λ (p : Piece). p.cloud < cloud) pieces → AllPairs IsBefore pieces → AllPairs IsBefore (pieces ++ x ∷ [])
still_ascending pieces x cloud is below pairs i j d before within =
    let first : get_or (pieces ++ x ∷ []) i d ≡ get_or pieces i d =
    get_or_append_left pieces (x ∷ []) d i (omega (arith, length-append pieces (x ∷ []))) in
    elim (cases_lt j (length pieces)) [
      | inl inside ↦
          let second : get_or (pieces ++ x ∷ []) j d ≡ get_or pieces j d =
          get_or_append_left pieces (x ∷ []) d j inside in
          subst (IsBefore (get_or (pieces ++ x ∷ []) i d)) (sym second)
          (subst (λ (p : Piece). IsBefore p (get_or pieces j d)) (sym first) (pairs i j d before inside))
      | inr last ↦
          let second : get_or (pieces ++ x ∷ []) j d ≡ x =
          get_or_at pieces x [] d j (omega (arith, length-append pieces (x ∷ []))) in
          subst (IsBefore (get_or (pieces ++ x ∷ []) i d)) (sym second)
          (subst (λ (p : Piece). IsBefore p x) (sym first)
          (subst (λ (n : ℕ). (get_or pieces i d).cloud < n) (sym is) (below i d (omega (arith, length-append pieces (x ∷ []))))))
    ]
