-- What is written as digits, a piece after the other.
use Rattle.std.proofs.Common.{◌≡◌, ◌++◌, ◌/◌, ◌%◌, ◌∙◌, List, [], ◌∷◌, ℕ, Result, Ok, Err, IsErr, slice_index, refl, sym, ap, subst, append_assoc, append-nil, take, drop}
use Rattle.std.proofs.lemmas.List.{take-append-drop}
use Rattle.hex.specs.Hex.{encode_lower, encode_with, lower_digits}
use Rattle.nc_stream.specs.declared.sink.Sink.{Ghosts as SinkGhosts}
use Rattle.nc_words.specs.Sending.{Sends}
use Rattle.nc_words.proofs.SendLaws.{Sent, sends_failed, sends_more, sends_none, sent_as}

-- the digits of two lists, one after the other
encode-append : (t a b : List ℕ) → encode_with t (a ++ b) ≡ encode_with t a ++ encode_with t b
unfolding encode_with
encode-append t [] b = refl
encode-append t (x ∷ a) b =
    ap (λ (l : List ℕ). slice_index t (x / 16) ∷ slice_index t (x % 16) ∷ l) (encode-append t a b)

encode-nil : encode_lower [] ≡ []
unfolding encode_with
encode-nil = refl

-- a list that is taken apart
pub split_whole : (n : ℕ) (rest : List ℕ) {piece left : List ℕ} → piece ≡ take n rest → left ≡ drop n rest → piece ++ left ≡ rest
split_whole n rest {piece} {left} front back =
    ap (λ (l : List ℕ). l ++ left) front ∙ ap (λ (l : List ℕ). take n rest ++ l) back ∙ take-append-drop n rest

-- the digits of some bytes are written, and these are left
pub record DigitsSent {B : Type 0} (K : SinkGhosts B) (old new : B) (bytes rest : List ℕ) : Type 0 where
  pub front : List ℕ
  pub parts : front ++ rest ≡ bytes
  pub sent : Sent K (encode_lower front) old new

module _ {B : Type 0} (K : SinkGhosts B) where
  pub digits_begin : (start : B) (bytes : List ℕ) → DigitsSent K start start bytes bytes
  digits_begin start bytes = record {
    front = [];
    parts = refl;
    sent = subst (λ (l : List ℕ). Sent K l start start) (sym encode-nil) (sends_none K start tt);
  }

  -- the pieces that were written, and one more
  joined : (front piece left rest bytes : List ℕ) → piece ++ left ≡ rest → front ++ rest ≡ bytes → (front ++ piece) ++ left ≡ bytes
  joined front piece left rest bytes whole parts =
      append_assoc front piece left ∙ ap (λ (l : List ℕ). front ++ l) whole ∙ parts

  pub digits_more : {T E : Type 0} {old mid new : B} {bytes rest : List ℕ} (piece left : List ℕ) (x : T) → DigitsSent K old mid bytes rest
      → piece ++ left ≡ rest → Sends {T = T} {E = E} K (encode_lower piece) mid new (Ok x) → DigitsSent K old new bytes left
  digits_more {T} {E} {old} {mid} {new} {bytes} {rest} piece left x so_far whole more =
      record {
        front = so_far.front ++ piece;
        parts = joined so_far.front piece left rest bytes whole so_far.parts;
        sent = subst (λ (l : List ℕ). Sent K l old new) (sym (encode-append lower_digits so_far.front piece))
            (sent_as K tt (sends_more K (encode_lower so_far.front) (encode_lower piece) old mid new tt (Ok x) so_far.sent more));
      }

  -- the digits of a front and of the rest
  split : (front rest bytes : List ℕ) → front ++ rest ≡ bytes → encode_lower front ++ encode_lower rest ≡ encode_lower bytes
  split front rest bytes parts = sym (encode-append lower_digits front rest) ∙ ap encode_lower parts

  pub digits_failed : {T S E D : Type 0} {old mid new : B} {bytes rest : List ℕ} (piece left : List ℕ) → DigitsSent K old mid bytes rest
      → piece ++ left ≡ rest → (result : Result T D) → IsErr result → (fault : E) → Sends {T = S} K (encode_lower piece) mid new (Err fault)
      → Sends K (encode_lower bytes) old new result
  digits_failed piece left so_far whole (Ok x) failed fault more = absurd cc
  digits_failed {T} {S} {E} {D} {old} {mid} {new} {bytes} {rest} piece left so_far whole (Err told) failed fault more =
      let front : List ℕ = so_far.front ++ piece in
      let first : Sends {T = S} {E = E} K (encode_lower front) old new (Err fault) =
      subst (λ (l : List ℕ). Sends {T = S} {E = E} K l old new (Err fault)) (sym (encode-append lower_digits so_far.front piece))
      (sends_more K (encode_lower so_far.front) (encode_lower piece) old mid new tt (Err fault) so_far.sent more) in
      subst (λ (l : List ℕ). Sends {T = T} {E = D} K l old new (Err told))
      (split front left bytes (joined so_far.front piece left rest bytes whole so_far.parts))
      (sends_failed K (encode_lower front) (encode_lower left) old new fault told first)

  pub digits_all : {T E : Type 0} {old new : B} {bytes rest : List ℕ} (x : T) → rest ≡ [] → DigitsSent K old new bytes rest
      → Sends {T = T} {E = E} K (encode_lower bytes) old new (Ok x)
  digits_all {T} {E} {old} {new} {bytes} {rest} x none so_far =
      let whole : so_far.front ≡ bytes = sym (append-nil so_far.front) ∙ ap (λ (l : List ℕ). so_far.front ++ l) (sym none) ∙ so_far.parts in
      sent_as K x (subst (λ (l : List ℕ). Sent K (encode_lower l) old new) whole so_far.sent)
