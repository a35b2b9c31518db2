-- What stands in the text of a key.
use Rattle.std.proofs.Common.{arith, refl, ap, ◌∙◌, append_assoc}
use Rattle.std.proofs.lemmas.Bool.{and_parts}
use borrow.Author.Tests.{ltb-true}
use Rattle.std.proofs.lemmas.Str.{IsAscii-append}
use Rattle.std.proofs.lemmas.Str.Ascii.{IsAscii-nil, IsAscii-cons}
use Rattle.std.specs.Prelude.{ℕ, Bool, true, nat_lt, ◌&&◌, ◌≡◌, ◌+◌, ◌<◌, List, [], ◌∷◌, ◌++◌, take}
use Rattle.std.specs.Str.{IsAscii}
use Rattle.hex.specs.Hex.{encode_lower, lower_digits}
use Rattle.hex.proofs.HexLemmas.{IsAscii-encode_with}

-- three parts, each written after the one before
pub three_parts : (n m : ℕ) (one two three front name end : List ℕ) → take 2 one ≡ front → take (2 + n) two ≡ take 2 one ++ name
    → take (2 + n + m) three ≡ take (2 + n) two ++ end → take (2 + n + m) three ≡ front ++ (name ++ end)
three_parts n m one two three front name end a b c =
    c ∙ ap (λ (l : List ℕ). l ++ end) (b ∙ ap (λ (l : List ℕ). l ++ name) a) ∙ append_assoc front name end

abbrev all_ascii : List ℕ → Bool
all_ascii [] = true
all_ascii (x ∷ xs) = nat_lt x 128 && all_ascii xs

ascii_from_test : (xs : List ℕ) → all_ascii xs ≡ true → IsAscii xs
ascii_from_test [] h = IsAscii-nil
ascii_from_test (x ∷ xs) h =
    let parts = and_parts (nat_lt x 128) (all_ascii xs) h in
    IsAscii-cons x xs (ltb-true x 128 parts.0) (ascii_from_test xs parts.1)

-- text of ASCII around digits is ASCII
pub around_digits : (letter : ℕ) (name end : List ℕ) → letter < 128 → IsAscii end → IsAscii ((letter ∷ 45 ∷ []) ++ (encode_lower name ++ end))
around_digits letter name end l e =
    IsAscii-cons letter (45 ∷ encode_lower name ++ end) l
    (IsAscii-cons 45 (encode_lower name ++ end) (omega arith)
    (IsAscii-append (encode_lower name) end (IsAscii-encode_with lower_digits name (ascii_from_test lower_digits refl)) e))
