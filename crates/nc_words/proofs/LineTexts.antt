-- What stands in a line: digits and names are text, and digits have no space.
use Rattle.std.proofs.Common.{◌≡◌, ◌≢◌, ◌<◌, ◌≤◌, ◌⊎◌, inl, inr, ℕ, zero, suc, List, [], ◌∷◌, ◌++◌, Option, Some, None, IfSome, IsAscii, IsUtf8, Ok, codes, length, nat_lt, slice_index, arith, ap, refl, subst, sym, true, false, true≢false}
use Rattle.std.proofs.lemmas.Bool.{and_parts}
use Rattle.std.proofs.lemmas.Str.{IsUtf8-from_ascii}
use Rattle.std.proofs.lemmas.Str.Ascii.{IsAscii-cons, IsAscii-from_all, IsAscii-nil}
use Rattle.std.specs.Char.{digit_value}
use Rattle.std.specs.List.{list_all}
use Rattle.std.specs.Str.Parse.{AllDigits}
use Rattle.hex.proofs.HexLemmas.{decode_of-ok}
use Rattle.hex.specs.Hex.{decode_of, is_hex_digit}
use Rattle.nc_words.specs.LineParts.{HasNoSpace}
use Rattle.nc_words.specs.Lines.{IsData}

-- ---- decimal digits

digit_no_space : (c : ℕ) → digit_value c < 10 → c ≢ 32
digit_no_space c small is = let bad : digit_value 32 < 10 = subst (λ (d : ℕ). digit_value d < 10) is small in omega (arith, bad)

digit_at : (text : List ℕ) → AllDigits 10 text → (i : ℕ) → i < length text → digit_value (slice_index text i) < 10
digit_at [] all i less = absurd (omega (arith, less))
digit_at (c ∷ cs) all zero less = all.0
digit_at (c ∷ cs) all (suc i) less = digit_at cs all.1 i (omega arith)

pub digits_no_space : (text : List ℕ) → AllDigits 10 text → HasNoSpace text
digits_no_space text all = record { none = λ i less. digit_no_space (slice_index text i) (digit_at text all i less) }

digit_ascii : (c : ℕ) → digit_value c < 10 → c < 128
digit_ascii c small = grind arith

digits_ascii : (text : List ℕ) → AllDigits 10 text → IsAscii text
digits_ascii [] all = IsAscii-nil
digits_ascii (c ∷ cs) all = IsAscii-cons c cs (digit_ascii c all.0) (digits_ascii cs all.1)

pub digits_text : (text : List ℕ) → AllDigits 10 text → IsUtf8 text
digits_text text all = IsUtf8-from_ascii text (digits_ascii text all)

-- ---- words

small : (b : ℕ) → nat_lt b 128 ≡ true → b < 128
small b is = grind arith

letters : (text : List ℕ) → list_all (λ b. nat_lt b 128) text ≡ true → IsAscii text
letters [] all = IsAscii-nil
letters (b ∷ bs) all =
    let parts = and_parts (nat_lt b 128) (list_all (λ b. nat_lt b 128) bs) all in
    IsAscii-cons b bs (small b parts.0) (letters bs parts.1)

pub letters_text : (text : List ℕ) → list_all (λ b. nat_lt b 128) text ≡ true → IsUtf8 text
letters_text text all = IsUtf8-from_ascii text (letters text all)

-- ---- the digits of bytes

hex_no_space : (c : ℕ) → is_hex_digit c ≡ true → c ≢ 32
hex_no_space c digit is = true≢false (sym (subst (λ (d : ℕ). is_hex_digit d ≡ true) is digit))

hex_ascii : (c : ℕ) → is_hex_digit c ≡ true → c < 128
hex_ascii c digit = grind arith

dash_no_space : (i : ℕ) → i < 1 → slice_index (codes "-") i ≢ 32
dash_no_space zero less is = omega (arith, is)
dash_no_space (suc i) less is = omega (arith, less)

pub data_no_space : (text bytes : List ℕ) → IsData text bytes → HasNoSpace text
data_no_space text bytes (inl dash) = subst HasNoSpace (sym dash.0) (record { none = dash_no_space })
data_no_space text bytes (inr digits) =
    let all = (decode_of-ok text bytes digits.1).1 in
    record { none = λ i less. hex_no_space (slice_index text i) (all i 0 less) }

pub data_text : (text bytes : List ℕ) → IsData text bytes → IsUtf8 text
data_text text bytes (inl dash) = subst IsUtf8 (sym dash.0) (letters_text (codes "-") refl)
data_text text bytes (inr digits) =
    let all = (decode_of-ok text bytes digits.1).1 in
    IsUtf8-from_ascii text (IsAscii-from_all text (λ k d less. hex_ascii _ (all k d less)))

pub data_short : (text bytes : List ℕ) → IsData text bytes → length bytes ≤ length text
data_short text bytes (inl dash) = let none : length bytes ≡ 0 = ap length dash.1 in omega (arith, none)
data_short text bytes (inr digits) = let twice = (decode_of-ok text bytes digits.1).2 in omega (arith, twice)

one_decoded : (text x y : List ℕ) → decode_of text ≡ Ok x → decode_of text ≡ Ok y → x ≡ y
one_decoded text x y first second = cc

dash_and_more : (text : List ℕ) → text ≡ codes "-" → 2 ≤ length text → ⊥
dash_and_more text dash long = let one : length text ≡ 1 = ap length dash in omega (arith, one, long)

pub one_data : (text x y : List ℕ) → IsData text x → IsData text y → x ≡ y
one_data text x y (inl first) (inl second) = cc
one_data text x y (inl first) (inr second) = absurd (dash_and_more text first.0 second.0)
one_data text x y (inr first) (inl second) = absurd (dash_and_more text second.0 first.0)
one_data text x y (inr first) (inr second) = one_decoded text x y first.1 second.1
