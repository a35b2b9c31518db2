-- Which texts are no numbers.
use Rattle.std.proofs.Common.{◌≡◌, ◌<◌, ℕ, List, true, false, length, arith, rules}
use Rattle.std.specs.Char.{is_ascii_digit}
use Rattle.std.specs.List.{list_all}
use Rattle.std.specs.Str.Parse.{digits_value}
use Rattle.std.proofs.lemmas.Str.Parse.{IsDigitsTest, IsNumeralModel, numerals_by_value}
use Rattle.nc_words.specs.Numbers.{IsNoNumber}

-- the test of each byte tells texts of digits
tells : IsDigitsTest (λ (ds : List ℕ). list_all is_ascii_digit ds ≡ true)
tells = search rules

own : IsNumeralModel (λ (ds : List ℕ). list_all is_ascii_digit ds ≡ true) (digits_value 10)
own = numerals_by_value _ tells

pub not_digits : (text : List ℕ) → list_all is_ascii_digit text ≡ false → IsNoNumber text
not_digits text not = record { none = λ value is less. absurd (let all : list_all is_ascii_digit text ≡ true = own.from text is.digits in cc) }

pub too_long : (text : List ℕ) → 20 < length text → IsNoNumber text
too_long text long = record { none = λ value is less. absurd (omega (arith, is.few)) }
