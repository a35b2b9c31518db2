-- How a number stands in a word.
use Rattle.std.specs.Prelude.{ℕ, ◌≡◌, ◌<◌, ◌≤◌, ◌^◌, List, length}
use Rattle.std.specs.Str.Parse.{AllDigits, digits_value}

-- one to twenty decimal digits and nothing else, of this value; zeros in front are digits too
pub record IsNumber (text : List ℕ) (value : ℕ) : Type 0 where
  pub some : 1 ≤ length text
  pub few : length text ≤ 20
  pub digits : AllDigits 10 text
  pub value_is : value ≡ digits_value 10 text

-- no number below 2 ^ 64 stands there
pub record IsNoNumber (text : List ℕ) : Type 0 where
  pub none : (value : ℕ) → IsNumber text value → value < 2 ^ 64 → ⊥

-- the number of a cloud of n
pub record IsCloudNumber (n : ℕ) (text : List ℕ) (cloud : ℕ) : Type 0 where
  pub number : IsNumber text cloud
  pub within : cloud < n

-- the number of no cloud of n
pub record IsNoCloudNumber (n : ℕ) (text : List ℕ) : Type 0 where
  pub none : (cloud : ℕ) → IsCloudNumber n text cloud → ⊥
