-- Functions that add in each byte: two of them are the same once they agree at the powers of 2.
use Rattle.std.proofs.Common.{◌≡◌, ℕ, zero, suc, ◌+◌, ◌-◌, ◌*◌, ◌^◌, ◌<◌, ◌≤◌, sym, ap, ◌∙◌, arith, inl, inr}
use Rattle.std.proofs.lemmas.Bool.{cases_lt}
use Rattle.std.proofs.lemmas.Nat.{pow_below}
use Rattle.std.proofs.Math.Nat.{pow-suc}
use lib.Bits.{bit_xor, xor_self, xor_shifted, xor_assoc, xor_comm}

-- the value at a sum of bytes is the sum of the values
pub record Adds (f : ℕ → ℕ) : Type 0 where
  pub at_sum : (x y : ℕ) → x < 256 → y < 256 → f (bit_xor x y) ≡ bit_xor (f x) (f y)

pub at_zero : (f : ℕ → ℕ) → Adds f → f 0 ≡ 0
at_zero f a = a.at_sum 0 0 (omega arith) (omega arith) ∙ xor_self (f 0)

-- (a + b) + (c + d) = (a + c) + (b + d)
pub xor_swap : (a b c d : ℕ) → bit_xor (bit_xor a b) (bit_xor c d) ≡ bit_xor (bit_xor a c) (bit_xor b d)
xor_swap a b c d =
    xor_assoc a b (bit_xor c d)
    ∙ ap (bit_xor a) (sym (xor_assoc b c d) ∙ ap (λ x. bit_xor x d) (xor_comm b c) ∙ xor_assoc c b d)
    ∙ sym (xor_assoc a c (bit_xor b d))

-- a number with its top bit n is the sum of that bit and the rest
top_and_rest : (n x : ℕ) → 2 ^ n ≤ x → x < 2 ^ suc n → (x - 2 ^ n < 2 ^ n) × (x ≡ bit_xor (2 ^ n) (x - 2 ^ n))
top_and_rest n x low high =
    let rest : x - 2 ^ n < 2 ^ n = omega (arith, pow-suc 2 n) in
    let e : bit_xor (1 * 2 ^ n) (x - 2 ^ n) ≡ 1 * 2 ^ n + (x - 2 ^ n) = xor_shifted 1 n (x - 2 ^ n) rest in
    let one : 1 * 2 ^ n ≡ 2 ^ n = omega arith in
    let back : 2 ^ n + (x - 2 ^ n) ≡ x = omega arith in
    (rest, sym back ∙ sym (rw one at e))

same_up_to : (f g : ℕ → ℕ) → Adds f → Adds g → ((k : ℕ) → k < 8 → f (2 ^ k) ≡ g (2 ^ k)) → (n : ℕ) → n ≤ 8 → (x : ℕ) → x < 2 ^ n → f x ≡ g x
same_up_to f g a b h zero le x lt =
    let e : x ≡ 0 = omega arith in
    rw e (at_zero f a ∙ sym (at_zero g b))
same_up_to f g a b h (suc n) le x lt = elim (cases_lt x (2 ^ n)) [
  | inl low ↦ same_up_to f g a b h n (omega arith) x low
  | inr high ↦
      let parts = top_and_rest n x high lt in
      let top : 2 ^ n < 256 = pow_below n 8 (omega arith) in
      let rest : x - 2 ^ n < 256 = omega (arith, parts.0) in
      let ih : f (x - 2 ^ n) ≡ g (x - 2 ^ n) = same_up_to f g a b h n (omega arith) (x - 2 ^ n) parts.0 in
      ap f parts.1
      ∙ a.at_sum (2 ^ n) (x - 2 ^ n) top rest
      ∙ ap (λ y. bit_xor y (f (x - 2 ^ n))) (h n (omega arith))
      ∙ ap (bit_xor (g (2 ^ n))) ih
      ∙ sym (b.at_sum (2 ^ n) (x - 2 ^ n) top rest)
      ∙ sym (ap g parts.1)
]

-- two functions that add are the same at each byte where they are the same at 1, 2, 4, .. 128
pub same_of_powers : (f g : ℕ → ℕ) → Adds f → Adds g → ((k : ℕ) → k < 8 → f (2 ^ k) ≡ g (2 ^ k)) → (x : ℕ) → x < 256 → f x ≡ g x
same_of_powers f g a b h x lt = same_up_to f g a b h 8 (omega arith) x lt
