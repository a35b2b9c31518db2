-- The lines of a text.
use Rattle.std.proofs.Common.{◌≡◌, ◌==◌, ◌<◌, ◌≤◌, ◌+◌, ◌∙◌, Bool, true, false, not, cond, List, [], ◌∷◌, ℕ, suc, nat_lt, Option, Some, None, length, take, drop, map, eqb-true, refl, sym, ap, subst, arith, if◌then◌else◌}
use Rattle.std.proofs.lemmas.Bool.Decides.{nat_tests}
use Rattle.std.proofs.lemmas.List.{drop-drop, drop_all, take_all}
use Rattle.std.specs.List.{after_first, before_first, position, position_or_len}
use Rattle.nc_run.specs.Items.{lines_of, onto}

-- a line feed
abbrev pub ends_line : ℕ → Bool
ends_line b = b == 10

-- a line feed stands here, the first one
found : (p n at : ℕ) → Some at ≡ cond (nat_lt p n) (Some p) None → (at ≡ p) × (at < n)
found p n at is = (grind (arith, nat_tests), grind (arith, nat_tests))

-- or nowhere
missed : (p n : ℕ) → ◌≡◌ {A = Option ℕ} None (cond (nat_lt p n) (Some p) None) → n ≤ p
missed p n is = grind (arith, nat_tests)

-- the lines of a byte and what follows it, where the byte ends a line or doesn't
abbrev lines_by : Bool → ℕ → List ℕ → List (List ℕ)
lines_by ends b bytes = if ends then [] ∷ lines_of bytes else onto b (lines_of bytes)

-- how long the first line is then
abbrev len_by : Bool → List ℕ → ℕ
len_by ends bytes = cond (not ends) (1 + position_or_len ends_line bytes) 0

-- the first line of a text with something in it, and the lines of what follows
first_by : (ends : Bool) (b : ℕ) (bytes : List ℕ) → (0 < length bytes → lines_of bytes ≡ before_first ends_line bytes ∷ lines_of (after_first ends_line bytes))
    → lines_by ends b bytes ≡ take (len_by ends bytes) (b ∷ bytes) ∷ lines_of (drop (len_by ends bytes + 1) (b ∷ bytes))
first_by true b bytes rest = refl
first_by false b [] rest = refl
first_by false b (c ∷ cs) rest =
    let p : ℕ = position_or_len ends_line (c ∷ cs) in
    let forth : 1 + p ≡ suc p = omega arith in
    let on : 1 + p + 1 ≡ suc (p + 1) = omega arith in
    ap (onto b) (rest (omega arith))
    ∙ subst (λ (k : ℕ). (b ∷ take p (c ∷ cs)) ∷ lines_of (drop (p + 1) (c ∷ cs)) ≡ take k (b ∷ c ∷ cs) ∷ lines_of (drop (suc (p + 1)) (b ∷ c ∷ cs))) (sym forth) refl
    ∙ ap (λ (k : ℕ). take (1 + p) (b ∷ c ∷ cs) ∷ lines_of (drop k (b ∷ c ∷ cs))) (sym on)

pub first_of_lines : (text : List ℕ) → 0 < length text → lines_of text ≡ before_first ends_line text ∷ lines_of (after_first ends_line text)
first_of_lines [] some = absurd (omega arith)
first_of_lines (b ∷ bytes) some = first_by (ends_line b) b bytes (first_of_lines bytes)

-- where the first line feed stands, the first line ends
pub split_lines : (text : List ℕ) (at : ℕ) → Some at ≡ position ends_line text
    → (at < length text) × (lines_of text ≡ take at text ∷ lines_of (drop 1 (drop at text)))
split_lines text at is =
    let p : ℕ = position_or_len ends_line text in
    let at_p : (at ≡ p) × (at < length text) = found p (length text) at is in (
      at_p.1,
      first_of_lines text (omega (arith, at_p.1))
          ∙ subst (λ (k : ℕ). take p text ∷ lines_of (drop (p + 1) text) ≡ take k text ∷ lines_of (drop (k + 1) text)) (sym at_p.0) refl
          ∙ ap (λ (l : List ℕ). take at text ∷ lines_of l) (sym (drop-drop 1 at text)),
    )

-- a text without any is one line
pub one_line : (text : List ℕ) → 0 < length text → None ≡ position ends_line text → lines_of text ≡ text ∷ []
one_line text some is =
    let p : ℕ = position_or_len ends_line text in
    let over : length text ≤ p = missed p (length text) is in
    first_of_lines text some ∙ ap (λ (l : List ℕ). l ∷ lines_of (drop (p + 1) text)) (take_all p text over)
    ∙ ap (λ (l : List ℕ). text ∷ lines_of l) (drop_all (p + 1) text (omega arith))

-- an end of the text that isn't reached yet
pub some_left : (text : List ℕ) → false ≡ (length text == 0) → 0 < length text
some_left [] is = absurd cc
some_left (b ∷ bytes) is = omega arith

-- an end that is
pub none_left : {X : Type 0} (f : List ℕ → X) (text : List ℕ) → true ≡ (length text == 0) → map f (lines_of text) ≡ []
none_left f [] is = refl
none_left f (b ∷ bytes) is = absurd (omega (arith, eqb-true (length (b ∷ bytes)) 0 (sym is)))
