-- Texts in two around a space.
use Rattle.std.proofs.Common.{◌≡◌, ◌≢◌, ◌∙◌, ◌<◌, ◌==◌, ℕ, suc, List, [], ◌∷◌, ◌++◌, Option, Some, None, IfSome, IfNone, MatchOption, Bor, codes, length, slice_index, drop, take-append-drop, append_assoc, inl, inr, arith, ap, refl, subst, sym, false, if◌then◌else◌}
use Rattle.std.proofs.lemmas.Bool.{false_from_ne_true}
use Rattle.std.proofs.lemmas.Bool.Decides.{eqb_tells}
use Rattle.std.proofs.lemmas.Str.Pattern.{IsSplitOnceResult, NoCharPasses-char, drop_at_char, split_parts}
use Rattle.std.specs.Str.{NoCharPasses}
use Rattle.std.specs.Str.Pattern.{RFindsChar, SplitsAroundMatch}
use Rattle.nc_words.specs.LineParts.{HasNoSpace, SplitsAtFirst, SplitsAtLast}

-- ---- what is found

pub first_some : (text : List ℕ) (r : Option (Bor (List ℕ) × Bor (List ℕ))) → IsSplitOnceResult 32 text r
    → IfSome r (λ parts. SplitsAtFirst text parts.0.now parts.1.now)
first_some text None found = tt
first_some text (Some parts) found =
    let split = split_parts 32 text (Some parts) found (omega arith) in
    record { text_is = split.0 ∙ sym (append_assoc parts.0.now (32 ∷ []) parts.1.now); first = record { none = split.1 } }

pub first_none : (text : List ℕ) (r : Option (Bor (List ℕ) × Bor (List ℕ))) → IsSplitOnceResult 32 text r → IfNone r (HasNoSpace text)
first_none text None found = record { none = split_parts 32 text None found (omega arith) }
first_none text (Some parts) found = tt

abbrev IsLastResult : List ℕ → Option (Bor (List ℕ) × Bor (List ℕ)) → Type 0
IsLastResult text r = MatchOption r (RFindsChar 32 text None) (λ parts. SplitsAroundMatch (RFindsChar 32) text parts.0.now parts.1.now)

pub last_some : (text : List ℕ) (r : Option (Bor (List ℕ) × Bor (List ℕ))) → IsLastResult text r
    → IfSome r (λ parts. SplitsAtLast text parts.0.now parts.1.now)
last_some text None found = tt
last_some text (Some parts) found =
    let low : 32 < 128 = omega arith in
    let back : drop found.0 text ≡ 32 ∷ parts.1.now = drop_at_char 32 text found.0 found.1 found.2.1 low ∙ ap (λ (l : List ℕ). 32 ∷ l) (sym found.4) in
    record {
      text_is = sym (take-append-drop found.0 text) ∙ (λ k. sym found.3 k ++ back k) ∙ sym (append_assoc parts.0.now (32 ∷ []) parts.1.now);
      last = record { none = λ i. NoCharPasses-char 32 parts.1.now i (subst (NoCharPasses (λ d. d == 32)) (sym found.4) found.2.0) low };
    }

pub last_none : (text : List ℕ) (r : Option (Bor (List ℕ) × Bor (List ℕ))) → IsLastResult text r → IfNone r (HasNoSpace text)
last_none text None found = record { none = λ i. NoCharPasses-char 32 text i found (omega arith) }
last_none text (Some parts) found = tt

-- ---- the parts as functions of the text

not_here : (b : ℕ) (bs : List ℕ) → HasNoSpace (b ∷ bs) → (b == 32) ≡ false
not_here b bs text = elim (eqb_tells b 32) [ inl is ↦ absurd (text.none 0 (omega arith) is.1) | inr other ↦ other.0 ]

not_later : (b : ℕ) (bs : List ℕ) → HasNoSpace (b ∷ bs) → HasNoSpace bs
not_later b bs text = record { none = λ i less. text.none (suc i) (omega arith) }

abbrev in_front : ℕ → Option (List ℕ × List ℕ) → Option (List ℕ × List ℕ)
in_front b None = None
in_front b (Some parts) = Some (b ∷ parts.0, parts.1)

-- around the first space
abbrev pub cut : List ℕ → Option (List ℕ × List ℕ)
cut [] = None
cut (b ∷ bs) = if b == 32 then Some ([], bs) else in_front b (cut bs)

pub cut_none : (text : List ℕ) → HasNoSpace text → cut text ≡ None
cut_none [] text = refl
cut_none (b ∷ bs) text =
    ap (λ t. if t then Some ([], bs) else in_front b (cut bs)) (not_here b bs text) ∙ ap (in_front b) (cut_none bs (not_later b bs text))

pub cut_at : (front back : List ℕ) → HasNoSpace front → cut (front ++ codes " " ++ back) ≡ Some (front, back)
cut_at [] back text = refl
cut_at (b ∷ bs) back text =
    ap (λ t. if t then Some ([], bs ++ codes " " ++ back) else in_front b (cut (bs ++ codes " " ++ back))) (not_here b bs text)
    ∙ ap (in_front b) (cut_at bs back (not_later b bs text))

abbrev before : ℕ → List ℕ → Option (List ℕ × List ℕ) → Option (List ℕ × List ℕ)
before b bs None = if b == 32 then Some ([], bs) else None
before b bs (Some parts) = Some (b ∷ parts.0, parts.1)

-- around the last
abbrev pub cut_last : List ℕ → Option (List ℕ × List ℕ)
cut_last [] = None
cut_last (b ∷ bs) = before b bs (cut_last bs)

pub cut_last_none : (text : List ℕ) → HasNoSpace text → cut_last text ≡ None
cut_last_none [] text = refl
cut_last_none (b ∷ bs) text =
    ap (before b bs) (cut_last_none bs (not_later b bs text)) ∙ ap (λ t. if t then Some ([], bs) else None) (not_here b bs text)

pub cut_last_at : (front back : List ℕ) → HasNoSpace back → cut_last (front ++ codes " " ++ back) ≡ Some (front, back)
cut_last_at [] back text = ap (before 32 back) (cut_last_none back text)
cut_last_at (b ∷ bs) back text = ap (before b (bs ++ codes " " ++ back)) (cut_last_at bs back text)
