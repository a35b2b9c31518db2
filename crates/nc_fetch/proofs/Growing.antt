-- Tables and lists that grow by one cloud.
use Rattle.std.proofs.Common.{◌≡◌, ◌<◌, ◌≤◌, ◌+◌, ◌++◌, ◌∷◌, ◌&&◌, ◌⊎◌, ℕ, suc, Bool, true, false, nat_le, nat_lt, if◌then◌else◌, Option, None, Some, List, [], option_to_list, length, length-append, length-drop, get_or, set, length-set, drop, remove, inl, inr, refl, sym, ap, ◌∙◌, subst, arith}
use Rattle.std.proofs.lemmas.Bool.{cases_lt}
use Rattle.std.proofs.lemmas.Bool.Decides.{leb_tells}
use Rattle.std.proofs.lemmas.List.{append_assoc, drop-drop, get_or-drop, get_or-set_other, get_or-set_same, get_or_append_left, get_or_default}
use Rattle.std.proofs.Math.Seq.{get_or-append_seam}
use Rattle.nc_cloud.specs.Rounds.{some_row}
use Rattle.nc_cloud.proofs.SomeRows.{some_more}
use Rattle.nc_mix.specs.declared.pieces.Piece.{Piece}
use Rattle.nc_settle.specs.MetaWrites.{named}
use Rattle.nc_download.specs.declared.short.Why.{Why}
use Rattle.nc_fetch.specs.declared.founds.Found.{Found}
use Rattle.nc_fetch.specs.declared.founds.Found.TheVariants.{Unasked}
use Rattle.nc_fetch.specs.Founds.{found_at, is_good, NamesGood}
use Rattle.nc_fetch.specs.Whys.{AreMarked, AreMarkedWith, NamesFree, free_between, is_fine, piece_at, piece_of, why_at, why_of}

-- a table, once entry k is set
pub set_more : {X : Type 0} (d : X) (f : ℕ → X) (k : ℕ) (table : List X) (x : X) → k < length table → ((c : ℕ) → c < k → get_or table c d ≡ f c) → x ≡ f k → (c : ℕ) → c < k + 1 → get_or (set table k x) c d ≡ f c
set_more d f k table x within each is c l =
    elim (cases_lt c k) [
      | inl before ↦ get_or-set_other table k c x d (λ e. absurd (omega arith)) ∙ each c before
      | inr after ↦ let here : k ≡ c = omega arith in subst (λ (j : ℕ). get_or (set table k x) j d ≡ f j) here (get_or-set_same table k x d within ∙ is)
    ]

pub free_more : (whys : List (Option Why)) (a b k : ℕ) (table : List Bool) (x : Bool) → NamesFree whys a b k table → k < 10 → x ≡ free_between whys a b k → NamesFree whys a b (k + 1) (set table k x)
free_more whys a b k table x names low is = record {
  long = length-set table k x ∙ names.long;
  each = set_more false (free_between whys a b) k table x (omega (arith, low, names.long)) names.each is;
}

pub good_more : (founds : List Found) (k : ℕ) (table : List Bool) (x : Bool) → NamesGood founds k table → k < 10 → x ≡ is_good (found_at founds k) → NamesGood founds (k + 1) (set table k x)
good_more founds k table x names low is = record {
  long = length-set table k x ∙ names.long;
  each = set_more false (λ c. is_good (found_at founds c)) k table x (omega (arith, low, names.long)) names.each is;
}

pub marked_none : (zeros ones : List Found) (whys : List (Option Why)) → length whys ≡ 10 → AreMarked zeros ones 0 whys whys
marked_none zeros ones whys long = record { long = long; each = λ c l. absurd (omega arith); others = λ c l. refl }

pub marked_more : (zeros ones : List Found) (k : ℕ) (old new : List (Option Why)) (why : Option Why) → AreMarked zeros ones k old new → k < 10 → why ≡ why_of (found_at zeros k) (found_at ones k) (why_at old k)
    → AreMarked zeros ones (k + 1) old (set new k why)
marked_more zeros ones k old new why marked low is = record {
  long = length-set new k why ∙ marked.long;
  each = set_more None (λ c. why_of (found_at zeros c) (found_at ones c) (why_at old c)) k new why (omega (arith, low, marked.long)) marked.each is;
  others = λ c l. get_or-set_other new k c why None (λ e. absurd (omega arith)) ∙ marked.others c (omega (arith, l));
}

pub marked_with_more : (why : Why) (on : List Bool) (k : ℕ) (whys : List (Option Why)) (mark : Option Why) (d : Bool) → length on ≡ 10 → k < 10 → (length whys ≡ 10) × AreMarkedWith why k (named on) whys → mark ≡ (if get_or on k d then Some why else None)
    → (length (set whys k mark) ≡ 10) × AreMarkedWith why (k + 1) (named on) (set whys k mark)
marked_with_more why on k whys mark d long low so_far is =
    let here : mark ≡ (if named on k then Some why else None) = is ∙ ap (λ (b : Bool). if b then Some why else None) (get_or_default on k d false (omega (arith, long, low))) in (
      length-set whys k mark ∙ so_far.0,
      record { each = set_more None (λ c. if named on c then Some why else None) k whys mark (omega (arith, so_far.0, low)) so_far.1.each here },
    )

-- why cloud k is bad, where what it gave is read from lists
pub why_here : (zeros ones : List Found) (whys : List (Option Why)) (k : ℕ) (zero one : Found) (d why : Option Why) → k < length zeros → k < length ones → k < length whys → zero ≡ get_or zeros k zero → one ≡ get_or ones k one
    → why ≡ why_of zero one (get_or whys k d) → why ≡ why_of (found_at zeros k) (found_at ones k) (why_at whys k)
why_here zeros ones whys k zero one d why zero_low one_low why_low is_zero is_one is =
    is
    ∙ ap (λ z. why_of z one (get_or whys k d)) (is_zero ∙ get_or_default zeros k zero Unasked zero_low)
    ∙ ap (λ o. why_of (found_at zeros k) o (get_or whys k d)) (is_one ∙ get_or_default ones k one Unasked one_low)
    ∙ ap (why_of (found_at zeros k) (found_at ones k)) (get_or_default whys k d None why_low)

-- a list to which one is pushed
pub push_more : {X : Type 0} (d : X) (Q : ℕ → X → Type 0) (k : ℕ) (xs next : List X) (x : X) → length xs ≡ k → ((c : ℕ) → c < k → Q c (get_or xs c d)) → Q k x → next ≡ xs ++ x ∷ []
    → (length next ≡ k + 1) × ((c : ℕ) → c < k + 1 → Q c (get_or next c d))
push_more d Q k xs next x long each here pushed = (
  ap length pushed ∙ length-append xs (x ∷ []) ∙ ap (λ n. n + 1) long,
  λ c l. elim (cases_lt c k) [
    | inl before ↦
        let there : get_or next c d ≡ get_or xs c d = ap (λ ys. get_or ys c d) pushed ∙ get_or_append_left xs (x ∷ []) d c (omega (arith, before, long)) in
        subst (Q c) (sym there) (each c before)
    | inr after ↦
        let same : k ≡ c = omega arith in
        let at : k ≡ length xs = sym long in
        let there : get_or next k d ≡ x = ap (λ ys. get_or ys k d) pushed ∙ ap (λ n. get_or (xs ++ x ∷ []) n d) at ∙ get_or-append_seam xs x [] d in
        subst (λ (j : ℕ). Q j (get_or next j d)) same (subst (Q k) (sym there) here)
  ],
)

-- ---- lists from whose front one is taken

removed_front : {X : Type 0} (xs : List X) → remove xs 0 ≡ drop 1 xs
removed_front [] = refl
removed_front (x ∷ xs) = refl

pub rest_of : {X : Type 0} (all rest next : List X) (at : ℕ) → next ≡ remove rest 0 → rest ≡ drop at all → next ≡ drop (at + 1) all
rest_of all rest next at is left = is ∙ removed_front rest ∙ ap (drop 1) left ∙ drop-drop 1 at all

pub some_left : {X : Type 0} (all rest : List X) (at : ℕ) → rest ≡ drop at all → at < length all → 0 < length rest
some_left all rest at left low = rw left (omega (arith, length-drop at all, low))

pub front_of : {X : Type 0} (d : X) (all rest : List X) (x : X) (at : ℕ) → x ≡ get_or rest 0 x → rest ≡ drop at all → at < length all → x ≡ get_or all at d
front_of d all rest x at is left low =
    let none : at + 0 ≡ at = omega arith in
    is ∙ ap (λ ys. get_or ys 0 x) left ∙ get_or-drop at all 0 x ∙ ap (λ n. get_or all n x) none ∙ get_or_default all at x d low

pub joined_more : (zeros ones : List Found) (k : ℕ) (old pieces next : List Piece) (zero one : Found) → pieces ≡ old ++ some_row (piece_at zeros ones) 0 k → zero ≡ found_at zeros k → one ≡ found_at ones k
    → next ≡ pieces ++ option_to_list (piece_of k zero one) → next ≡ old ++ some_row (piece_at zeros ones) 0 (k + 1)
joined_more zeros ones k old pieces next zero one so_far is_zero is_one added =
    let before : List Piece = some_row (piece_at zeros ones) 0 k in
    added
    ∙ ap (λ ps. ps ++ option_to_list (piece_of k zero one)) so_far
    ∙ append_assoc old before (option_to_list (piece_of k zero one))
    ∙ ap (λ z. old ++ (before ++ option_to_list (piece_of k z one))) is_zero
    ∙ ap (λ o. old ++ (before ++ option_to_list (piece_of k (found_at zeros k) o))) is_one
    ∙ ap (λ ps. old ++ ps) (sym (some_more (piece_at zeros ones) k))

-- ---- ranges

pub range_tells : (a b c : ℕ) → (((nat_le a c && nat_lt c b) ≡ true) × (a ≤ c) × (c < b)) ⊎ (((nat_le a c && nat_lt c b) ≡ false) × (a ≤ c → c < b → ⊥))
range_tells a b c = elim (leb_tells a c) [
  | inl low ↦ elim (leb_tells (suc c) b) [
    | inl high ↦ inl (ap (λ x. x && nat_lt c b) low.0 ∙ high.0, low.1, omega (arith, high.1))
    | inr out ↦ inr (ap (λ x. x && nat_lt c b) low.0 ∙ out.0, λ l m. omega (arith, m, out.1))
  ]
  | inr out ↦ inr (ap (λ x. x && nat_lt c b) out.0, λ l m. omega (arith, l, out.1))
]

module _ (whys : List (Option Why)) (a b c : ℕ) where
  pub free_below : c < a → false ≡ free_between whys a b c
  free_below l = elim (range_tells a b c) [
    | inl within ↦ absurd (omega (arith, l, within.1))
    | inr out ↦ ap (λ x. x && is_fine (why_at whys c)) (sym out.0)
  ]

  pub free_above : b ≤ c → false ≡ free_between whys a b c
  free_above l = elim (range_tells a b c) [
    | inl within ↦ absurd (omega (arith, l, within.2))
    | inr out ↦ ap (λ x. x && is_fine (why_at whys c)) (sym out.0)
  ]

  pub free_within : (x : Bool) → a ≤ c → c < b → x ≡ is_fine (why_at whys c) → x ≡ free_between whys a b c
  free_within x low high is = elim (range_tells a b c) [
    | inl within ↦ is ∙ ap (λ y. y && is_fine (why_at whys c)) (sym within.0)
    | inr out ↦ absurd (out.1 low high)
  ]
