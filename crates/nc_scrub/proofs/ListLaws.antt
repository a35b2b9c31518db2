-- The list of parts that aren't right, as it grows.
use Rattle.std.proofs.Common.{◌≡◌, ◌<◌, ◌+◌, ◌*◌, ◌++◌, ◌∷◌, ℕ, Option, None, Some, List, [], length, length-append, get_or, All, AllPairs, inl, inr, refl, sym, ap, ◌∙◌, subst, arith}
use Rattle.std.proofs.lemmas.Bool.{cases_lt}
use Rattle.std.proofs.lemmas.List.{append-nil, get_or_append_left}
use Rattle.std.proofs.lemmas.List.Elements.{All-append, All-cons, Contains-append_left, Contains-append_right}
use Rattle.std.proofs.Math.Seq.{get_or-append_seam}
use Rattle.nc_scrub.specs.declared.flaw.Flaw.{Flaw}
use Rattle.nc_scrub.specs.declared.flaw.Part.{Part}
use Rattle.nc_scrub.specs.declared.flaw.Part.TheVariants.{Meta, Chunk}
use Rattle.nc_scrub.specs.declared.flaw.State.{State}
use Rattle.nc_scrub.specs.Flaws.{place_of, rank_of, IsPart}
use Rattle.nc_scrub.specs.Tables.{flaws_of, state_at, told, IsTold, ListsTo, Table}

-- ---- places

pub rank_low : (p : Part) → IsPart p → rank_of p < 3
rank_low Meta is = omega arith
rank_low (Chunk r) is = omega (arith, is)

-- parts at one place are the same
same_place : (c d : ℕ) (p q : Part) → IsPart p → IsPart q → place_of c p ≡ place_of d q → (c ≡ d) × (p ≡ q)
same_place c d Meta Meta a b e = (omega (arith, e), refl)
same_place c d Meta (Chunk r) a b e = absurd (omega (arith, b, e))
same_place c d (Chunk r) Meta a b e = absurd (omega (arith, a, e))
same_place c d (Chunk r) (Chunk s) a b e = (omega (arith, a, b, e), let same : r ≡ s = omega (arith, a, b, e) in ap Chunk same)

abbrev flaw : ℕ → Part → State → Flaw
flaw c p s = record { cloud = c; part = p; state = s }

same_flaw : (c d : ℕ) (p q : Part) (s t : State) → c ≡ d → p ≡ q → s ≡ t → flaw c p s ≡ flaw d q t
same_flaw c d p q s t a b e = ap (λ (x : ℕ). flaw x p s) a ∙ ap (λ (x : Part). flaw d x s) b ∙ ap (λ (x : State). flaw d q x) e

-- ---- one part more

rising_last : {X : Type 0} (R : X → X → Type 0) (xs : List X) (x : X) → AllPairs R xs → All (λ a. R a x) xs → AllPairs R (xs ++ x ∷ [])
rising_last {X = X} R xs x pairs before i j d l m =
    let long : length (xs ++ x ∷ []) ≡ length xs + 1 = length-append xs (x ∷ []) in
    elim (cases_lt j (length xs)) [
      | inl low ↦
          let first : get_or (xs ++ x ∷ []) i d ≡ get_or xs i d = get_or_append_left xs (x ∷ []) d i (omega (arith, l, low)) in
          let last : get_or (xs ++ x ∷ []) j d ≡ get_or xs j d = get_or_append_left xs (x ∷ []) d j low in
          subst (λ (a : X). R a (get_or (xs ++ x ∷ []) j d)) (sym first) (subst (R (get_or xs i d)) (sym last) (pairs i j d l low))
      | inr high ↦
          let at : length xs ≡ j = omega (arith, high, m, long) in
          let within : i < length xs = omega (arith, l, at) in
          let first : get_or (xs ++ x ∷ []) i d ≡ get_or xs i d = get_or_append_left xs (x ∷ []) d i within in
          let last : get_or (xs ++ x ∷ []) j d ≡ x = ap (λ (k : ℕ). get_or (xs ++ x ∷ []) k d) (sym at) ∙ get_or-append_seam xs x [] d in
          subst (λ (a : X). R a (get_or (xs ++ x ∷ []) j d)) (sym first) (subst (R (get_or xs i d)) (sym last) (before i d within))
    ]

none_is_some : {X : Type 0} (o : Option X) (x : X) → o ≡ None → o ≡ Some x → ⊥
none_is_some o x a b = cc

some_same : {X : Type 0} (o : Option X) (x y : X) → o ≡ Some x → o ≡ Some y → x ≡ y
some_same o x y a b = cc

module _ (says : ℕ → Part → Option State) where
  later : (k : ℕ) (f : Flaw) → IsTold says k f → IsTold says (k + 1) f
  later k f t = record { is_part = t.is_part; is = t.is; before = omega (arith, t.before) }

  sooner : (k : ℕ) (f : Flaw) → IsTold says (k + 1) f → place_of f.cloud f.part < k → IsTold says k f
  sooner k f t low = record { is_part = t.is_part; is = t.is; before = low }

  pub none_listed : (flaws : List Flaw) → flaws ≡ [] → ListsTo says (3 * 0) flaws
  none_listed flaws none = subst (ListsTo says (3 * 0)) (sym none) (record {
    each = λ i d l. absurd (omega (arith, l));
    all = λ f t. absurd (omega (arith, t.before));
    sorted = λ i j d l m. absurd (omega (arith, m));
  })

  part_listed : (k c : ℕ) (p : Part) (o : Option State) (old : List Flaw) → ListsTo says k old → IsPart p → place_of c p ≡ k → says c p ≡ o → ListsTo says (k + 1) (old ++ flaws_of c p o)
  part_listed k c p None old lists part at is = subst (ListsTo says (k + 1)) (sym (append-nil old)) (record {
    each = λ i d l. later k (get_or old i d) (lists.each i d l);
    all = λ f t. elim (cases_lt (place_of f.cloud f.part) k) [
      | inl low ↦ lists.all f (sooner k f t low)
      | inr high ↦
          let there : place_of f.cloud f.part ≡ place_of c p = omega (arith, high, t.before, at) in
          let same = same_place f.cloud c f.part p t.is_part part there in
          let says_so : says c p ≡ Some f.state = subst (λ (q : Part). says c q ≡ Some f.state) same.1 (subst (λ (b : ℕ). says b f.part ≡ Some f.state) same.0 t.is) in
          absurd (none_is_some (says c p) f.state is says_so)
    ];
    sorted = lists.sorted;
  })
  part_listed k c p (Some s) old lists part at is = record {
    each = All-append (IsTold says (k + 1)) old (flaw c p s ∷ []) (λ i d l. later k (get_or old i d) (lists.each i d l))
        (All-cons (IsTold says (k + 1)) (flaw c p s) [] (record { is_part = part; is = is; before = omega (arith, at) }) (λ i d l. absurd (omega (arith, l))));
    all = λ f t. elim (cases_lt (place_of f.cloud f.part) k) [
      | inl low ↦ Contains-append_left old (flaw c p s ∷ []) f (lists.all f (sooner k f t low))
      | inr high ↦
          let there : place_of f.cloud f.part ≡ place_of c p = omega (arith, high, t.before, at) in
          let same = same_place f.cloud c f.part p t.is_part part there in
          let says_so : says c p ≡ Some f.state = subst (λ (q : Part). says c q ≡ Some f.state) same.1 (subst (λ (b : ℕ). says b f.part ≡ Some f.state) same.0 t.is) in
          let is_it : flaw c p s ≡ f = same_flaw c f.cloud p f.part s f.state (sym same.0) (sym same.1) (some_same (says c p) s f.state is says_so) in
          Contains-append_right old (flaw c p s ∷ []) f (0, omega arith, is_it)
    ];
    sorted = rising_last (λ (a b : Flaw). place_of a.cloud a.part < place_of b.cloud b.part) old (flaw c p s) lists.sorted
        (λ i d l. let before : place_of (get_or old i d).cloud (get_or old i d).part < k = (lists.each i d l).before in omega (arith, before, at));
  }

-- one cloud more
pub cloud_listed : (metas zeros ones : Table) (k : ℕ) (old new : List Flaw) (m z o : Option State) → ListsTo (told metas zeros ones) (3 * k) old → m ≡ state_at metas k → z ≡ state_at zeros k → o ≡ state_at ones k
    → new ≡ ((old ++ flaws_of k Meta m) ++ flaws_of k (Chunk 0) z) ++ flaws_of k (Chunk 1) o → ListsTo (told metas zeros ones) (3 * (k + 1)) new
cloud_listed metas zeros ones k old new m z o lists is_m is_z is_o is =
    let says : ℕ → Part → Option State = told metas zeros ones in
    let meta : 3 * k + 0 ≡ 3 * k = omega arith in
    let zero_at : 3 * k + (0 + 1) ≡ 3 * k + 1 = omega arith in
    let one_at : 3 * k + (1 + 1) ≡ 3 * k + 1 + 1 = omega arith in
    let next : 3 * k + 1 + 1 + 1 ≡ 3 * (k + 1) = omega arith in
    let one = part_listed says (3 * k) k Meta m old lists tt meta (sym is_m) in
    let two = part_listed says (3 * k + 1) k (Chunk 0) z (old ++ flaws_of k Meta m) one (omega arith) zero_at (sym is_z) in
    let three = part_listed says (3 * k + 1 + 1) k (Chunk 1) o ((old ++ flaws_of k Meta m) ++ flaws_of k (Chunk 0) z) two (omega arith) one_at (sym is_o) in
    subst (λ (xs : List Flaw). ListsTo says (3 * (k + 1)) xs) (sym is) (subst (λ (j : ℕ). ListsTo says j (((old ++ flaws_of k Meta m) ++ flaws_of k (Chunk 0) z) ++ flaws_of k (Chunk 1) o)) next three)
