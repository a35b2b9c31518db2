-- Two rounds of chunks, cloud by cloud.
use Rattle.std.proofs.Common.{◌≡◌, ◌≢◌, ◌⊎◌, ◌<◌, ◌≤◌, ◌+◌, ◌-◌, ◌&&◌, ◌++◌, ℕ, Bool, true, false, if◌then◌else◌, Option, None, Some, List, length, inl, inr, refl, sym, ap, ◌∙◌, subst, arith}
use Rattle.std.specs.Option.{option_map}
use Rattle.std.proofs.lemmas.Bool.{cases_Bool}
use Rattle.nc_native.specs.Native.{chunk_size}
use Rattle.nc_cloud.specs.Contents.{Contents, Grows, Rose}
use Rattle.nc_cloud.specs.Fleet.{got_count}
use Rattle.nc_cloud.specs.Rounds.{some_row}
use Rattle.nc_cloud.specs.declared.fleet.Fleet.{Ghosts as FleetGhosts}
use Rattle.nc_cloud.proofs.Counts.{rose_more}
use Rattle.nc_cloud.proofs.SomeRows.{some_same}
use Rattle.nc_meta.specs.declared.meta.Live.{Live}
use Rattle.nc_mix.specs.declared.pieces.Piece.{Piece}
use Rattle.nc_mix.specs.Decoding.{IsLong}
use Rattle.nc_settle.specs.MetaWrites.{named}
use Rattle.nc_state.specs.Clouds.{Clouds}
use Rattle.nc_download.specs.declared.short.How.{How}
use Rattle.nc_download.specs.declared.short.Why.{Why}
use Rattle.nc_download.specs.declared.short.Why.TheVariants.{Failed, Row}
use Rattle.nc_fetch.specs.declared.founds.Found.{Found}
use Rattle.nc_fetch.specs.declared.founds.Found.TheVariants.{Unasked, Good, Bad}
use Rattle.nc_fetch.specs.Asking.{GaveRow, RowIsAsked}
use Rattle.nc_download.specs.Clouds.{AreGoodRows, IsBadRow, IsFirstBad, IsGoodRow}
use Rattle.nc_fetch.specs.Founds.{found_at, is_asked, is_good, NamesGood}
use Rattle.nc_fetch.specs.Trying.{AddsPieces, ArePieces, IsTried, OnlyFoundFailed, Outcome, TriedBetween, TriesBatch}
use Rattle.nc_fetch.specs.Whys.{AreMarked, NamesFree, free, free_at, free_between, is_fine, piece_at, piece_of, why_at, why_of}
use Rattle.nc_fetch.proofs.Growing.{range_tells}
use Rattle.nc_fetch.proofs.SomeLists.{map_some, some_all_of, some_within}

-- ---- which clouds are tried

fine_is : (why : Option Why) → is_fine why ≡ true → why ≡ None
fine_is None e = refl
fine_is (Some why) e = absurd cc

and_false : (x : Bool) → (x && false) ≡ false
and_false true = refl
and_false false = refl

-- a cloud is tried, or not
pub tried_tells : (whys : List (Option Why)) (a b c : ℕ) → ((free_between whys a b c ≡ true) × IsTried whys a b c) ⊎ ((free_between whys a b c ≡ false) × (IsTried whys a b c → ⊥))
tried_tells whys a b c = elim (range_tells a b c) [
  | inl within ↦ elim (cases_Bool (is_fine (why_at whys c))) [
    | inl fine ↦ inl (ap (λ x. x && is_fine (why_at whys c)) within.0 ∙ fine, record { from = within.1; below = within.2; fine = fine_is (why_at whys c) fine })
    | inr bad ↦ inr (ap (λ x. x && is_fine (why_at whys c)) within.0 ∙ bad, λ is. let e : true ≡ false = sym (ap is_fine is.fine) ∙ bad in cc)
  ]
  | inr out ↦ inr (ap (λ x. x && is_fine (why_at whys c)) out.0, λ is. out.1 is.from is.below)
]

-- ---- what both rounds gave of a cloud

got_none : (before : ℕ) → got_count before 0 ≡ before
got_none before = omega arith

got_then : (before first more : ℕ) → first ≤ 2 → more ≤ 2 → before ≤ got_count before first → got_count (got_count before first) more ≡ got_count before (first + more)
got_then before first more low high grows = omega (arith, low, high, grows)

module _ {A : Type 0} (F : FleetGhosts A) (name : List ℕ) (m : Live) (old mid new : A) (same : F.clouds mid ≡ F.clouds old) (held : F.held mid ≡ F.held old)
    (grows : Grows (F.faults old) (F.faults mid)) (later : Grows (F.faults mid) (F.faults new)) where
  good_before : (c r : ℕ) (payload : List ℕ) → IsGoodRow (F.clouds mid) name m (F.held mid) c r payload → IsGoodRow (F.clouds old) name m (F.held old) c r payload
  good_before c r payload is = subst (λ (n : ℕ). IsGoodRow n name m (F.held old) c r payload) same (subst (λ (G : Contents). IsGoodRow (F.clouds mid) name m G c r payload) held is)

  bad_before : (c r : ℕ) (how : How) → IsBadRow (F.clouds mid) name m (F.held mid) c r how → IsBadRow (F.clouds old) name m (F.held old) c r how
  bad_before c r how is = subst (λ (n : ℕ). IsBadRow n name m (F.held old) c r how) same (subst (λ (G : Contents). IsBadRow (F.clouds mid) name m G c r how) held is)

  rose_early : (c : ℕ) → Rose (F.faults old c) (F.faults mid c) → Rose (F.faults old c) (F.faults new c)
  rose_early c rose = let high : F.faults mid c ≤ F.faults new c = later c in omega (arith, rose, high)

  rose_late : (c : ℕ) → Rose (F.faults mid c) (F.faults new c) → Rose (F.faults old c) (F.faults new c)
  rose_late c rose = rose_more (F.faults old c) (F.faults mid c) (F.faults new c) (grows c) rose

  unasked : (c : ℕ) (one : Found) → is_asked one ≡ false → GaveRow F name m 1 mid new c one → F.chunk_gets new c ≡ F.chunk_gets mid c
  unasked c Unasked out gave = gave
  unasked c (Good payload) out gave = absurd cc
  unasked c (Bad why) out gave = absurd cc

  first_bad : (c q : ℕ) (how : How) → q ≡ 0 → IsBadRow (F.clouds old) name m (F.held old) c 0 how → IsFirstBad (F.clouds old) name m (F.held old) c q how
  first_bad c q how is here =
      subst (λ (r : ℕ). IsFirstBad (F.clouds old) name m (F.held old) c r how) (sym is) (record { pair = omega arith; before = λ r l. absurd (omega (arith, l)); here = here })

  next_bad : (c q : ℕ) (how : How) (zero : List ℕ) → q ≡ 1 → IsGoodRow (F.clouds old) name m (F.held old) c 0 zero → IsBadRow (F.clouds old) name m (F.held old) c 1 how → IsFirstBad (F.clouds old) name m (F.held old) c q how
  next_bad c q how zero is good here =
      subst (λ (r : ℕ). IsFirstBad (F.clouds old) name m (F.held old) c r how) (sym is)
      (record { pair = omega arith; before = λ r l. let none : 0 ≡ r = omega (arith, l) in (zero, subst (λ (k : ℕ). IsGoodRow (F.clouds old) name m (F.held old) c k zero) none good); here = here })

  first_more : (c given : ℕ) → given ≤ 1 → F.chunk_gets mid c ≡ got_count (F.chunk_gets old c) 1 → F.chunk_gets new c ≡ got_count (F.chunk_gets mid c) given → F.chunk_gets new c ≡ got_count (F.chunk_gets old c) (1 + given)
  first_more c given few first next =
      next ∙ ap (λ k. got_count k given) first ∙ got_then (F.chunk_gets old c) 1 given (omega arith) (omega (arith, few)) (omega arith)

  -- the outcome of a cloud that was tried
  outcome : (c : ℕ) (zero one : Found) → GaveRow F name m 0 old mid c zero → GaveRow F name m 1 mid new c one → is_asked zero ≡ true → is_asked one ≡ is_good zero → Outcome F name m old new c (why_of zero one None)
  outcome c Unasked one first second asked next = absurd cc
  outcome c (Bad Failed) one first second asked next =
      (rose_early c first.0, record { given = 0; few = omega arith; is = unasked c one next second ∙ first.1 ∙ sym (got_none (F.chunk_gets old c)) })
  outcome c (Bad (Row q how)) one first second asked next =
      let e : q ≡ 0 = first.0 in (
        λ told. first_bad c q how first.0 (first.1 told),
        record { given = first.2.given; few = omega (arith, first.2.few, e); is = unasked c one next second ∙ first.2.is },
      )
  outcome c (Good zero) Unasked first second asked next = absurd cc
  outcome c (Good zero) (Bad Failed) first second asked next =
      (rose_late c second.0, record { given = 1; few = omega arith; is = second.1 ∙ first.gave })
  outcome c (Good zero) (Bad (Row q how)) first second asked next =
      let e : q ≡ 1 = second.0 in (
        λ told. next_bad c q how zero second.0 (first.good told) (bad_before c 1 how (second.1 told)),
        record { given = 1 + second.2.given; few = omega (arith, second.2.few, e); is = first_more c second.2.given second.2.few first.gave second.2.is },
      )
  outcome c (Good zero) (Good one) first second asked next =
      (λ told. record { zero = zero; one = one; rows = record { first = first.good told; second = good_before c 1 one (second.good told) } }, first_more c 1 (omega arith) first.gave second.gave)

  -- both chunks of a cloud that came
  piece_good : (c : ℕ) (zero one : Found) (p : Piece) → GaveRow F name m 0 old mid c zero → GaveRow F name m 1 mid new c one → piece_of c zero one ≡ Some p
      → IsLong (chunk_size m.len (F.clouds old)) p × (F.tells → AreGoodRows (F.clouds old) name m (F.held old) p.cloud p.zero p.one)
  piece_good c Unasked one p first second is = absurd cc
  piece_good c (Bad bad) one p first second is = absurd cc
  piece_good c (Good zero) Unasked p first second is = absurd cc
  piece_good c (Good zero) (Bad bad) p first second is = absurd cc
  piece_good c (Good zero) (Good one) p first second is =
      let piece : Piece = record { cloud = c; zero = zero; one = one } in
      let e : piece ≡ p = cc in
      subst (λ (x : Piece). IsLong (chunk_size m.len (F.clouds old)) x × (F.tells → AreGoodRows (F.clouds old) name m (F.held old) x.cloud x.zero x.one)) e
      (record { zero = first.long; one = second.long ∙ ap (λ n. chunk_size m.len n) same }, λ told. record { first = first.good told; second = good_before c 1 one (second.good told) })

  -- a cloud that wasn't tried
  why_stays : (zero one : Found) (why : Option Why) → is_asked zero ≡ false → why_of zero one why ≡ why
  why_stays Unasked one why out = refl
  why_stays (Good payload) one why out = absurd cc
  why_stays (Bad bad) one why out = absurd cc

  gets_stay : (c : ℕ) (zero one : Found) → GaveRow F name m 0 old mid c zero → GaveRow F name m 1 mid new c one → is_asked zero ≡ false → is_asked one ≡ is_good zero → F.chunk_gets new c ≡ F.chunk_gets old c
  gets_stay c Unasked one first second out next = unasked c one next second ∙ first
  gets_stay c (Good payload) one first second out next = absurd cc
  gets_stay c (Bad bad) one first second out next = absurd cc

  -- a cloud that isn't told to have failed failed in neither round
  zero_fine : (zero one : Found) (why : Option Why) → why_of zero one why ≢ Some Failed → zero ≢ Bad Failed
  zero_fine zero one why fine e = fine (ap (λ z. why_of z one why) e)

  one_fine : (zero one : Found) (why : Option Why) → is_asked one ≡ is_good zero → why_of zero one why ≢ Some Failed → one ≢ Bad Failed
  one_fine Unasked one why next fine e = let no : true ≡ false = sym (ap is_asked e) ∙ next in cc
  one_fine (Bad bad) one why next fine e = let no : true ≡ false = sym (ap is_asked e) ∙ next in cc
  one_fine (Good zero) one why next fine e = fine (ap (λ o. why_of (Good zero) o why) e)

  -- whether a cloud's chunks came is whether it isn't found bad
  cloud_of : (c : ℕ) (zero one : Found) (why : Option Why) → is_asked zero ≡ is_fine why → is_asked one ≡ is_good zero
      → option_map (λ (p : Piece). p.cloud) (piece_of c zero one) ≡ (if is_fine (why_of zero one why) then Some c else None)
  cloud_of c Unasked one why asked next = ap (λ (b : Bool). if b then Some c else None) asked
  cloud_of c (Bad bad) one why asked next = refl
  cloud_of c (Good zero) Unasked why asked next = absurd cc
  cloud_of c (Good zero) (Bad bad) why asked next = refl
  cloud_of c (Good zero) (Good one) why asked next = ap (λ (b : Bool). if b then Some c else None) asked

  no_piece : (c : ℕ) (zero one : Found) → is_asked zero ≡ false → piece_of c zero one ≡ None
  no_piece c Unasked one out = refl
  no_piece c (Good payload) one out = absurd cc
  no_piece c (Bad bad) one out = absurd cc

  -- ---- all clouds

  module _ (a b : ℕ) (before now : List (Option Why)) (zeros ones : List Found) (P Q : Clouds) (first : RowIsAsked F name m 0 P old mid zeros) (second : RowIsAsked F name m 1 Q mid new ones)
      (free_is : (c : ℕ) → c < F.clouds old → P c ≡ free_between before a b c) (good_is : (c : ℕ) → c < F.clouds old → Q c ≡ is_good (found_at zeros c))
      (marked : (c : ℕ) → c < F.clouds old → why_at now c ≡ why_of (found_at zeros c) (found_at ones c) (why_at before c)) where
    at_mid : (c : ℕ) → c < F.clouds old → c < F.clouds mid
    at_mid c l = omega (arith, l, same)

    asked_first : (c : ℕ) → c < F.clouds old → is_asked (found_at zeros c) ≡ free_between before a b c
    asked_first c l = first.asked c l ∙ free_is c l

    asked_next : (c : ℕ) → c < F.clouds old → is_asked (found_at ones c) ≡ is_good (found_at zeros c)
    asked_next c l = second.asked c (at_mid c l) ∙ good_is c l

    untried : (c : ℕ) → (IsTried before a b c → ⊥) → free_between before a b c ≡ false
    untried c out = elim (tried_tells before a b c) [
      | inl is ↦ absurd (out is.1)
      | inr is ↦ is.0
    ]

    is_free : (c : ℕ) → IsTried before a b c → free_between before a b c ≡ true
    is_free c tried = elim (tried_tells before a b c) [
      | inl is ↦ is.0
      | inr is ↦ absurd (is.1 tried)
    ]

    pub tried_between : TriedBetween F name m old new a b before now
    tried_between = record {
      tried = λ c l is.
          let none : why_of (found_at zeros c) (found_at ones c) (why_at before c) ≡ why_of (found_at zeros c) (found_at ones c) None = ap (why_of (found_at zeros c) (found_at ones c)) is.fine in
          subst (Outcome F name m old new c) (sym (marked c l ∙ none))
          (outcome c (found_at zeros c) (found_at ones c) (first.each c l) (second.each c (at_mid c l)) (asked_first c l ∙ is_free c is) (asked_next c l));
      same = λ c l out. marked c l ∙ why_stays (found_at zeros c) (found_at ones c) (why_at before c) (asked_first c l ∙ untried c out);
      unread = λ c l out. gets_stay c (found_at zeros c) (found_at ones c) (first.each c l) (second.each c (at_mid c l)) (asked_first c l ∙ untried c out) (asked_next c l);
    }

    pub only_found_failed : F.counts_exactly → OnlyFoundFailed F old new now
    only_found_failed exact = record {
      each = λ c l fine.
          let told : why_of (found_at zeros c) (found_at ones c) (why_at before c) ≢ Some Failed = λ e. fine (marked c l ∙ e) in
          second.alone exact c (at_mid c l) (one_fine (found_at zeros c) (found_at ones c) (why_at before c) (asked_next c l) told)
          ∙ first.alone exact c l (zero_fine (found_at zeros c) (found_at ones c) (why_at before c) told);
    }

    -- in the range
    asked_within : (c : ℕ) → c < F.clouds old → a ≤ c → c < b → is_asked (found_at zeros c) ≡ is_fine (why_at before c)
    asked_within c l low high = elim (range_tells a b c) [
      | inl within ↦ asked_first c l ∙ ap (λ x. x && is_fine (why_at before c)) within.0
      | inr out ↦ absurd (out.1 low high)
    ]

    asked_outside : (c : ℕ) → c < F.clouds old → (a ≤ c → c < b → ⊥) → is_asked (found_at zeros c) ≡ false
    asked_outside c l out = asked_first c l ∙ untried c (λ is. out is.from is.below)

    pub are_pieces : a ≤ b → b ≤ F.clouds old → ArePieces F name m old (free now a b) (some_row (piece_at zeros ones) 0 (F.clouds old))
    are_pieces low high = record {
      of_clouds =
          map_some (λ (p : Piece). p.cloud) (piece_at zeros ones) 0 (F.clouds old)
          ∙ some_within (λ c. option_map (λ (p : Piece). p.cloud) (piece_at zeros ones c)) a b (F.clouds old) low high
          (λ c l. ap (option_map (λ (p : Piece). p.cloud)) (no_piece c (found_at zeros c) (found_at ones c) (asked_outside c (omega (arith, l, low, high)) (λ x y. omega (arith, l, x)))))
          (λ c l m. ap (option_map (λ (p : Piece). p.cloud)) (no_piece c (found_at zeros c) (found_at ones c) (asked_outside c m (λ x y. omega (arith, l, y)))))
          ∙ some_same (λ c. option_map (λ (p : Piece). p.cloud) (piece_at zeros ones c)) (free_at now) a (b - a) (λ c l m.
          let within : c < b = omega (arith, m, low) in
          let below : c < F.clouds old = omega (arith, within, high) in
          cloud_of c (found_at zeros c) (found_at ones c) (why_at before c) (asked_within c below l within) (asked_next c below)
          ∙ ap (λ (w : Option Why). if is_fine w then Some c else None) (sym (marked c below)));
      long = some_all_of (IsLong (chunk_size m.len (F.clouds old))) (piece_at zeros ones) 0 (F.clouds old) (λ c p l m is.
          let below : c < F.clouds old = omega (arith, m) in (piece_good c (found_at zeros c) (found_at ones c) p (first.each c below) (second.each c (at_mid c below)) is).0);
      good = λ told. some_all_of (λ (p : Piece). AreGoodRows (F.clouds old) name m (F.held old) p.cloud p.zero p.one) (piece_at zeros ones) 0 (F.clouds old) (λ c p l m is.
          let below : c < F.clouds old = omega (arith, m) in (piece_good c (found_at zeros c) (found_at ones c) p (first.each c below) (second.each c (at_mid c below)) is).1 told);
    }

-- ---- a batch

module _ {A : Type 0} (F : FleetGhosts A) (name : List ℕ) (m : Live) (old mid new : A) (same : F.clouds mid ≡ F.clouds old) (held : F.held mid ≡ F.held old)
    (grows : Grows (F.faults old) (F.faults mid)) (later : Grows (F.faults mid) (F.faults new))
    (a b w : ℕ) (before now : List (Option Why)) (zeros ones : List Found) (on good : List Bool) (width : w ≡ F.clouds old)
    (first : RowIsAsked F name m 0 (named on) old mid zeros) (second : RowIsAsked F name m 1 (named good) mid new ones)
    (names : NamesFree before a b w on) (goods : NamesGood zeros (length zeros) good) (marked : AreMarked zeros ones (length zeros) before now) where
  free_is : (c : ℕ) → c < F.clouds old → named on c ≡ free_between before a b c
  free_is c l = names.each c (omega (arith, l, width))

  good_is : (c : ℕ) → c < F.clouds old → named good c ≡ is_good (found_at zeros c)
  good_is c l = goods.each c (omega (arith, l, first.long))

  marked_is : (c : ℕ) → c < F.clouds old → why_at now c ≡ why_of (found_at zeros c) (found_at ones c) (why_at before c)
  marked_is c l = marked.each c (omega (arith, l, first.long))

  adds_pieces : a ≤ b → b ≤ F.clouds old → (pieces next : List Piece) → next ≡ pieces ++ some_row (piece_at zeros ones) 0 w → AddsPieces F name m old (free now a b) pieces next
  adds_pieces low high pieces next added = record {
    more = some_row (piece_at zeros ones) 0 (F.clouds old);
    are = are_pieces F name m old mid new same held grows later a b before now zeros ones (named on) (named good) first second free_is good_is marked_is low high;
    added = added ∙ ap (λ k. pieces ++ some_row (piece_at zeros ones) 0 k) width;
  }

  pub tries_batch : a ≤ b → b ≤ F.clouds old → (pieces next : List Piece) → next ≡ pieces ++ some_row (piece_at zeros ones) 0 w → TriesBatch F name m old new a b before now pieces next
  tries_batch low high pieces next added = record {
    tried = tried_between F name m old mid new same held grows later a b before now zeros ones (named on) (named good) first second free_is good_is marked_is;
    alone = only_found_failed F name m old mid new same held grows later a b before now zeros ones (named on) (named good) first second free_is good_is marked_is;
    serve = adds_pieces low high pieces next added;
  }
