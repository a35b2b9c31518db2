-- Batches of clouds, one after the other.
use Rattle.std.proofs.Common.{◌≡◌, ◌≢◌, ◌<◌, ◌≤◌, ◌+◌, ◌-◌, ◌++◌, ℕ, if◌then◌else◌, Option, None, Some, List, [], map, length, length-append, All, inl, inr, refl, sym, ap, ◌∙◌, subst, arith}
use Rattle.std.proofs.lemmas.Bool.{cases_lt}
use Rattle.std.proofs.lemmas.List.{length-map, map-append}
use Rattle.std.proofs.lemmas.List.Elements.{All-append}
use Rattle.nc_native.specs.Native.{chunk_size}
use Rattle.nc_cloud.specs.Contents.{Contents, Grows}
use Rattle.nc_cloud.specs.Deciding.{OnlyLooked}
use Rattle.nc_cloud.specs.Fleet.{got_count}
use Rattle.nc_cloud.specs.Stopping.{Stops}
use Rattle.nc_cloud.specs.declared.fleet.Fleet.{Ghosts as FleetGhosts}
use Rattle.nc_cloud.proofs.Counts.{rose_more}
use Rattle.nc_cloud.proofs.SomeRows.{some_same}
use Rattle.nc_cloud.proofs.Time.{stops_none, stops_twice}
use Rattle.nc_meta.specs.declared.meta.Live.{Live}
use Rattle.nc_mix.specs.declared.pieces.Piece.{Piece}
use Rattle.nc_mix.specs.Decoding.{IsLong}
use Rattle.nc_download.specs.declared.short.Why.{Why}
use Rattle.nc_download.specs.declared.short.Why.TheVariants.{Failed, Row}
use Rattle.nc_download.specs.Clouds.{AreGoodRows, IsFirstBad, IsGoodCloud}
use Rattle.nc_fetch.specs.Trying.{AddsPieces, ArePieces, HasTried, IsTried, IsWhy, OnlyFoundFailed, Outcome, TriedBetween, TriesBatch}
use Rattle.nc_fetch.specs.Whys.{free, free_at, is_fine, why_at}
use Rattle.nc_download.proofs.ListLaws.{looked_then}
use Rattle.nc_fetch.proofs.SomeLists.{some_fewer, some_join}

module _ {A : Type 0} (F : FleetGhosts A) (name : List ℕ) (m : Live) (old mid new : A) (same : F.clouds mid ≡ F.clouds old) (held : F.held mid ≡ F.held old)
    (grows : Grows (F.faults old) (F.faults mid)) (later : Grows (F.faults mid) (F.faults new)) where
  at_mid : (c : ℕ) → c < F.clouds old → c < F.clouds mid
  at_mid c l = omega (arith, l, same)

  why_later : (c : ℕ) (why : Why) → IsWhy F name m old mid c why → IsWhy F name m old new c why
  why_later c Failed rose = let high : F.faults mid c ≤ F.faults new c = later c in omega (arith, rose, high)
  why_later c (Row r how) is = is

  why_early : (c : ℕ) (why : Why) → IsWhy F name m mid new c why → IsWhy F name m old new c why
  why_early c Failed rose = rose_more (F.faults old c) (F.faults mid c) (F.faults new c) (grows c) rose
  why_early c (Row r how) is = λ told. subst (λ (n : ℕ). IsFirstBad n name m (F.held old) c r how) same (subst (λ (G : Contents). IsFirstBad (F.clouds mid) name m G c r how) held (is told))

  -- nothing was asked of the cloud afterwards
  outcome_later : (c : ℕ) (why : Option Why) → F.chunk_gets new c ≡ F.chunk_gets mid c → Outcome F name m old mid c why → Outcome F name m old new c why
  outcome_later c None stays is = (is.0, stays ∙ is.1)
  outcome_later c (Some why) stays is = (why_later c why is.0, record { given = is.1.given; few = is.1.few; is = stays ∙ is.1.is })

  -- nothing was asked of it before
  outcome_early : (c : ℕ) (why : Option Why) → F.chunk_gets mid c ≡ F.chunk_gets old c → Outcome F name m mid new c why → Outcome F name m old new c why
  outcome_early c None stays is = (
    λ told. subst (λ (n : ℕ). IsGoodCloud n name m (F.held old) c) same (subst (λ (G : Contents). IsGoodCloud (F.clouds mid) name m G c) held (is.0 told)),
    is.1 ∙ ap (λ k. got_count k 2) stays,
  )
  outcome_early c (Some why) stays is = (why_early c why is.0, record { given = is.1.given; few = is.1.few; is = is.1.is ∙ ap (λ k. got_count k is.1.given) stays })

  module _ (a b : ℕ) (low : a ≤ b) (before half now : List (Option Why)) (first : TriedBetween F name m old mid 0 a before half) (second : TriedBetween F name m mid new a b half now) where
    not_first : (c : ℕ) → a ≤ c → IsTried before 0 a c → ⊥
    not_first c high is = omega (arith, high, is.below)

    not_second : (c : ℕ) → c < a → IsTried half a b c → ⊥
    not_second c l is = omega (arith, l, is.from)

    -- tried from 0 to a, and then from a to b, is tried from 0 to b
    pub tried_then : TriedBetween F name m old new 0 b before now
    tried_then = record {
      tried = λ c l is. elim (cases_lt c a) [
        | inl early ↦
            let no : IsTried half a b c → ⊥ = not_second c early in
            subst (Outcome F name m old new c) (sym (second.same c (at_mid c l) no))
            (outcome_later c (why_at half c) (second.unread c (at_mid c l) no) (first.tried c l (record { from = omega arith; below = early; fine = is.fine })))
        | inr late ↦
            let no : IsTried before 0 a c → ⊥ = not_first c late in
            outcome_early c (why_at now c) (first.unread c l no) (second.tried c (at_mid c l) (record { from = late; below = is.below; fine = first.same c l no ∙ is.fine }))
      ];
      same = λ c l out. elim (cases_lt c a) [
        | inl early ↦ second.same c (at_mid c l) (not_second c early) ∙ first.same c l (λ is. out (record { from = omega arith; below = omega (arith, is.below, low); fine = is.fine }))
        | inr late ↦
            let no : IsTried before 0 a c → ⊥ = not_first c late in
            second.same c (at_mid c l) (λ is. out (record { from = omega arith; below = is.below; fine = sym (first.same c l no) ∙ is.fine })) ∙ first.same c l no
      ];
      unread = λ c l out. elim (cases_lt c a) [
        | inl early ↦ second.unread c (at_mid c l) (not_second c early) ∙ first.unread c l (λ is. out (record { from = omega arith; below = omega (arith, is.below, low); fine = is.fine }))
        | inr late ↦
            let no : IsTried before 0 a c → ⊥ = not_first c late in
            second.unread c (at_mid c l) (λ is. out (record { from = omega arith; below = is.below; fine = sym (first.same c l no) ∙ is.fine })) ∙ first.unread c l no
      ];
    }

    -- what was found stays found: a cloud that isn't told to have failed failed in neither part
    half_fine : (c : ℕ) → c < F.clouds old → why_at now c ≢ Some Failed → why_at half c ≢ Some Failed
    half_fine c l fine e =
        let bad : IsTried half a b c → ⊥ = λ is. let no : None ≡ Some Failed = sym is.fine ∙ e in cc in
        fine (second.same c (at_mid c l) bad ∙ e)

    pub alone_then : OnlyFoundFailed F old mid half → OnlyFoundFailed F mid new now → OnlyFoundFailed F old new now
    alone_then one two = record { each = λ c l fine. two.each c (at_mid c l) fine ∙ one.each c l (half_fine c l fine) }

    free_before : b ≤ F.clouds old → free now 0 a ≡ free half 0 a
    free_before high = some_same (free_at now) (free_at half) 0 (a - 0) (λ c l k.
        let early : c < a = omega (arith, k) in
        let within : c < F.clouds mid = omega (arith, early, low, high, same) in
        ap (λ (w : Option Why). if is_fine w then Some c else None) (second.same c within (not_second c early)))

    some_bad : (c : ℕ) (w : Option Why) → (if is_fine w then Some c else None) ≡ None → w ≢ None
    some_bad c None e is = absurd cc
    some_bad c (Some why) e is = cc

    free_fewer : (c : ℕ) → c ≤ b → b ≤ F.clouds old → length (free now a c) ≤ length (free half a c)
    free_fewer c below high = some_fewer (free_at half) (free_at now) a (c - a) (λ d l k none.
        let within : d < F.clouds mid = omega (arith, l, k, below, high, same) in
        let bad : IsTried half a b d → ⊥ = λ is. some_bad d (why_at half d) none is.fine in
        ap (λ (w : Option Why). if is_fine w then Some d else None) (second.same d within bad) ∙ none)

    free_both : (c : ℕ) → a ≤ c → b ≤ F.clouds old → free now 0 c ≡ free half 0 a ++ free now a c
    free_both c high within = some_join (free_at now) 0 a c (omega arith) high ∙ ap (λ xs. xs ++ free now a c) (free_before within)

    pub served_then : b ≤ F.clouds old → (pieces next : List Piece) → ArePieces F name m old (free half 0 a) pieces → AddsPieces F name m mid (free now a b) pieces next → ArePieces F name m old (free now 0 b) next
    served_then high pieces next are adds = record {
      of_clouds =
          ap (map (λ (p : Piece). p.cloud)) adds.added
          ∙ map-append (λ (p : Piece). p.cloud) pieces adds.more
          ∙ ap (λ xs. xs ++ map (λ (p : Piece). p.cloud) adds.more) are.of_clouds
          ∙ ap (λ xs. free half 0 a ++ xs) adds.are.of_clouds
          ∙ sym (free_both b low high);
      long =
          subst (All (IsLong (chunk_size m.len (F.clouds old)))) (sym adds.added)
          (All-append (IsLong (chunk_size m.len (F.clouds old))) pieces adds.more are.long (subst (λ (n : ℕ). All (IsLong (chunk_size m.len n)) adds.more) same adds.are.long));
      good = λ told.
          subst (All (λ (p : Piece). AreGoodRows (F.clouds old) name m (F.held old) p.cloud p.zero p.one)) (sym adds.added)
          (All-append (λ (p : Piece). AreGoodRows (F.clouds old) name m (F.held old) p.cloud p.zero p.one) pieces adds.more (are.good told)
          (subst (λ (n : ℕ). All (λ (p : Piece). AreGoodRows n name m (F.held old) p.cloud p.zero p.one) adds.more) same
          (subst (λ (G : Contents). All (λ (p : Piece). AreGoodRows (F.clouds mid) name m G p.cloud p.zero p.one) adds.more) held (adds.are.good told))));
    }

    length_of : (clouds : List ℕ) (pieces : List Piece) → map (λ (p : Piece). p.cloud) pieces ≡ clouds → length pieces ≡ length clouds
    length_of clouds pieces e = sym (length-map pieces (λ (p : Piece). p.cloud)) ∙ ap length e

    -- a batch more
    pub has_tried_then : b ≤ F.clouds old → (pieces next : List Piece) (wanted : ℕ) → wanted + length pieces + 2 ≡ F.clouds old → length (free half a b) ≤ wanted → ((c : ℕ) → c + 1 ≡ b → length (free half a c) < wanted) → a < b
        → ArePieces F name m old (free half 0 a) pieces → (F.counts_exactly → OnlyFoundFailed F old mid half) → (F.counts_exactly → OnlyFoundFailed F mid new now)
        → AddsPieces F name m mid (free now a b) pieces next → HasTried F name m old new before now b next
    has_tried_then high pieces next wanted count few needed more are one two adds =
        let before_is : length pieces ≡ length (free half 0 a) = length_of (free half 0 a) pieces are.of_clouds in
        let added_is : length adds.more ≡ length (free now a b) = length_of (free now a b) adds.more adds.are.of_clouds in
        let fewer : length (free now a b) ≤ length (free half a b) = free_fewer b (omega arith) high in
        let all_is : length next ≡ length pieces + length adds.more = ap length adds.added ∙ length-append pieces adds.more in
        record {
          within = high;
          tried = tried_then;
          alone = λ exact. alone_then (one exact) (two exact);
          serve = served_then high pieces next are adds;
          few = omega (arith, all_is, added_is, fewer, few, count);
          needed = λ c last.
              let from : a ≤ c = omega (arith, last, more) in
              let below : c ≤ b = omega (arith, last) in
              let both : length (free now 0 c) ≡ length (free half 0 a) + length (free now a c) = ap length (free_both c from high) ∙ length-append (free half 0 a) (free now a c) in
              let less : length (free half a c) < wanted = needed c last in
              let no_more : length (free now a c) ≤ length (free half a c) = free_fewer c below high in
              omega (arith, both, less, no_more, before_is, count);
        }

-- no cloud was tried yet
pub has_tried_none : {A : Type 0} (F : FleetGhosts A) (name : List ℕ) (m : Live) (old : A) (whys : List (Option Why)) (pieces : List Piece) → 4 ≤ F.clouds old → pieces ≡ [] → HasTried F name m old old whys whys 0 pieces
has_tried_none F name m old whys pieces wide none = subst (HasTried F name m old old whys whys 0) (sym none) (record {
  within = omega arith;
  tried = record {
    tried = λ c l is. absurd (omega (arith, is.below));
    same = λ c l out. refl;
    unread = λ c l out. refl;
  };
  alone = λ exact. record { each = λ c l fine. refl };
  serve = record { of_clouds = refl; long = λ k d l. absurd (omega (arith, l)); good = λ told k d l. absurd (omega (arith, l)) };
  few = omega (arith, wide);
  needed = λ c last. absurd (omega (arith, last));
})

-- so far, from old to now
pub record AreTried {A : Type 0} (F : FleetGhosts A) (name : List ℕ) (m : Live) (old now : A) (before whys : List (Option Why)) (at : ℕ) (pieces : List Piece) : Type 0 where
  pub has : HasTried F name m old now before whys at pieces
  pub looked : OnlyLooked F old now
  pub stops : Stops F old now (λ G. G ≡ F.held old)

pub are_tried_none : {A : Type 0} (F : FleetGhosts A) (name : List ℕ) (m : Live) (old : A) (whys : List (Option Why)) (pieces : List Piece) → 4 ≤ F.clouds old → pieces ≡ [] → AreTried F name m old old whys whys 0 pieces
are_tried_none F name m old whys pieces wide none = record {
  has = has_tried_none F name m old whys pieces wide none;
  looked = record { clouds = refl; held = refl; grows = λ c. omega arith; slips = refl };
  stops = stops_none old (λ G. G ≡ F.held old);
}

pub are_tried_then : {A : Type 0} (F : FleetGhosts A) (name : List ℕ) (m : Live) (old mid new : A) (before half now : List (Option Why)) (a b wanted : ℕ) (pieces next : List Piece)
    → AreTried F name m old mid before half a pieces → a < b → b ≤ F.clouds old → wanted + length pieces + 2 ≡ F.clouds old → length (free half a b) ≤ wanted → ((c : ℕ) → c + 1 ≡ b → length (free half a c) < wanted)
    → TriesBatch F name m mid new a b half now pieces next → OnlyLooked F mid new → Stops F mid new (λ G. G ≡ F.held mid)
    → AreTried F name m old new before now b next
are_tried_then F name m old mid new before half now a b wanted pieces next so_far more high count few needed tries looked stops = record {
  has =
      has_tried_then F name m old mid new so_far.looked.clouds so_far.looked.held so_far.looked.grows looked.grows a b (omega (arith, more)) before half now so_far.has.tried tries.tried
      high pieces next wanted count few needed more so_far.has.serve so_far.has.alone tries.alone tries.serve;
  looked = looked_then F old mid new so_far.looked looked;
  stops = stops_twice so_far.looked.held so_far.stops stops;
}
