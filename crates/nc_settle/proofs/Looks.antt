-- What follows for a look.
use Rattle.std.proofs.Common.{ℕ, suc, ◌≡◌, ◌≢◌, ◌+◌, ◌<◌, ◌&&◌, Bool, true, false, None, Some, List, [], ◌∷◌, All, length, map, get_or, replicate, inl, inr, sym, ap, ◌∙◌, subst, refl, arith, nat_eq, if◌then◌else◌}
use Rattle.std.proofs.lemmas.Bool.{cases_lt}
use Rattle.std.proofs.lemmas.List.{get_or-replicate, get_or_past}
use Rattle.nc_name.specs.declared.key.Key.{Key}
use Rattle.nc_name.specs.declared.key.Key.TheVariants.{Meta}
use Rattle.nc_cloud.specs.declared.fleet.Ask.{Ask}
use Rattle.nc_cloud.specs.declared.fleet.Answer.TheVariants as answer
use Rattle.nc_cloud.specs.Contents.{Contents, Rose}
use Rattle.nc_cloud.specs.Deciding.{AreAscending}
use Rattle.nc_cloud.specs.Fleet.{asked, chunks_got, got_count, is_chunk, is_bytes, Answers, Shows}
use Rattle.nc_cloud.specs.Rounds.{some_row}
use Rattle.nc_cloud.proofs.Decisions.{once}
use Rattle.nc_cloud.proofs.SomeRows.{ascend_some, entry_is, has_entry}
use Rattle.nc_state.specs.Clouds.{Clouds}
use Rattle.nc_settle.specs.declared.place.Place.{Place}
use Rattle.nc_settle.specs.declared.place.Place.TheVariants.{Absent}
use Rattle.nc_settle.specs.Judging.{HasMetaOf, IsPlaceOf}
use Rattle.nc_settle.specs.Rounds.{AreJudged, IsJudged, IsUnasked, meta_ask, meta_ask_outside}
use Rattle.nc_settle.specs.Looking.{SeesSlot, FailuresRose, HasMetasIn, OnlyFailuresRoseIn, OthersRose, OthersRoseIn, SkipsFailedIn}
use Rattle.nc_settle.specs.MetaWrites.{named}
use Rattle.nc_settle.specs.Views.{Places}

-- a list that has elements has one
some_of : {A : Type 0} (xs : List A) → 0 < length xs → A
some_of [] l = absurd (omega arith)
some_of (x ∷ xs) l = x

-- an element at some place
at_some : {A : Type 0} (xs : List A) (i : ℕ) → i < length xs → A
at_some xs i l = some_of xs (omega (arith, l))

zero_more : {m : ℕ} → m ≡ 0 → 0 + m ≡ 0
zero_more e = omega (arith, e)

and_none : (b : Bool) → (b && false) ≡ false
and_none true = refl
and_none false = refl

-- asks for metadata give no chunks
no_chunks_in : (c : ℕ) (asks : List Ask) → All (λ a. is_chunk a.key ≡ false) asks → chunks_got c asks ≡ 0
no_chunks_in c [] all_metas = refl
no_chunks_in c (a ∷ asks) all_metas =
    let rest : chunks_got c asks ≡ 0 = no_chunks_in c asks (λ k d l. all_metas (suc k) d (omega arith)) in
    let here : is_chunk a.key ≡ false = all_metas 0 a (omega arith) in
    let none : (nat_eq a.cloud c && (is_chunk a.key && is_bytes a.answer)) ≡ false = ap (λ b. nat_eq a.cloud c && (b && is_bytes a.answer)) here ∙ and_none (nat_eq a.cloud c) in
    ap (λ (b : Bool). (if b then 1 else 0) + chunks_got c asks) none ∙ zero_more rest

module _ (name : List ℕ) (slot : ℕ) (P : Clouds) where
  asks_by : (b : Bool) (c : ℕ) (x : ℕ × Key × ℕ) → (if b then None else Some (meta_ask name slot c)) ≡ Some x → (meta_ask name slot c ≡ x) × (b ≡ false)
  asks_by true c x e = absurd cc
  asks_by false c x e = (cc, refl)

  -- what a cloud is asked for, where it is asked
  ask_is : (c : ℕ) (x : ℕ × Key × ℕ) → meta_ask_outside name slot P c ≡ Some x → (meta_ask name slot c ≡ x) × (P c ≡ false)
  ask_is c x e = asks_by (P c) c x e

  pub ask_cloud : (c : ℕ) (x : ℕ × Key × ℕ) → meta_ask_outside name slot P c ≡ Some x → x.0 ≡ c
  ask_cloud c x e = sym (ap (λ (y : ℕ × Key × ℕ). y.0) (ask_is c x e).0)

  asked_outside : (c : ℕ) → P c ≡ false → meta_ask_outside name slot P c ≡ Some (meta_ask name slot c)
  asked_outside c out = ap (λ (b : Bool). if b then None else Some (meta_ask name slot c)) out

  -- a round that asks the clouds outside P
  module _ (n : ℕ) (asks : List Ask) (all : map asked asks ≡ some_row (meta_ask_outside name slot P) 0 n) where
    pub asks_ascend : AreAscending (λ a. a.cloud) n asks
    asks_ascend = ascend_some (λ (x : ℕ × Key × ℕ). x.0) (meta_ask_outside name slot P) ask_cloud asked n asks all

    -- what an entry asks for
    entry_asks : (k : ℕ) (d : Ask) → k < length asks → (meta_ask name slot (get_or asks k d).cloud ≡ asked (get_or asks k d)) × (P (get_or asks k d).cloud ≡ false)
    entry_asks k d l = ask_is (get_or asks k d).cloud (asked (get_or asks k d)) (entry_is (λ (x : ℕ × Key × ℕ). x.0) (meta_ask_outside name slot P) ask_cloud asked n asks all k d l)

    -- a cloud outside P has an entry
    not_unasked : (c : ℕ) (p : Place) → c < n → P c ≡ false → IsUnasked c asks p → ⊥
    not_unasked c p l out unasked =
        let there = has_entry (λ (x : ℕ × Key × ℕ). x.0) (meta_ask_outside name slot P) ask_cloud asked n asks all c (meta_ask name slot c) l (asked_outside c out) in
        let d : Ask = at_some asks there.0 there.1 in
        unasked.no_entry there.0 d there.1 (ap (λ (x : ℕ × Key × ℕ). x.0) (there.2 d))

    -- asks for metadata give no chunks
    pub no_chunks : (c before now : ℕ) → now ≡ got_count before (chunks_got c asks) → now ≡ before
    no_chunks c before now is =
        let none : chunks_got c asks ≡ 0 = no_chunks_in c asks (λ k d l. ap (λ (p : ℕ × Key × ℕ). is_chunk p.1) (sym (entry_asks k d l).0)) in
        let stays : got_count before 0 ≡ before = omega arith in
        is ∙ ap (got_count before) none ∙ stays

    -- no count of a cloud of P rises
    pub spared : (before now : ℕ → ℕ) → ((c : ℕ) → All (λ a. a.cloud ≡ c → a.answer ≢ answer.Failed) asks → now c ≡ before c) → (c : ℕ) → P c ≡ true → now c ≡ before c
    spared before now counts c within = counts c (λ k d m same failed. let out : P c ≡ false = subst (λ (j : ℕ). P j ≡ false) same (entry_asks k d m).1 in cc)

    -- the places that follow from it
    module _ (w : ℕ) (is_width : w ≡ n) (places : List Place) (judged : AreJudged w name slot w asks places) where
      pub places_count : length places ≡ n
      places_count = judged.count ∙ is_width

      sees_at : (F : Contents) → All (λ a. Answers a (F a.cloud a.key)) asks → (c : ℕ) (p : Place) → IsJudged w name slot c asks p → IsPlaceOf w name c slot (F c (Meta name slot)) p
      sees_at F told c p j =
          let d : Ask = at_some asks j.entry j.within in
          let a : Ask = get_or asks j.entry d in
          let Of : ℕ × Key × ℕ → Type 0 = λ x. Shows a.answer x.2 (F x.0 x.1) in
          let here : Of (meta_ask name slot a.cloud) = subst Of (sym (entry_asks j.entry d j.within).0) (told j.entry d j.within) in
          (j.follows d).told (F c (Meta name slot)) (subst (λ (k : ℕ). Of (meta_ask name slot k)) (j.of_cloud d) here)

      pub sees : (F : Contents) → All (λ a. Answers a (F a.cloud a.key)) asks → SeesSlot n name slot F places
      sees F told = record {
        each = λ c l.
            subst (λ (v : ℕ). IsPlaceOf v name c slot (F c (Meta name slot)) (get_or places c Absent)) is_width
            (elim (judged.each c Absent (omega (arith, is_width))) [
              | inl j ↦ sees_at F told c (get_or places c Absent) j
              | inr u ↦ subst (λ (p : Place). IsPlaceOf w name c slot (F c (Meta name slot)) p) (sym u.failed) tt
            ]);
      }

      pub metas : HasMetasIn n slot places
      metas = record {
        each = λ c l.
            subst (λ (v : ℕ). HasMetaOf v slot (get_or places c Absent)) is_width
            (elim (judged.each c Absent (omega (arith, is_width))) [
              | inl j ↦ (j.follows (at_some asks j.entry j.within)).meta
              | inr u ↦ subst (λ (p : Place). HasMetaOf w slot p) (sym u.failed) tt
            ]);
      }

      pub skipped : SkipsFailedIn n P places
      skipped = record {
        each = λ c l within.
            elim (judged.each c Absent (omega (arith, is_width))) [
              | inl j ↦
                  let d : Ask = at_some asks j.entry j.within in
                  let out : P c ≡ false = subst (λ (k : ℕ). P k ≡ false) (j.of_cloud d) (entry_asks j.entry d j.within).1 in
                  absurd cc
              | inr u ↦ u.failed
            ];
      }

      pub failures : (before now : ℕ → ℕ) → All (λ a. a.answer ≡ answer.Failed → Rose (before a.cloud) (now a.cloud)) asks → OthersRoseIn n P before now places
      failures before now rose = record {
        each = λ c l out e.
            elim (judged.each c Absent (omega (arith, is_width))) [
              | inl j ↦
                  let d : Ask = at_some asks j.entry j.within in
                  subst (λ (k : ℕ). Rose (before k) (now k)) (j.of_cloud d) (rose j.entry d j.within ((j.follows d).failed e))
              | inr u ↦ absurd (not_unasked c (get_or places c Absent) l out u)
            ];
      }

      -- an entry of a cloud is the one that was judged
      same_entry : (c : ℕ) (p : Place) (j : IsJudged w name slot c asks p) (k : ℕ) (d : Ask) → k < length asks → (get_or asks k d).cloud ≡ c → k ≡ j.entry
      same_entry c p j k d l is =
          elim (cases_lt k j.entry) [
            | inl lower ↦ absurd (once (λ (a : Ask). a.cloud) n asks asks_ascend k j.entry d lower j.within (is ∙ sym (j.of_cloud d)))
            | inr upper ↦
                elim (cases_lt j.entry k) [
                  | inl higher ↦ absurd (once (λ (a : Ask). a.cloud) n asks asks_ascend j.entry k d higher l (j.of_cloud d ∙ sym is))
                  | inr level ↦ omega (arith, upper, level)
                ]
          ]

      pub only_failures : (before now : ℕ → ℕ) → ((c : ℕ) → All (λ a. a.cloud ≡ c → a.answer ≢ answer.Failed) asks → now c ≡ before c) → OnlyFailuresRoseIn before now places
      only_failures before now counts = record {
        each = λ c fine. counts c (λ k d m same failed.
            let low : (get_or asks k d).cloud < n = asks_ascend.below k d m in
            let within : c < w = omega (arith, same, low, is_width) in
            elim (judged.each c Absent within) [
              | inl j ↦
                  let here : k ≡ j.entry = same_entry c (get_or places c Absent) j k d m same in
                  fine ((j.follows d).failing (subst (λ (i : ℕ). (get_or asks i d).answer ≡ answer.Failed) here failed))
              | inr u ↦ fine u.failed
            ]);
      }

-- where no cloud is skipped
none_named : (c : ℕ) → named (replicate 10 false) c ≡ false
none_named c = elim (cases_lt c 10) [
  | inl low ↦ get_or-replicate 10 c false false low
  | inr high ↦ get_or_past (replicate 10 false) c false high
]

pub all_rose : (n : ℕ) (before now : ℕ → ℕ) (v : Places) → OthersRose n (named (replicate 10 false)) before now v → FailuresRose n before now v
all_rose n before now v others = record { each = λ c slot l low e. others.each c slot l low (none_named c) e }
