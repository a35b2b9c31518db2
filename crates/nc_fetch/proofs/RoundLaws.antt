-- What a round of chunks gives of each cloud.
use Rattle.std.proofs.Common.{◌≡◌, ◌≢◌, ◌<◌, ◌+◌, ◌-◌, ◌++◌, ◌∷◌, ◌&&◌, ℕ, suc, Bool, true, false, if◌then◌else◌, Option, None, Some, List, [], option_to_list, map, length, get_or, remove, All, Contains, inl, inr, refl, sym, ap, ◌∙◌, subst, arith}
use Rattle.std.proofs.lemmas.Bool.{cases_lt}
use Rattle.std.proofs.lemmas.List.{get_or_default}
use Rattle.std.proofs.lemmas.List.Elements.{All-contains}
use Rattle.nc_name.specs.declared.key.Key.{Key}
use Rattle.nc_cloud.specs.declared.fleet.Ask.{Ask}
use Rattle.nc_cloud.specs.declared.fleet.Answer.TheVariants as answer
use Rattle.nc_cloud.specs.declared.fleet.Fleet.{Ghosts as FleetGhosts}
use Rattle.nc_cloud.specs.Contents.{Rose}
use Rattle.nc_cloud.specs.Deciding.{AreAscending}
use Rattle.nc_cloud.specs.Fleet.{asked, got_count, is_bytes, is_chunk, Answers, Shows}
use Rattle.nc_cloud.specs.Rounds.{some_row}
use Rattle.nc_cloud.proofs.Decisions.{once}
use Rattle.nc_cloud.proofs.Fans.{got_none}
use Rattle.nc_cloud.proofs.SomeRows.{ascend_some, entry_is}
use Rattle.nc_meta.specs.declared.meta.Live.{Live}
use Rattle.nc_state.specs.Clouds.{Clouds}
use Rattle.nc_download.specs.declared.short.Why.TheVariants.{Failed, Row}
use Rattle.nc_fetch.specs.declared.founds.Found.{Found}
use Rattle.nc_fetch.specs.declared.founds.Found.TheVariants.{Unasked, Good, Bad}
use Rattle.nc_fetch.specs.Asking.{AreAnswered, GaveAtMost, GaveRow, RowIsAsked}
use Rattle.nc_download.specs.Chunks.{chunk_ask, frame_len, wanted_of}
use Rattle.nc_download.proofs.GotLaws.{none_got, one_got}
use Rattle.nc_fetch.specs.Founds.{chunk_ask_on, found_at, is_asked, AreFound, AreLeft, FoundOn, IsFoundFrom}

-- ---- entries, one after the other

module _ (n : ℕ) (name : List ℕ) (m : Live) (r : ℕ) (P : Clouds) where
  abbrev entry : ℕ → Option (ℕ × Key × ℕ)
  entry = chunk_ask_on n name m r P

  row_front : (c : ℕ) → c < n → some_row entry c (n - c) ≡ option_to_list (entry c) ++ some_row entry (c + 1) (n - (c + 1))
  row_front c low =
      let more : n - c ≡ suc (n - (c + 1)) = omega (arith, low) in
      let next : suc c ≡ c + 1 = omega arith in
      ap (some_row entry c) more ∙ ap (λ k. option_to_list (entry c) ++ some_row entry k (n - (c + 1))) next

  -- a cloud that isn't asked has no entry
  pub passed_over : (c : ℕ) (all left : List Ask) → c < n → P c ≡ false → AreLeft n name m r P c all left → AreLeft n name m r P (c + 1) all left
  passed_over c all left low out l = record {
    asks = l.asks ∙ row_front c low ∙ ap (λ (b : Bool). option_to_list (if b then Some (chunk_ask n name m r c) else None) ++ some_row entry (c + 1) (n - (c + 1))) out;
    among = l.among;
  }

  front_row : (c : ℕ) (left : List Ask) → c < n → P c ≡ true → map asked left ≡ some_row entry c (n - c) → map asked left ≡ chunk_ask n name m r c ∷ some_row entry (c + 1) (n - (c + 1))
  front_row c left low within asks =
      asks ∙ row_front c low ∙ ap (λ (b : Bool). option_to_list (if b then Some (chunk_ask n name m r c) else None) ++ some_row entry (c + 1) (n - (c + 1))) within

  has_front : (left : List Ask) (x : ℕ × Key × ℕ) (xs : List (ℕ × Key × ℕ)) → map asked left ≡ x ∷ xs → 0 < length left
  has_front [] x xs e = absurd cc
  has_front (a ∷ left) x xs e = omega arith

  pub some_entry : (c : ℕ) (left : List Ask) → c < n → P c ≡ true → map asked left ≡ some_row entry c (n - c) → 0 < length left
  some_entry c left low within asks = has_front left _ _ (front_row c left low within asks)

  took : (c : ℕ) (all left next : List Ask) (x : Ask) (xs : List (ℕ × Key × ℕ)) → map asked left ≡ chunk_ask n name m r c ∷ xs → xs ≡ some_row entry (c + 1) (n - (c + 1)) → All (Contains all) left
      → x ≡ get_or left 0 x → next ≡ remove left 0 → (asked x ≡ chunk_ask n name m r c) × Contains all x × AreLeft n name m r P (c + 1) all next
  took c all [] next x xs e rest among is removed = absurd cc
  took c all (a ∷ left) next x xs e rest among is removed =
      let first : asked a ≡ chunk_ask n name m r c = cc in
      let others : map asked left ≡ xs = cc in (
        ap asked is ∙ first,
        subst (Contains all) (sym is) (among 0 a (omega arith)),
        record { asks = ap (map asked) removed ∙ others ∙ rest; among = subst (All (Contains all)) (sym removed) (λ k d l. among (suc k) d (omega (arith, l))) },
      )

  -- the entry of a cloud is taken
  pub taken : (c : ℕ) (all left next : List Ask) (x : Ask) → c < n → P c ≡ true → AreLeft n name m r P c all left → x ≡ get_or left 0 x → next ≡ remove left 0
      → (asked x ≡ chunk_ask n name m r c) × Contains all x × AreLeft n name m r P (c + 1) all next
  taken c all left next x low within l is removed = took c all left next x (some_row entry (c + 1) (n - (c + 1))) (front_row c left low within l.asks) refl l.among is removed

-- ---- the entries of a round

module _ (n : ℕ) (name : List ℕ) (m : Live) (r : ℕ) (P : Clouds) where
  entry_by : (c : ℕ) (b : Bool) (x : ℕ × Key × ℕ) → (if b then Some (chunk_ask n name m r c) else None) ≡ Some x → x.0 ≡ c
  entry_by c true x e = let same : chunk_ask n name m r c ≡ x = cc in sym (ap (λ (y : ℕ × Key × ℕ). y.0) same)
  entry_by c false x e = absurd cc

  pub entry_cloud : (c : ℕ) (x : ℕ × Key × ℕ) → chunk_ask_on n name m r P c ≡ Some x → x.0 ≡ c
  entry_cloud c x e = entry_by c (P c) x e

  pub asks_ascend : (asks : List Ask) → map asked asks ≡ some_row (chunk_ask_on n name m r P) 0 n → AreAscending (λ a. a.cloud) n asks
  asks_ascend asks all = ascend_some (λ (x : ℕ × Key × ℕ). x.0) (chunk_ask_on n name m r P) entry_cloud asked n asks all

-- ---- a round

-- where there are no entries, none need be made
pub answered_none : {A : Type 0} (F : FleetGhosts A) (s : A) (asks : List Ask) → length asks ≡ 0 → AreAnswered F asks s s
answered_none F s [] none = record {
  told = λ t k d l. absurd (omega arith);
  failed = λ k d l. absurd (omega arith);
  exact = λ e c all. refl;
  gets = λ c. got_none (F.chunk_gets s c);
}
answered_none F s (a ∷ asks) none = absurd (omega (arith, none))

module _ {A : Type 0} (F : FleetGhosts A) (name : List ℕ) (m : Live) (r : ℕ) (P : Clouds) (old new : A) (asks : List Ask) (all : map asked asks ≡ some_row (chunk_ask_on (F.clouds old) name m r P) 0 (F.clouds old)) (answered : AreAnswered F asks old new) where
  -- a cloud that isn't one of P has no entry
  no_entry : (c : ℕ) → P c ≡ false → All (λ a. a.cloud ≢ c) asks
  no_entry c out k d l same =
      let is = entry_is (λ (x : ℕ × Key × ℕ). x.0) (chunk_ask_on (F.clouds old) name m r P) (entry_cloud (F.clouds old) name m r P) asked (F.clouds old) asks all k d l in
      let there : chunk_ask_on (F.clouds old) name m r P c ≡ Some (asked (get_or asks k d)) = subst (λ (j : ℕ). chunk_ask_on (F.clouds old) name m r P j ≡ Some (asked (get_or asks k d))) same is in
      let none : chunk_ask_on (F.clouds old) name m r P c ≡ None = ap (λ (b : Bool). if b then Some (chunk_ask (F.clouds old) name m r c) else None) out in
      let e : None ≡ Some (asked (get_or asks k d)) = sym none ∙ there in
      cc

  unasked_gave : (c : ℕ) → P c ≡ false → F.chunk_gets new c ≡ F.chunk_gets old c
  unasked_gave c out =
      let stays : got_count (F.chunk_gets old c) 0 ≡ F.chunk_gets old c = omega arith in
      answered.gets c ∙ ap (got_count (F.chunk_gets old c)) (none_got c asks (no_entry c out)) ∙ stays

  -- the entry of cloud c
  module _ (c : ℕ) (found : Found) (is : IsFoundFrom (F.clouds old) name m r c asks found) where
    same_cloud : is.ask.cloud ≡ c
    same_cloud = ap (λ (x : ℕ × Key × ℕ). x.0) is.asks

    gave : F.chunk_gets new c ≡ got_count (F.chunk_gets old c) (if is_bytes is.ask.answer then 1 else 0)
    gave =
        let chunk : is_chunk is.ask.key ≡ true = ap (λ (x : ℕ × Key × ℕ). is_chunk x.1) is.asks in
        answered.gets c
        ∙ ap (got_count (F.chunk_gets old c)) (one_got c asks is.ask (asks_ascend (F.clouds old) name m r P asks all).rising is.among same_cloud ∙ ap (λ (b : Bool). if b && is_bytes is.ask.answer then 1 else 0) chunk)

    shows : F.tells → Shows is.ask.answer (frame_len (wanted_of (F.clouds old) name m r c)) (F.held old c (wanted_of (F.clouds old) name m r c).key)
    shows told =
        subst (λ (x : ℕ × Key × ℕ). Shows is.ask.answer x.2 (F.held old x.0 x.1)) is.asks
        (All-contains (λ a. Answers a (F.held old a.cloud a.key)) asks is.ask (answered.told told) is.among)

    rose : is.ask.answer ≡ answer.Failed → Rose (F.faults old c) (F.faults new c)
    rose e =
        subst (λ (j : ℕ). Rose (F.faults old j) (F.faults new j)) same_cloud
        (All-contains (λ a. a.answer ≡ answer.Failed → Rose (F.faults old a.cloud) (F.faults new a.cloud)) asks is.ask answered.failed is.among e)

    -- no other entry is of this cloud
    only_entry : (k : ℕ) (d : Ask) → k < length asks → (get_or asks k d).cloud ≡ c → get_or asks k d ≡ is.ask
    only_entry k d l same =
        let at = is.among in
        let other : (get_or asks at.0 d).cloud ≡ c = ap (λ (b : Ask). b.cloud) (get_or_default asks at.0 d is.ask at.1 ∙ at.2) ∙ same_cloud in
        elim (cases_lt k at.0) [
          | inl lower ↦ absurd (once (λ (a : Ask). a.cloud) (F.clouds old) asks (asks_ascend (F.clouds old) name m r P asks all) k at.0 d lower at.1 (same ∙ sym other))
          | inr upper ↦ elim (cases_lt at.0 k) [
            | inl higher ↦ absurd (once (λ (a : Ask). a.cloud) (F.clouds old) asks (asks_ascend (F.clouds old) name m r P asks all) at.0 k d higher l (other ∙ sym same))
            | inr level ↦ let here : k ≡ at.0 = omega (arith, upper, level) in ap (λ j. get_or asks j d) here ∙ get_or_default asks at.0 d is.ask at.1 ∙ at.2
          ]
        ]

    stayed : F.counts_exactly → is.ask.answer ≢ answer.Failed → F.faults new c ≡ F.faults old c
    stayed exact fine = answered.exact exact c (λ k d l same failed. fine (sym (ap (λ (b : Ask). b.answer) (only_entry k d l same)) ∙ failed))

  counted : (c a : ℕ) (b : Bool) → a ≡ got_count (F.chunk_gets old c) (if b then 1 else 0) → GaveAtMost 1 (F.chunk_gets old c) a
  counted c a true e = record { given = 1; few = omega arith; is = e }
  counted c a false e = record { given = 0; few = omega arith; is = e }

  -- what a cloud gave
  gave_by : (c : ℕ) (found : Found) → IsFoundFrom (F.clouds old) name m r c asks found → GaveRow F name m r old new c found
  gave_by c Unasked is = absurd is.from
  gave_by c (Good payload) is = record {
    good = λ told. is.from.verdict _ (shows c (Good payload) is told);
    long = is.from.long;
    gave = gave c (Good payload) is ∙ ap (λ (b : Bool). got_count (F.chunk_gets old c) (if b then 1 else 0)) is.from.given;
  }
  gave_by c (Bad Failed) is =
      let none : is_bytes is.ask.answer ≡ false = ap is_bytes is.from in
      let stays : got_count (F.chunk_gets old c) 0 ≡ F.chunk_gets old c = omega arith in
      (rose c (Bad Failed) is is.from, gave c (Bad Failed) is ∙ ap (λ (b : Bool). got_count (F.chunk_gets old c) (if b then 1 else 0)) none ∙ stays)
  gave_by c (Bad (Row q how)) is = (is.from.0, λ told. is.from.1.verdict _ (shows c (Bad (Row q how)) is told), counted c (F.chunk_gets new c) (is_bytes is.ask.answer) (gave c (Bad (Row q how)) is))

  gave_on : (b : Bool) (c : ℕ) (found : Found) → P c ≡ b → FoundOn b (F.clouds old) name m r c asks found → GaveRow F name m r old new c found
  gave_on true c found is from = gave_by c found from
  gave_on false c found is from = subst (GaveRow F name m r old new c) (sym from) (unasked_gave c is)

  asked_by : (c : ℕ) (found : Found) → IsFoundFrom (F.clouds old) name m r c asks found → is_asked found ≡ true
  asked_by c Unasked is = absurd is.from
  asked_by c (Good payload) is = refl
  asked_by c (Bad why) is = refl

  asked_on : (b : Bool) (c : ℕ) (found : Found) → FoundOn b (F.clouds old) name m r c asks found → is_asked found ≡ b
  asked_on true c found from = asked_by c found from
  asked_on false c found from = ap is_asked from

  alone_by : F.counts_exactly → (c : ℕ) (found : Found) → IsFoundFrom (F.clouds old) name m r c asks found → found ≢ Bad Failed → F.faults new c ≡ F.faults old c
  alone_by exact c Unasked is fine = absurd is.from
  alone_by exact c (Good payload) is fine = stayed c (Good payload) is exact (λ failed. let none : is_bytes is.ask.answer ≡ false = ap is_bytes failed in let e : true ≡ false = sym is.from.given ∙ none in cc)
  alone_by exact c (Bad Failed) is fine = absurd (fine refl)
  alone_by exact c (Bad (Row q how)) is fine = stayed c (Bad (Row q how)) is exact is.from.1.answered

  alone_on : F.counts_exactly → (b : Bool) (c : ℕ) (found : Found) → P c ≡ b → FoundOn b (F.clouds old) name m r c asks found → found ≢ Bad Failed → F.faults new c ≡ F.faults old c
  alone_on exact true c found is from fine = alone_by exact c found from fine
  alone_on exact false c found is from fine = answered.exact exact c (λ k d l same failed. no_entry c is k d l same)

  pub row_is_asked : (founds : List Found) → AreFound (F.clouds old) name m r P (F.clouds old) asks founds → RowIsAsked F name m r P old new founds
  row_is_asked founds found = record {
    long = found.long;
    asked = λ c l. asked_on (P c) c (found_at founds c) (found.each c l);
    each = λ c l. gave_on (P c) c (found_at founds c) refl (found.each c l);
    alone = λ exact c l fine. alone_on exact (P c) c (found_at founds c) refl (found.each c l) fine;
  }

-- the same where the width is told by another number
pub row_from : {A : Type 0} (F : FleetGhosts A) (name : List ℕ) (m : Live) (r : ℕ) (P : Clouds) (old new : A) (asks : List Ask) (w : ℕ) → w ≡ F.clouds old → map asked asks ≡ some_row (chunk_ask_on w name m r P) 0 w
    → AreAnswered F asks old new → (founds : List Found) → AreFound w name m r P w asks founds → RowIsAsked F name m r P old new founds
row_from F name m r P old new asks w is all answered founds found =
    row_is_asked F name m r P old new asks (subst (λ (k : ℕ). map asked asks ≡ some_row (chunk_ask_on k name m r P) 0 k) is all) answered founds (subst (λ (k : ℕ). AreFound k name m r P k asks founds) is found)
