-- What the entries of a round give, one after the other.
use Rattle.std.proofs.Common.{◌≡◌, ◌≢◌, ◌+◌, ◌-◌, ◌++◌, ◌∷◌, ℕ, Bool, true, false, List, [], map, length, take, drop, Contains, Ok, Err, Some, Option, IfOk, OnOk, Result, refl, sym, ap, ◌∙◌, subst, arith}
use Rattle.std.proofs.lemmas.List.{length-map}
use Rattle.std.proofs.lemmas.List.Elements.{All-contains_itself}
use Rattle.nc_cloud.specs.declared.fleet.Answer.{Answer}
use Rattle.nc_cloud.specs.declared.fleet.Answer.TheVariants as answer
use Rattle.nc_cloud.specs.declared.fleet.Ask.{Ask}
use Rattle.nc_cloud.specs.Deciding.{IsSeen}
use Rattle.nc_cloud.specs.Fleet.{asked}
use Rattle.nc_cloud.specs.Rounds.{some_row}
use Rattle.nc_meta.specs.declared.meta.Live.{Live}
use Rattle.nc_state.specs.Clouds.{Clouds}
use Rattle.nc_download.specs.declared.judging.Wanted.{Wanted}
use Rattle.nc_fetch.specs.declared.founds.Found.{Found}
use Rattle.nc_fetch.specs.declared.founds.Found.TheVariants.{Unasked}
use Rattle.nc_download.specs.Chunks.{chunk_ask, wanted_of, IsGoodChunk, IsInner}
use Rattle.nc_download.specs.declared.short.How.TheVariants.{Broken}
use Rattle.nc_download.proofs.InnerLaws.{good_inner}
use Rattle.nc_download.proofs.Judged.{long_broken}
use Rattle.nc_fetch.specs.Founds.{chunk_ask_on, AreFound, AreLeft, FoundFrom, FoundOn, GivesBad, GivesGood}
use Rattle.nc_fetch.proofs.Growing.{push_more}

-- an answer that says something isn't that of a cloud that failed
pub seen_answered : (a : Answer) → IsSeen a ≡ true → a ≢ answer.Failed
seen_answered a seen e = let no : false ≡ true = sym (ap IsSeen e) ∙ seen in cc

-- a good chunk's frame gives what stands in the payload's place
pub gives_inner : (w : Wanted) (frame payload inner : List ℕ) → IsGoodChunk w (Some frame) payload → IsInner w frame inner → GivesGood w (answer.Bytes frame) inner
gives_inner w frame payload inner is place =
    let good : IsGoodChunk w (Some frame) inner = subst (IsGoodChunk w (Some frame)) (sym (good_inner w frame inner payload is place)) is in
    record { verdict = λ held shows. subst (λ (h : Option (List ℕ)). IsGoodChunk w h inner) (sym shows.0) good; long = good.long; given = refl }

-- an object that is longer than a chunk's frame isn't good
pub gives_long : (w : Wanted) (a : Answer) → a ≡ answer.Long → GivesBad w a Broken
gives_long w a is =
    let long : GivesBad w answer.Long Broken = record { verdict = long_broken w answer.Long refl (λ bytes e. cc) (λ e. cc); answered = λ e. cc } in
    subst (λ (x : Answer). GivesBad w x Broken) (sym is) long

back : {X : Type 0} (new old : List X) → length new ≡ length old → take (length old) (new ++ drop (length new) old) ≡ new
back [] [] e = refl
back [] (o ∷ old) e = absurd (omega (arith, e))
back (n ∷ new) [] e = absurd (omega (arith, e))
back (n ∷ new) (o ∷ old) e = ap (λ xs. n ∷ xs) (back new old (omega (arith, e)))

-- a list that was lent whole
pub written_back : {X : Type 0} (k : ℕ) (new old : List X) → k ≡ length old → length new ≡ length old → take k (new ++ drop (length new) old) ≡ new
written_back k new old is same = ap (λ j. take j (new ++ drop (length new) old)) is ∙ back new old same

pub same_length : (new old : List Ask) → map asked new ≡ map asked old → length new ≡ length old
same_length new old e = sym (length-map new asked) ∙ ap length e ∙ length-map old asked

pub always_ok : {T E P : Type 0} (r : Result T E) → P → OnOk r P
always_ok (Ok x) p = p
always_ok (Err e) p = tt

pub ok_each : {T E : Type 0} (P : T → Type 0) (r : Result T E) → ((x : T) → P x) → IfOk r P
ok_each P (Ok x) each = each x
ok_each P (Err e) each = tt

pub ok_weaker : {T E : Type 0} (P Q : T → Type 0) (r : Result T E) → ((x : T) → P x → Q x) → IfOk r P → IfOk r Q
ok_weaker P Q (Ok x) weaker is = weaker x is
ok_weaker P Q (Err e) weaker is = tt

module _ (n : ℕ) (name : List ℕ) (m : Live) (r : ℕ) (P : Clouds) where
  pub found_none : (all : List Ask) (founds : List Found) → founds ≡ [] → AreFound n name m r P 0 all founds
  found_none all founds none = record { long = ap length none; each = λ c l. absurd (omega arith) }

  pub found_more : (k : ℕ) (all : List Ask) (founds next : List Found) (found : Found) → AreFound n name m r P k all founds → FoundOn (P k) n name m r k all found → next ≡ founds ++ found ∷ []
      → AreFound n name m r P (k + 1) all next
  found_more k all founds next found are is pushed =
      let more = push_more Unasked (λ (c : ℕ) (x : Found). FoundOn (P c) n name m r c all x) k founds next found are.long are.each is pushed in
      record { long = more.0; each = more.1 }

  pub left_all : (all : List Ask) → map asked all ≡ some_row (chunk_ask_on n name m r P) 0 n → AreLeft n name m r P 0 all all
  left_all all asks =
      let whole : n ≡ n - 0 = omega arith in
      record { asks = asks ∙ ap (some_row (chunk_ask_on n name m r P) 0) whole; among = All-contains_itself all }

  pub found_all : (k : ℕ) (all : List Ask) (founds : List Found) → k ≡ n → AreFound n name m r P k all founds → AreFound n name m r P n all founds
  found_all k all founds e are = subst (λ (j : ℕ). AreFound n name m r P j all founds) e are

  -- what was found of the entry that was taken
  pub found_taken : (c : ℕ) (all : List Ask) (x : Ask) (w : Wanted) (found : Found) → P c ≡ true → asked x ≡ chunk_ask n name m r c → Contains all x → w ≡ wanted_of n name m r c → FoundFrom w r x.answer found
      → FoundOn (P c) n name m r c all found
  found_taken c all x w found within asks among is from =
      subst (λ (b : Bool). FoundOn b n name m r c all found) (sym within)
      (record { ask = x; among = among; asks = asks; from = subst (λ (v : Wanted). FoundFrom v r x.answer found) is from })

  pub found_unasked : (c : ℕ) (all : List Ask) → P c ≡ false → FoundOn (P c) n name m r c all Unasked
  found_unasked c all out = subst (λ (b : Bool). FoundOn b n name m r c all Unasked) (sym out) refl
