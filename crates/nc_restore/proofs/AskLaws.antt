-- What the round of one row shows of the clouds to be restored.
use Rattle.std.proofs.Common.{◌≡◌, ◌≢◌, ◌<◌, ◌+◌, ◌&&◌, ℕ, zero, suc, replicate, Bool, true, false, if◌then◌else◌, None, Some, List, [], ◌∷◌, All, Contains, map, length, get_or, set, length-set, Result, Ok, Err, inl, inr, refl, sym, ap, ◌∙◌, subst, arith}
use Rattle.std.proofs.lemmas.Bool.{cases_lt}
use Rattle.std.proofs.lemmas.Bool.Decides.{eqb_tells}
use Rattle.std.proofs.lemmas.List.{get_or-set_other, get_or-set_same}
use Rattle.std.proofs.lemmas.List.Elements.{All-contains}
use Rattle.nc_name.specs.declared.key.Key.{Key}
use Rattle.nc_cloud.specs.declared.fleet.Ask.{Ask}
use Rattle.nc_cloud.specs.declared.deciding.RoundFault.{RoundFault}
use Rattle.nc_cloud.specs.declared.deciding.RoundFault.TheVariants as round
use Rattle.nc_cloud.specs.declared.fleet.Fleet.{Ghosts as FleetGhosts}
use Rattle.nc_cloud.specs.Deciding.{AreAscending, BlamesAsk, IsSeen}
use Rattle.nc_cloud.specs.Fleet.{Answers, Shows, asked, chunks_got, got_count, is_bytes, is_chunk}
use Rattle.nc_cloud.specs.Rounds.{some_row}
use Rattle.nc_cloud.proofs.SomeRows.{entry_is}
use Rattle.nc_cloud.proofs.Time.{stops_none}
use Rattle.nc_meta.specs.declared.meta.Live.{Live}
use Rattle.nc_settle.specs.MetaWrites.{named}
use Rattle.nc_state.specs.Clouds.{Clouds}
use Rattle.nc_download.specs.declared.judging.Wanted.{Wanted}
use Rattle.nc_download.specs.Chunks.{chunk_ask, frame_len, wanted_of}
use Rattle.nc_download.specs.Clouds.{held_at}
use Rattle.nc_fetch.specs.Founds.{AreLeft, chunk_ask_on}
use Rattle.nc_download.proofs.GotLaws.{few_got, none_got, one_got}
use Rattle.nc_fetch.proofs.RoundLaws.{asks_ascend, entry_cloud}
use Rattle.nc_fetch.specs.Asking.{GaveAtMost}
use Rattle.nc_cloud.proofs.Fans.{got_none}
use Rattle.nc_restore.specs.declared.fault.RestoreFault.TheVariants as fault
use Rattle.nc_restore.specs.Asking.{AreJudgedTo, AskFails, fault_of, GotRow, IsJudgedFrom, IsOf, JudgedOn, JudgesAs, RowIsJudged}

-- a table of no clouds
none_named : (k c : ℕ) → named (replicate k false) c ≡ false
none_named zero c = refl
none_named (suc k) zero = refl
none_named (suc k) (suc c) = none_named k c

-- ---- entries, one after the other

module _ (n : ℕ) (name : List ℕ) (m : Live) (r : ℕ) (P : Clouds) where
  -- what the entry that was taken shows
  pub judged_taken : (c : ℕ) (all : List Ask) (x : Ask) (w : Wanted) (bad : Bool) → P c ≡ true → asked x ≡ chunk_ask n name m r c → Contains all x → w ≡ wanted_of n name m r c → IsJudgedFrom w x.answer bad
      → JudgedOn (P c) n name m r c all bad
  judged_taken c all x w bad within asks among is from =
      subst (λ (b : Bool). JudgedOn b n name m r c all bad) (sym within)
      (record { ask = x; among = among; asks = asks; from = subst (λ (v : Wanted). IsJudgedFrom v x.answer bad) is from })

  pub judged_unasked : (c : ℕ) (all : List Ask) → P c ≡ false → JudgedOn (P c) n name m r c all false
  judged_unasked c all out = subst (λ (b : Bool). JudgedOn b n name m r c all false) (sym out) refl

  pub judged_none : (all : List Ask) → AreJudgedTo n name m r P 0 all (replicate 10 false)
  judged_none all = record { long = refl; each = λ c l. absurd (omega arith); past = λ c l. none_named 10 c }

  pub judged_more : (k : ℕ) (all : List Ask) (bad : List Bool) (b : Bool) → k < 10 → AreJudgedTo n name m r P k all bad → JudgedOn (P k) n name m r k all b → AreJudgedTo n name m r P (k + 1) all (set bad k b)
  judged_more k all bad b low are is =
      let within : k < length bad = omega (arith, low, are.long) in
      let there : named (set bad k b) k ≡ b = get_or-set_same bad k b false within in
      record {
        long = length-set bad k b ∙ are.long;
        each = λ c l. elim (eqb_tells c k) [
          | inl same ↦ subst (λ j. JudgedOn (P j) n name m r j all (named (set bad k b) j)) (sym same.1) (subst (JudgedOn (P k) n name m r k all) (sym there) is)
          | inr other ↦
              let before : c < k = let differs : c ≢ k = other.1 in omega (arith, l, differs) in
              subst (JudgedOn (P c) n name m r c all) (sym (get_or-set_other bad k c b false other.1)) (are.each c before)
        ];
        past = λ c l.
            let differs : c ≢ k = λ e. omega (arith, l, e) in
            get_or-set_other bad k c b false differs ∙ are.past c (omega (arith, l));
      }

  pub judged_all : (k : ℕ) (all : List Ask) (bad : List Bool) → k ≡ n → AreJudgedTo n name m r P k all bad → AreJudgedTo n name m r P n all bad
  judged_all k all bad e are = subst (λ (j : ℕ). AreJudgedTo n name m r P j all bad) e are

-- the rest of entries that all say something
pub rest_seen : (all left next : List Ask) (n : ℕ) (name : List ℕ) (m : Live) (r : ℕ) (P : Clouds) (c : ℕ) → All (λ (a : Ask). IsSeen a.answer ≡ true) all → AreLeft n name m r P c all next → All (λ (a : Ask). IsSeen a.answer ≡ true) next
rest_seen all left next n name m r P c seen l = λ k d low. All-contains (λ (a : Ask). IsSeen a.answer ≡ true) all (get_or next k d) seen (l.among k d low)

-- ---- the round

on_entry : (n : ℕ) (name : List ℕ) (m : Live) (r c : ℕ) (b : Bool) (x : ℕ × Key × ℕ) → (if b then Some (chunk_ask n name m r c) else None) ≡ Some x → b ≡ true
on_entry n name m r c true x e = refl
on_entry n name m r c false x e = absurd cc

module _ {A : Type 0} (F : FleetGhosts A) (name : List ℕ) (m : Live) (r : ℕ) (P : Clouds) (old new : A) where
  -- the clouds that are asked are those of P
  pub round_ascends : (width : ℕ) (asks : List Ask) → width ≡ F.clouds old → map asked asks ≡ some_row (chunk_ask_on width name m r P) 0 width → AreAscending (λ a. a.cloud) (F.clouds old) asks
  round_ascends width asks is all = asks_ascend (F.clouds old) name m r P asks (subst (λ (n : ℕ). map asked asks ≡ some_row (chunk_ask_on n name m r P) 0 n) is all)

  -- how many chunks came
  abbrev one_if : Bool → ℕ
  one_if b = if b then 1 else 0

  got_few : (width : ℕ) (asks : List (ℕ × Key × ℕ)) (ended : List Ask) (result : Result (Unit {0}) RoundFault) → width ≡ F.clouds old → asks ≡ some_row (chunk_ask_on width name m r P) 0 width → GotRow F asks ended old new result → (c : ℕ)
      → GaveAtMost 1 (F.chunk_gets old c) (F.chunk_gets new c)
  got_few width asks ended result is all got c = record { given = chunks_got c ended; few = few_got c ended (round_ascends width ended is (got.same ∙ all)).rising; is = got.gets c }

  unasked_none : (width : ℕ) (ended : List Ask) → map asked ended ≡ some_row (chunk_ask_on width name m r P) 0 width → (c : ℕ) → P c ≡ false → chunks_got c ended ≡ 0
  unasked_none width ended all c out =
      none_got c ended (λ k d l same.
      let entry = entry_is (λ (x : ℕ × Key × ℕ). x.0) (chunk_ask_on width name m r P) (entry_cloud width name m r P) asked width ended all k d l in
      let on : P (get_or ended k d).cloud ≡ true = on_entry width name m r (get_or ended k d).cloud (P (get_or ended k d).cloud) _ entry in
      let no : false ≡ true = sym out ∙ ap P (sym same) ∙ on in
      cc)

  only_named : (width : ℕ) (all : List Ask) (bad : List Bool) → AreJudgedTo width name m r P width all bad → (c : ℕ) → named bad c ≡ true → (c < width) × (P c ≡ true)
  only_named width all bad are c is = elim (cases_lt c width) [
    | inl low ↦ (low, by (P c) refl (are.each c low))
    | inr high ↦ let no : true ≡ false = sym is ∙ are.past c high in absurd cc
  ]
    where
      by : (b : Bool) → P c ≡ b → JudgedOn (P c) width name m r c all (named bad c) → P c ≡ true
      by true e judged = e
      by false e judged =
          let out : named bad c ≡ false = subst (λ (b : Bool). JudgedOn b width name m r c all (named bad c)) e judged in
          let no : true ≡ false = sym is ∙ out in absurd cc

  pub row_judged : (width : ℕ) (asks : List (ℕ × Key × ℕ)) (ended : List Ask) (bad : List Bool) → width ≡ F.clouds old → asks ≡ some_row (chunk_ask_on width name m r P) 0 width → GotRow F asks ended old new (Ok tt) → AreJudgedTo width name m r P width ended bad
      → RowIsJudged F name m r P old new (named bad)
  row_judged width asks ended bad is all got are = record {
    judged = λ told c low within.
        let judged : JudgedOn true width name m r c ended (named bad c) = subst (λ (b : Bool). JudgedOn b width name m r c ended (named bad c)) within (are.each c (omega (arith, low, is))) in
        let shows : Shows judged.ask.answer (frame_len (wanted_of width name m r c)) (F.held old c (wanted_of width name m r c).key) =
        subst (λ (x : ℕ × Key × ℕ). Shows judged.ask.answer x.2 (F.held old x.0 x.1)) judged.asks (All-contains (λ a. Answers a (F.held old a.cloud a.key)) ended judged.ask (got.told told) judged.among) in
        subst (λ (n : ℕ). JudgesAs (wanted_of n name m r c) (held_at n name m (F.held old) c r) (named bad c)) is (judged.from.verdict (F.held old c (wanted_of width name m r c).key) shows);
    only = λ c on. let found = only_named width ended bad are c on in (omega (arith, found.0, is), found.1);
    few = got_few width asks ended (Ok tt) is all got;
    unread = λ c out. got.gets c ∙ ap (got_count (F.chunk_gets old c)) (unasked_none width ended (got.same ∙ all) c out) ∙ sym (got_none (F.chunk_gets old c));
    gave = λ c low within good.
        let judged : JudgedOn true width name m r c ended (named bad c) = subst (λ (b : Bool). JudgedOn b width name m r c ended (named bad c)) within (are.each c (omega (arith, low, is))) in
        let at : judged.ask.cloud ≡ c = ap (λ (x : ℕ × Key × ℕ). x.0) judged.asks in
        let chunk : is_chunk judged.ask.key ≡ true = ap (λ (x : ℕ × Key × ℕ). is_chunk x.1) judged.asks in
        got.gets c
        ∙ ap (got_count (F.chunk_gets old c))
        (one_got c ended judged.ask (round_ascends width ended is (got.same ∙ all)).rising judged.among at ∙ ap (λ (b : Bool). one_if (b && is_bytes judged.ask.answer)) chunk
        ∙ ap one_if (judged.from.given good));
    looked = got.looked;
    stops = got.stops;
    clean = got.counts.clean;
  }

  -- a cloud that failed is one of P
  blamed : (width : ℕ) (ended : List Ask) (why : RoundFault) → map asked ended ≡ some_row (chunk_ask_on width name m r P) 0 width → (at : ℕ) → at < length ended → (d : Ask) → BlamesAsk (get_or ended at d) why → IsOf P why
  blamed width ended (round.Cloud c) all at low d blames =
      let entry = entry_is (λ (x : ℕ × Key × ℕ). x.0) (chunk_ask_on width name m r P) (entry_cloud width name m r P) asked width ended all at d low in
      ap P blames.1 ∙ on_entry width name m r (get_or ended at d).cloud (P (get_or ended at d).cloud) _ entry
  blamed width ended round.Memory all at low d blames = tt

  some_ask : (xs : List Ask) (k : ℕ) → k < length xs → Ask
  some_ask [] k l = absurd (omega (arith, l))
  some_ask (a ∷ xs) k l = a

  pub row_fails : (width : ℕ) (asks : List (ℕ × Key × ℕ)) (ended : List Ask) (why : RoundFault) → width ≡ F.clouds old → asks ≡ some_row (chunk_ask_on width name m r P) 0 width → GotRow F asks ended old new (Err why) → AskFails F P 1 old new (fault_of why)
  row_fails width asks ended why is all got =
      let least = got.decides.err in
      let d : Ask = some_ask ended least.at least.within in
      record {
        why = why;
        is = refl;
        cause = got.counts.cause;
        one = blamed width ended why (got.same ∙ all) least.at least.within d (least.here d);
        few = got_few width asks ended (Err why) is all got;
        looked = got.looked;
        stops = got.stops;
      }

-- no memory was found for the entries
pub ask_unmade : {A : Type 0} (F : FleetGhosts A) (P : Clouds) (s : A) → AskFails F P 1 s s fault.Memory
ask_unmade F P s = record {
  why = round.Memory;
  is = refl;
  cause = tt;
  one = tt;
  few = λ c. record { given = 0; few = omega arith; is = got_none (F.chunk_gets s c) };
  looked = record { clouds = refl; held = refl; grows = λ c. omega arith; slips = refl };
  stops = stops_none s (λ G. G ≡ F.held s);
}
