-- How many chunks the restoring of chunks reads.
use Rattle.std.proofs.Common.{◌≡◌, ◌<◌, ◌+◌, ℕ, Bool, true, false, if◌then◌else◌, Option, None, Some, List, Result, Err, IfOk, inl, inr, refl, sym, ap, ◌∙◌, subst, arith}
use Rattle.std.proofs.lemmas.Bool.{cases_lt}
use Rattle.nc_cloud.specs.declared.fleet.Fleet.{Ghosts as FleetGhosts}
use Rattle.nc_cloud.specs.Fleet.{got_count}
use Rattle.nc_cloud.proofs.Fans.{got_none}
use Rattle.nc_meta.specs.declared.meta.Live.{Live}
use Rattle.nc_state.specs.Clouds.{Clouds}
use Rattle.nc_download.specs.declared.short.Why.{Why}
use Rattle.nc_download.specs.declared.short.Why.TheVariants.{Failed, Row}
use Rattle.nc_fetch.specs.Asking.{GaveAtMost}
use Rattle.nc_fetch.specs.Trying.{Outcome, TriedBetween}
use Rattle.nc_fetch.specs.Whys.{why_at}
use Rattle.nc_write.proofs.InTurnLaws.{RoundsKeep, rounds_keep}
use Rattle.nc_restore.specs.declared.fault.RestoreFault.{RestoreFault}
use Rattle.nc_restore.specs.declared.fault.RestoreFault.TheVariants as fault
use Rattle.nc_restore.specs.Restoring.{AreJudged, AreUntried, LacksOutside, Looked, RestoreDid, bad_count, restore_rounds, untried}
use Rattle.nc_restore.specs.Restoring.RestoreDid.{all_good, in_turn, lacking, unasked, unsound}
use Rattle.nc_restore.proofs.DoneLaws.{did_ok, none_there}
use Rattle.nc_restore.proofs.TurnLaws.{gave_fewer}

gave_none : (most k : ℕ) → GaveAtMost most k k
gave_none most k = record { given = 0; few = omega arith; is = got_none k }

module _ {A : Type 0} (F : FleetGhosts A) (name : List ℕ) (m : Live) (P : Clouds) (mid new : A) (told : F.tells) (before whys : List (Option Why)) (marked : AreUntried (F.clouds mid) P before) (b : ℕ)
    (tried : TriedBetween F name m mid new 0 b before whys) where
  -- a cloud of P isn't tried
  named_unread : (c : ℕ) → c < F.clouds mid → P c ≡ true → F.chunk_gets new c ≡ F.chunk_gets mid c
  named_unread c l one =
      let was : why_at before c ≡ Some untried = marked.each c l ∙ ap (λ (x : Bool). if x then Some untried else None) one in
      tried.unread c l (λ t. let no : None ≡ Some untried = sym t.fine ∙ was in cc)

  -- another gives two chunks at most
  outcome_few : (c : ℕ) (w : Option Why) → Outcome F name m mid new c w → GaveAtMost 2 (F.chunk_gets mid c) (F.chunk_gets new c)
  outcome_few c None outcome = record { given = 2; few = omega arith; is = outcome.1 }
  outcome_few c (Some Failed) outcome = gave_fewer 1 2 (F.chunk_gets mid c) (F.chunk_gets new c) (omega arith) outcome.1
  outcome_few c (Some (Row r how)) outcome = let pair : r < 2 = (outcome.0 told).pair in gave_fewer (r + 1) 2 (F.chunk_gets mid c) (F.chunk_gets new c) (omega (arith, pair)) outcome.1

  other_few : (c : ℕ) → c < F.clouds mid → (w : Option Why) → why_at before c ≡ w → GaveAtMost 2 (F.chunk_gets mid c) (F.chunk_gets new c)
  other_few c l None is = elim (cases_lt c b) [
    | inl low ↦ outcome_few c (why_at whys c) (tried.tried c l (record { from = omega arith; below = low; fine = is }))
    | inr high ↦ subst (GaveAtMost 2 (F.chunk_gets mid c)) (sym (tried.unread c l (λ t. let low : c < b = t.below in absurd (omega (arith, low, high))))) (gave_none 2 (F.chunk_gets mid c))
  ]
  other_few c l (Some why) is =
      subst (GaveAtMost 2 (F.chunk_gets mid c)) (sym (tried.unread c l (λ t. let no : None ≡ Some why = sym t.fine ∙ is in cc))) (gave_none 2 (F.chunk_gets mid c))

  pub read_by : (before_gets : ℕ) (c : ℕ) → c < F.clouds mid → GaveAtMost 2 before_gets (F.chunk_gets mid c) → (P c ≡ false → F.chunk_gets mid c ≡ before_gets) → (on : Bool) → P c ≡ on → GaveAtMost 2 before_gets (F.chunk_gets new c)
  read_by k c l few unread true on = subst (GaveAtMost 2 k) (sym (named_unread c l on)) few
  read_by k c l few unread false on = subst (λ j. GaveAtMost 2 j (F.chunk_gets new c)) (unread on) (other_few c l (why_at before c) refl)

module _ {A : Type 0} (F : FleetGhosts A) (name : List ℕ) (m : Live) (P : Clouds) (old new : A) where
  abbrev n : ℕ
  n = F.clouds old

  abbrev Few : A → Type 0
  Few e = (c : ℕ) → c < n → GaveAtMost 2 (F.chunk_gets old c) (F.chunk_gets e c)

  looked_few : F.tells → (bad : ℕ → Clouds) (mid last : A) → Looked F name m P bad old mid last → (before whys : List (Option Why)) → AreUntried (F.clouds mid) P before → (b : ℕ) → TriedBetween F name m mid last 0 b before whys → Few last
  looked_few told bad mid last looked before whys marked b tried c l =
      let same : F.clouds mid ≡ n = looked.judged.looked.clouds in
      read_by F name m P mid last told before whys marked b tried (F.chunk_gets old c) c (omega (arith, l, same)) (looked.judged.few c) (looked.judged.unread c) (P c) refl

  lacking_few : F.tells → (bad : ℕ → Clouds) (mid : A) (why : RestoreFault) → Looked F name m P bad old mid new → LacksOutside F name m mid new P why → (why ≡ fault.Memory → ⊥) → Few new
  lacking_few told bad mid (fault.Short list) looked lacks other = looked_few told bad mid new looked lacks.before lacks.whys lacks.marked (F.clouds mid) lacks.tried
  lacking_few told bad mid (fault.Cloud c) looked lacks other = absurd lacks
  lacking_few told bad mid (fault.Unsound a b) looked lacks other = absurd lacks
  lacking_few told bad mid fault.Memory looked lacks other = absurd (other refl)

  pub did_gets : F.tells → (result : Result ℕ RestoreFault) → (result ≡ Err fault.Memory → ⊥) → RestoreDid F name m P old new result → Few new
  did_gets told result other (unsound a b kernel first same is) = subst Few (sym same) (λ c l. gave_none 2 (F.chunk_gets old c))
  did_gets told result other (unasked mds why fails is) = λ c l. fails.few c
  did_gets told result other (all_good mds bad judged none is) = λ c l. judged.few c
  did_gets told result other (lacking mds bad mid why looked lacks is) = lacking_few told bad mid why looked lacks (λ e. other (is ∙ ap (λ (f : RestoreFault). Err f) e))
  did_gets told result other (in_turn mds bad mid last looked w answer remade turn is) = λ c l.
      let kept : RoundsKeep F last new answer = rounds_keep (restore_rounds w) last new answer turn in
      let comes = remade.comes in
      subst (λ (f : ℕ → ℕ). GaveAtMost 2 (F.chunk_gets old c) (f c)) (sym kept.gets) (looked_few told bad mid last looked comes.before comes.whys comes.marked comes.up_to comes.tried c l)

  good_reads : (bad : ℕ → Clouds) → AreJudged F name m P old new bad → bad_count n bad ≡ 0 → (c : ℕ) → c < n → (on : Bool) → P c ≡ on → F.chunk_gets new c ≡ got_count (F.chunk_gets old c) (if on then 2 else 0)
  good_reads bad judged none c l true on = judged.gave c l on (none_there n (bad 0) (omega (arith, none)) c l) (none_there n (bad 1) (omega (arith, none)) c l)
  good_reads bad judged none c l false on = judged.unread c on ∙ got_none (F.chunk_gets old c)

  -- where nothing was written, both chunks of the clouds of P were read, and no others
  pub did_read : (result : Result ℕ RestoreFault) → RestoreDid F name m P old new result → IfOk result (λ count. count ≡ 0 → (c : ℕ) → c < n → F.chunk_gets new c ≡ got_count (F.chunk_gets old c) (if P c then 2 else 0))
  did_read result =
      did_ok F name m P old new (λ count. count ≡ 0 → (c : ℕ) → c < n → F.chunk_gets new c ≡ got_count (F.chunk_gets old c) (if P c then 2 else 0)) result (λ bad judged none zero_count c l. good_reads bad judged none c l (P c) refl)
      (λ bad made zero_count. let some : 0 < bad_count n bad = made.looked.some in absurd (omega (arith, some, zero_count)))
