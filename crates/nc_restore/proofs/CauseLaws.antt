-- Why chunks weren't restored.
use Rattle.std.proofs.Common.{◌≡◌, ◌<◌, ◌≤◌, ℕ, true, List, All, Result, Ok, Err, IfErr, IfOk, inl, inr, refl, sym, ap, ◌∙◌, subst, arith}
use Rattle.std.proofs.lemmas.Bool.{cases_lt}
use Rattle.nc_name.specs.declared.key.Key.{Key}
use Rattle.nc_cloud.specs.declared.deciding.RoundFault.{RoundFault}
use Rattle.nc_cloud.specs.declared.deciding.RoundFault.TheVariants as round
use Rattle.nc_cloud.specs.declared.fleet.Job.{Job}
use Rattle.nc_cloud.specs.declared.fleet.Fleet.{Ghosts as FleetGhosts}
use Rattle.nc_cloud.specs.Contents.{Rose, Write}
use Rattle.nc_cloud.specs.Deciding.{HasCause}
use Rattle.nc_cloud.specs.Fleet.{writes}
use Rattle.nc_cloud.specs.Rounds.{some_row}
use Rattle.nc_meta.specs.declared.meta.Live.{Live}
use Rattle.nc_state.specs.Clouds.{Clouds, count_of}
use Rattle.nc_fetch.proofs.SomeLists.{some_all_of}
use Rattle.nc_download.specs.declared.short.Bad.{Bad}
use Rattle.nc_write.specs.Writes.{AreChunkWrites, chunk_key}
use Rattle.nc_write.proofs.InTurnLaws.{RoundsKeep, rounds_keep}
use Rattle.nc_restore.specs.declared.fault.RestoreFault.{RestoreFault}
use Rattle.nc_restore.specs.Asking.{IsOf, fault_of}
use Rattle.nc_restore.specs.Restoring.{AreJudged, AreRestoreWrites, Looked, RestoreDid, TooFewOutside, bad_count, chosen_of, restore_rounds, restore_write}
use Rattle.nc_restore.specs.Restored.{HasRestoreCause, IfShort, IsBadPlace, IsFirstOf, RestoreIsShort}
use Rattle.nc_restore.proofs.DoneLaws.{Made, bad_place, did_err, did_ok, some_there, writes_at}
use Rattle.nc_restore.proofs.FileLaws.{outside_clean}
use Rattle.nc_restore.proofs.MakeLaws.{write_cloud, write_is, writes_are}
use Rattle.nc_restore.proofs.RoundLaws.{turn_blames}

module _ {A : Type 0} (F : FleetGhosts A) (name : List ℕ) (m : Live) (P : Clouds) (old new : A) (inside : (c : ℕ) → P c ≡ true → c < F.clouds old) where
  abbrev n : ℕ
  n = F.clouds old

  -- ---- counts of the clouds of P

  abbrev Clean : A → Type 0
  Clean e = F.counts_exactly → (c : ℕ) → P c ≡ true → F.faults e c ≡ F.faults old c

  -- none rose while the file was sought
  short_clean : (list : List Bad) (bad : ℕ → Clouds) (mid : A) → Looked F name m P bad old mid new → TooFewOutside F name m mid new P list → Clean new
  short_clean list bad mid looked few exact c one =
      let same : F.clouds mid ≡ n = looked.judged.looked.clouds in
      let low : c < F.clouds mid = omega (arith, inside c one, same) in
      outside_clean F name m mid new few.before few.whys P (F.clouds mid) c low one few.marked few.tried (few.alone exact) ∙ looked.judged.clean exact c

  made_clean : (bad : ℕ → Clouds) (answer : Result (Unit {0}) RoundFault) (made : Made F name m P old new bad answer) → Clean made.last
  made_clean bad answer made exact c one =
      let same : F.clouds made.mid ≡ n = made.looked.judged.looked.clouds in
      let low : c < F.clouds made.mid = omega (arith, inside c one, same) in
      let comes = made.remade.comes in
      outside_clean F name m made.mid made.last comes.before comes.whys P comes.up_to c low one comes.marked comes.tried (comes.alone exact) ∙ made.looked.judged.clean exact c

  pub did_clean : F.counts_exactly → (result : Result ℕ RestoreFault) → RestoreDid F name m P old new result → IfOk result (λ count. (c : ℕ) → P c ≡ true → F.faults new c ≡ F.faults old c)
  did_clean exact result =
      did_ok F name m P old new (λ count. (c : ℕ) → P c ≡ true → F.faults new c ≡ F.faults old c) result (λ bad judged none c one. judged.clean exact c)
      (λ bad made c one.
      let kept : RoundsKeep F made.last new (Ok tt) = rounds_keep (restore_rounds made.w) made.last new (Ok tt) made.turn in
      kept.counts.clean exact c ∙ made_clean bad (Ok tt) made exact c one)

  -- ---- which cloud failed

  asked_cause : (why : RoundFault) → HasCause F.counts_exactly (F.faults old) (F.faults new) why → IsOf P why → HasRestoreCause F.counts_exactly P (F.faults old) (F.faults new) (fault_of why)
  asked_cause (round.Cloud c) cause of = record { one = of; rose = cause.0; lower = λ exact d l one. cause.1 exact d l }
  asked_cause round.Memory cause of = tt

  -- the writes are on clouds of P
  row_among : (mid : A) (bad : ℕ → Clouds) → AreJudged F name m P old mid bad → (r : ℕ) → r < 2 → (chunks : List (List ℕ)) (jobs : List Job) → AreChunkWrites n name m r (some_row (chosen_of chunks (bad r) r) 0 n) jobs
      → All (λ p. P p.cloud ≡ true) (writes jobs)
  row_among mid bad judged r pair chunks jobs made =
      subst (λ (ps : List Write). All (λ p. P p.cloud ≡ true) ps) (sym (writes_are chunks (bad r) r n name m jobs made))
      (some_all_of (λ p. P p.cloud ≡ true) (restore_write n name m chunks (bad r) r) 0 n
      (λ c p low l e.
      let is = write_is chunks (bad r) r n name m c p e in
      subst (λ k. P k ≡ true) (sym (write_cloud chunks (bad r) r n name m c p e)) (judged.only c r pair is.0).1))

  made_cause : (c : ℕ) (bad : ℕ → Clouds) → Made F name m P old new bad (Err (round.Cloud c)) → IsFirstOf F.counts_exactly P (F.faults old) (F.faults new) c
  made_cause c bad made =
      let kept : RoundsKeep F made.last new (Err (round.Cloud c)) = rounds_keep (restore_rounds made.w) made.last new (Err (round.Cloud c)) made.turn in
      let are : AreRestoreWrites n name m bad made.remade.file made.w = writes_at F name m P old new made.mid made.last bad made.w made.looked.judged made.remade in
      record {
        one = turn_blames F P (restore_rounds made.w) made.last new c (
          row_among made.mid bad made.looked.judged 0 (omega arith) are.chunks made.w.first.items are.row_0,
          (row_among made.mid bad made.looked.judged 1 (omega arith) are.chunks made.w.second.items are.row_1, tt),
        ) made.turn;
        rose =
            let rose : Rose (F.faults made.last c) (F.faults new c) = kept.counts.cause.0 in
            let first : F.faults old c ≤ F.faults made.mid c = made.looked.judged.looked.grows c in
            let second : F.faults made.mid c ≤ F.faults made.last c = made.looked.looked.grows c in
            omega (arith, rose, first, second);
        lower = λ exact d l one. kept.counts.cause.1 exact d l ∙ made_clean bad (Err (round.Cloud c)) made exact d one;
      }

  pub did_cause : (result : Result ℕ RestoreFault) → RestoreDid F name m P old new result → IfErr result (HasRestoreCause F.counts_exactly P (F.faults old) (F.faults new))
  did_cause result =
      did_err F name m P old new (HasRestoreCause F.counts_exactly P (F.faults old) (F.faults new)) result tt (λ a b same d. ap (λ (e : A). F.faults e d) same)
      (λ why fails. subst (HasRestoreCause F.counts_exactly P (F.faults old) (F.faults new)) (sym fails.is) (asked_cause fails.why fails.cause fails.one))
      (λ list bad mid looked few. short_clean list bad mid looked few) (λ c bad made. made_cause c bad made)

  -- ---- too few clouds

  if_short : (Q : List Bad → Type 0) (why : RoundFault) → IfShort Q (fault_of why)
  if_short Q (round.Cloud c) = tt
  if_short Q round.Memory = tt

  some_bad : F.tells → (bad : ℕ → Clouds) (mid : A) → AreJudged F name m P old mid bad → 0 < bad_count n bad → (c : ℕ) × (place : Key) × IsBadPlace n name m P (F.held old) c place
  some_bad told bad mid judged some = elim (cases_lt 0 (count_of n (bad 0))) [
    | inl first ↦
        let found = some_there n (bad 0) first in
        (found.0, chunk_key name m 0 found.0, bad_place F name m P old new told mid bad judged found.0 0 (omega arith) found.2 (chunk_key name m 0 found.0) refl)
    | inr none ↦
        let found = some_there n (bad 1) (omega (arith, some, none)) in
        (found.0, chunk_key name m 1 found.0, bad_place F name m P old new told mid bad judged found.0 1 (omega arith) found.2 (chunk_key name m 1 found.0) refl)
  ]

  pub did_short : (result : Result ℕ RestoreFault) → RestoreDid F name m P old new result → IfErr result (IfShort (RestoreIsShort F name m P old new))
  did_short result =
      did_err F name m P old new (IfShort (RestoreIsShort F name m P old new)) result tt (λ a b same. tt)
      (λ why fails. subst (IfShort (RestoreIsShort F name m P old new)) (sym fails.is) (if_short (RestoreIsShort F name m P old new) fails.why))
      (λ list bad mid looked few. record { bad = λ told. some_bad told bad mid looked.judged looked.some; mid = mid; looked = looked.judged.looked; lacks = few }) (λ c bad made. tt)
