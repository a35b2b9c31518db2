-- What the restoring of chunks leaves of a version that stands.
use Rattle.std.proofs.Common.{◌≡◌, ◌≢◌, ◌<◌, ◌+◌, ◌&&◌, ℕ, Bool, true, false, not, Some, List, Result, Ok, IfOk, refl, sym, ap, ◌∙◌, subst, arith}
use Rattle.nc_name.specs.Names.{IsName}
use Rattle.nc_cloud.specs.declared.deciding.RoundFault.{RoundFault}
use Rattle.nc_cloud.specs.declared.fleet.Job.{Job}
use Rattle.nc_cloud.specs.declared.fleet.Fleet.{Ghosts as FleetGhosts}
use Rattle.nc_cloud.specs.Contents.{Contents}
use Rattle.nc_cloud.specs.Fleet.{writes}
use Rattle.nc_cloud.specs.Images.{Image}
use Rattle.nc_cloud.specs.Rounds.{some_row}
use Rattle.nc_cloud.specs.Stopping.{Keeps}
use Rattle.nc_cloud.proofs.Time.{keeps_look, keeps_none, keeps_then}
use Rattle.nc_meta.specs.declared.meta.Live.{Live}
use Rattle.nc_meta.specs.declared.meta.Meta.TheVariants as meta
use Rattle.nc_mix.specs.Mixing.{AreChunksOf}
use Rattle.nc_state.specs.Clouds.{Clouds, count_of}
use Rattle.nc_state.specs.Commands.{RestsAt}
use Rattle.nc_state.specs.Right.{IsRight, PlacesStand, RightOn, is_right}
use Rattle.nc_state.specs.Rounds.{IsImage, LeavesAtRest}
use Rattle.nc_state.specs.Vaults.{ComesTo, Vault, version_in}
use Rattle.nc_state.specs.Versions.{IsValid, IsValidFor, Version}
use Rattle.nc_state.specs.Versions.Version.{Stored}
use Rattle.nc_state.proofs.CommandLaws.{stays_at_rest}
use Rattle.nc_state.proofs.RightTests.{right_is_tested}
use Rattle.nc_write.specs.declared.sealing.RowWrites.{RowWrites}
use Rattle.nc_write.specs.InTurn.{WroteInTurn}
use Rattle.nc_write.specs.Writes.{AreChunkWrites, chunk_key}
use Rattle.nc_download.proofs.ChunkLaws.{bad_row_is_damaged, right_not_bad}
use Rattle.nc_write.proofs.ChunkRounds.{both_right, right_still}
use Rattle.nc_restore.specs.declared.fault.RestoreFault.{RestoreFault}
use Rattle.nc_restore.specs.Restoring.{AreJudged, AreRestoreWrites, Looked, MadeOfFile, RestoreDid, bad_count, chosen_of, restore_rounds}
use Rattle.nc_restore.specs.Restoring.RestoreDid.{all_good, in_turn, lacking, unasked, unsound}
use Rattle.nc_restore.specs.Restored.{CountsWrong, RightRestored, StaysResting, wrong_at, wrong_count}
use Rattle.nc_repair.proofs.ChosenLaws.{version_is}
use Rattle.nc_restore.proofs.DoneLaws.{Made, counts_same, did_ok, judged_by, judged_good, looks_keep, none_there, writes_at}
use Rattle.nc_restore.proofs.FileLaws.{file_is}
use Rattle.nc_restore.proofs.RoundLaws.{BothWrote, both_wrote, turn_keeps}
use Rattle.nc_restore.proofs.RowLaws.{good_is_right, row_at_rest, row_is_right, row_untouched}

-- the test of a chunk, by what it is
wrong_by : (p b : Bool) (R : Type 0) (t : Bool) → ((t ≡ true → R) × (R → t ≡ true)) → (p ≡ true → b ≡ true → R → ⊥) → (p ≡ true → b ≡ false → R) → (b ≡ true → p ≡ true) → b ≡ (p && not t)
wrong_by true true R true test bad good only = absurd (bad refl refl (test.0 refl))
wrong_by true true R false test bad good only = refl
wrong_by true false R true test bad good only = refl
wrong_by true false R false test bad good only = let no : false ≡ true = test.1 (good refl refl) in absurd cc
wrong_by false true R t test bad good only = let no : false ≡ true = only refl in absurd cc
wrong_by false false R t test bad good only = refl

or_cases : (b : Bool) (R : Type 0) → (b ≡ true → R) → (b ≡ false → R) → R
or_cases true R yes_so no_so = yes_so refl
or_cases false R yes_so no_so = no_so refl

module _ {A : Type 0} (F : FleetGhosts A) (name : List ℕ) (m : Live) (P : Clouds) (old new : A) (told : F.tells) where
  abbrev n : ℕ
  n = F.clouds old

  -- of a version that stands by the metadata
  module _ (D : Clouds) (v : List ℕ) (valid : IsValidFor n m v) (places : PlacesStand n (F.held old) D name (Stored m v)) where
    -- the writes are made of it
    chunks_of_it : (mid last : A) (bad : ℕ → Clouds) (w : RowWrites) → Looked F name m P bad old mid last → (remade : MadeOfFile F name m P bad mid last w) → AreRestoreWrites n name m bad v w
    chunks_of_it mid last bad w looked remade =
        let clouds : F.clouds mid ≡ n = looked.judged.looked.clouds in
        let held : F.held mid ≡ F.held old = looked.judged.looked.held in
        let is : remade.file ≡ v =
        file_is F name m mid last P remade.file remade.comes told D v (subst (λ k. IsValidFor k m v) (sym clouds) valid)
        (subst (λ k. PlacesStand k (F.held mid) D name (Stored m v)) (sym clouds) (subst (λ (H : Contents). PlacesStand n H D name (Stored m v)) (sym held) places)) in
        subst (λ (f : List ℕ). AreRestoreWrites n name m bad f w) is (writes_at F name m P old new mid last bad w looked.judged remade)

    bad_is_damaged : (mid : A) (bad : ℕ → Clouds) → AreJudged F name m P old mid bad → (r : ℕ) → r < 2 → (c : ℕ) → c < n → bad r c ≡ true → D c ≡ true
    bad_is_damaged mid bad judged r pair c low is =
        let how = judged_by n name m (F.held old) c r (bad r c) is (judged.judged told c r low pair (judged.only c r pair is).1) in
        bad_row_is_damaged n name m v (F.held old) D valid places c r how.0 low pair how.1

    good_right : (mid : A) (bad : ℕ → Clouds) → AreJudged F name m P old mid bad → (r : ℕ) → r < 2 → (c : ℕ) → c < n → P c ≡ true → bad r c ≡ false → IsRight n (F.held old) (Stored m v) c (chunk_key name m r c)
    good_right mid bad judged r pair c low one is =
        let good = judged_good n name m (F.held old) c r (bad r c) is (judged.judged told c r low pair one) in
        good_is_right n name m v (F.held old) D places c r good.0 low pair good.1

    -- a chunk is judged bad exactly where it isn't right
    bad_is_wrong : IsName name → (mid : A) (bad : ℕ → Clouds) → AreJudged F name m P old mid bad → (r : ℕ) → r < 2 → (c : ℕ) → c < n → bad r c ≡ wrong_at n name m v P (F.held old) r c
    bad_is_wrong is_name mid bad judged r pair c low =
        wrong_by (P c) (bad r c) (IsRight n (F.held old) (Stored m v) c (chunk_key name m r c)) (is_right n (F.held old) (Stored m v) c (chunk_key name m r c))
        (right_is_tested n (F.held old) name (Stored m v) c (chunk_key name m r c) is_name valid low (refl, refl, pair))
        (λ one is right. let how = judged_by n name m (F.held old) c r (bad r c) is (judged.judged told c r low pair one) in right_not_bad n name m v (F.held old) D valid places c r how.0 low pair how.1 right)
        (λ one is. good_right mid bad judged r pair c low one is) (λ is. (judged.only c r pair is).1)

    counts_wrong : IsName name → (mid : A) (bad : ℕ → Clouds) → AreJudged F name m P old mid bad → bad_count n bad ≡ wrong_count n name m v P (F.held old)
    counts_wrong is_name mid bad judged =
        ap (λ k. k + count_of n (bad 1)) (counts_same n (bad 0) (wrong_at n name m v P (F.held old) 0) (bad_is_wrong is_name mid bad judged 0 (omega arith)))
        ∙ ap (λ k. count_of n (wrong_at n name m v P (F.held old) 0) + k) (counts_same n (bad 1) (wrong_at n name m v P (F.held old) 1) (bad_is_wrong is_name mid bad judged 1 (omega arith)))

    -- where no chunk is bad, all are right
    right_where_good : (mid : A) (bad : ℕ → Clouds) → AreJudged F name m P old mid bad → bad_count n bad ≡ 0 → (G : Contents) → G ≡ F.held old → (c : ℕ) → c < n → P c ≡ true → RightOn n G name (Stored m v) c
    right_where_good mid bad judged none G same c low one =
        let at : (r : ℕ) → r < 2 → bad r c ≡ false → IsRight n G (Stored m v) c (chunk_key name m r c) =
        λ r pair is. subst (λ (H : Contents). IsRight n H (Stored m v) c (chunk_key name m r c)) (sym same) (good_right mid bad judged r pair c low one is) in
        both_right n G name m v c (at 0 (omega arith) (none_there n (bad 0) (omega (arith, none)) c low)) (at 1 (omega arith) (none_there n (bad 1) (omega (arith, none)) c low))

    -- once the bad ones are written, too
    module _ (bad : ℕ → Clouds) (made : Made F name m P old new bad (Ok tt)) where
      abbrev are : AreRestoreWrites n name m bad v made.w
      are = chunks_of_it made.mid made.last bad made.w made.looked made.remade

      wrote : BothWrote F (writes made.w.first.items) (writes made.w.second.items) made.last new
      wrote = both_wrote F (writes made.w.first.items) (writes made.w.second.items) made.last new made.turn

      held_last : F.held made.last ≡ F.held old
      held_last = made.looked.looked.held ∙ made.looked.judged.looked.held

      was_right : (r : ℕ) → r < 2 → (c : ℕ) → c < n → P c ≡ true → bad r c ≡ false → IsRight n (F.held made.last) (Stored m v) c (chunk_key name m r c)
      was_right r pair c low one is = subst (λ (H : Contents). IsRight n H (Stored m v) c (chunk_key name m r c)) (sym held_last) (good_right made.mid bad made.looked.judged r pair c low one is)

      other_row : (c q r : ℕ) → q ≢ r → chunk_key name m q c ≡ chunk_key name m r c → ⊥
      other_row c q r differs e = differs cc

      -- round 0 leaves row 1, and what isn't bad of row 0
      first_leaves : (c q : ℕ) → (q ≢ 0) → F.held (wrote.mid) c (chunk_key name m q c) ≡ F.held made.last c (chunk_key name m q c)
      first_leaves c q differs =
          row_untouched n name m (bad 0) 0 are.chunks made.w.first.items are.row_0 (F.held made.last) (F.held wrote.mid) c (chunk_key name m q c) (wrote.first.image told) (λ low is at. other_row c q 0 differs at)

      second_leaves : (c q : ℕ) → (q ≢ 1) → F.held new c (chunk_key name m q c) ≡ F.held (wrote.mid) c (chunk_key name m q c)
      second_leaves c q differs =
          row_untouched n name m (bad 1) 1 are.chunks made.w.second.items are.row_1 (F.held wrote.mid) (F.held new) c (chunk_key name m q c) (wrote.second.image told) (λ low is at. other_row c q 1 differs at)

      right_after_first : (c : ℕ) → c < n → P c ≡ true → IsRight n (F.held wrote.mid) (Stored m v) c (chunk_key name m 0 c)
      right_after_first c low one =
          or_cases (bad 0 c) (IsRight n (F.held wrote.mid) (Stored m v) c (chunk_key name m 0 c))
          (λ is. row_is_right n name m (bad 0) 0 are.chunks made.w.first.items are.row_0 v valid.stored.width (omega arith) are.are (F.held made.last) (F.held wrote.mid) (wrote.first.done told) c low is)
          (λ is. right_still n (F.held made.last) (F.held wrote.mid) (Stored m v) c (chunk_key name m 0 c)
          (row_untouched n name m (bad 0) 0 are.chunks made.w.first.items are.row_0 (F.held made.last) (F.held wrote.mid) c (chunk_key name m 0 c) (wrote.first.image told) (λ l yes_so at. let no : true ≡ false = sym yes_so ∙ is in cc))
          (was_right 0 (omega arith) c low one is))

      right_after_second : (c : ℕ) → c < n → P c ≡ true → IsRight n (F.held new) (Stored m v) c (chunk_key name m 1 c)
      right_after_second c low one =
          or_cases (bad 1 c) (IsRight n (F.held new) (Stored m v) c (chunk_key name m 1 c))
          (λ is. row_is_right n name m (bad 1) 1 are.chunks made.w.second.items are.row_1 v valid.stored.width (omega arith) are.are (F.held wrote.mid) (F.held new) (wrote.second.done told) c low is)
          (λ is. right_still n (F.held wrote.mid) (F.held new) (Stored m v) c (chunk_key name m 1 c)
          (row_untouched n name m (bad 1) 1 are.chunks made.w.second.items are.row_1 (F.held wrote.mid) (F.held new) c (chunk_key name m 1 c) (wrote.second.image told) (λ l yes_so at. let no : true ≡ false = sym yes_so ∙ is in cc))
          (right_still n (F.held made.last) (F.held wrote.mid) (Stored m v) c (chunk_key name m 1 c) (first_leaves c 1 (λ e. absurd (omega (arith, e)))) (was_right 1 (omega arith) c low one is)))

      right_where_made : (c : ℕ) → c < n → P c ≡ true → RightOn n (F.held new) name (Stored m v) c
      right_where_made c low one =
          both_right n (F.held new) name m v c
          (right_still n (F.held wrote.mid) (F.held new) (Stored m v) c (chunk_key name m 0 c) (second_leaves c 0 (λ e. absurd (omega (arith, e)))) (right_after_first c low one)) (right_after_second c low one)

  pub did_right : (result : Result ℕ RestoreFault) → RestoreDid F name m P old new result → IfOk result (λ count. RightRestored n name m P (F.held old) (F.held new))
  did_right result =
      did_ok F name m P old new (λ count. RightRestored n name m P (F.held old) (F.held new)) result
      (λ bad judged none. record { each = λ D v valid places c low one. right_where_good D v valid places new bad judged none (F.held new) judged.looked.held c low one })
      (λ bad made. record { each = λ D v valid places c low one. right_where_made D v valid places bad made c low one })

  pub did_counts : IsName name → (result : Result ℕ RestoreFault) → RestoreDid F name m P old new result → IfOk result (CountsWrong n name m P (F.held old))
  did_counts is_name result =
      did_ok F name m P old new (CountsWrong n name m P (F.held old)) result
      (λ bad judged none. record { each = λ D v valid places. sym none ∙ counts_wrong D v valid places is_name new bad judged })
      (λ bad made. record { each = λ D v valid places. counts_wrong D v valid places is_name made.mid bad made.looked.judged })

  -- ---- at rest

  module _ (is_name : IsName name) (V : Vault) (comes : ComesTo n name V (F.held old) (Some (meta.Live m))) where
    abbrev x : Version
    x = version_in n V name

    abbrev AtRest : Contents → Type 0
    AtRest G = RestsAt n G V.entries V.damaged name x

    rest_step : (v : List ℕ) → x ≡ Stored m v → (bad : Clouds) (r : ℕ) → r < 2 → (chunks : List (List ℕ)) (jobs : List Job) → AreChunkWrites n name m r (some_row (chosen_of chunks bad r) 0 n) jobs → m.code.width ≡ n
        → AreChunksOf m.code v chunks → ((c : ℕ) → c < n → bad c ≡ true → V.damaged c ≡ true) → (H G : Contents) → AtRest H → Image (writes jobs) H G → AtRest G
    rest_step v is bad r pair chunks jobs made width are damaged H G rests image =
        stays_at_rest n H G V.entries V.damaged name x is_name rests
        (subst (λ (y : Version). IsImage n (LeavesAtRest n V.damaged name y) H G) (sym is) (row_at_rest n name m bad r chunks jobs made v width pair are V.damaged H G damaged image))

    turn_rests : (mid last : A) (bad : ℕ → Clouds) (w : RowWrites) (answer : Result (Unit {0}) RoundFault) → Looked F name m P bad old mid last → MadeOfFile F name m P bad mid last w → WroteInTurn F (restore_rounds w) last new answer → Keeps F old new AtRest
    turn_rests mid last bad w answer looked remade turn =
        let x_is = version_is x m comes.is_top in
        let valid : IsValidFor n m x_is.0 = subst (IsValid n) x_is.1 comes.rests.rests.valid in
        let places : PlacesStand n (F.held old) V.damaged name (Stored m x_is.0) = subst (PlacesStand n (F.held old) V.damaged name) x_is.1 comes.rests.rests.places in
        let are : AreRestoreWrites n name m bad x_is.0 w = chunks_of_it V.damaged x_is.0 valid places mid last bad w looked remade in
        let first : Keeps F old last AtRest = looks_keep F AtRest looked.judged.looked.held looked.judged.stops looked.looked.held looked.stops comes.rests in
        keeps_then first
        (turn_keeps F AtRest told (restore_rounds w) last new answer (
          rest_step x_is.0 x_is.1 (bad 0) 0 (omega arith) are.chunks w.first.items are.row_0 valid.stored.width are.are (bad_is_damaged V.damaged x_is.0 valid places mid bad looked.judged 0 (omega arith)),
          (rest_step x_is.0 x_is.1 (bad 1) 1 (omega arith) are.chunks w.second.items are.row_1 valid.stored.width are.are (bad_is_damaged V.damaged x_is.0 valid places mid bad looked.judged 1 (omega arith)), tt),
        ) first.here turn)

    rests_in : (result : Result ℕ RestoreFault) → RestoreDid F name m P old new result → Keeps F old new AtRest
    rests_in result (unsound a b kernel first same is) = subst (λ (e : A). Keeps F old e AtRest) (sym same) (keeps_none old AtRest comes.rests)
    rests_in result (unasked mds why fails is) = keeps_look AtRest fails.looked.held fails.stops comes.rests
    rests_in result (all_good mds bad judged none is) = keeps_look AtRest judged.looked.held judged.stops comes.rests
    rests_in result (lacking mds bad mid why looked lacks is) = looks_keep F AtRest looked.judged.looked.held looked.judged.stops looked.looked.held looked.stops comes.rests
    rests_in result (in_turn mds bad mid last looked w answer remade turn is) = turn_rests mid last bad w answer looked remade turn

  pub did_rest : IsName name → (result : Result ℕ RestoreFault) → RestoreDid F name m P old new result → StaysResting F n name (Some (meta.Live m)) old new
  did_rest is_name result did = record { each = λ V comes. rests_in is_name V comes result did }
