-- What follows of what a repair did.
use Rattle.std.proofs.Common.{◌≡◌, ◌<◌, ◌≤◌, ℕ, Some, List, [], ◌∷◌, Result, Ok, Err, IfErr, IfOk, IfSome, refl, sym, ap, ◌∙◌, subst, arith}
use Rattle.nc_name.specs.Names.{IsName}
use Rattle.nc_code.specs.Parts.{IsPlan, PlanParts}
use Rattle.nc_meta.specs.declared.meta.Live.{Live}
use Rattle.nc_meta.specs.declared.meta.Meta.{Meta}
use Rattle.nc_meta.specs.declared.meta.Meta.TheVariants as meta
use Rattle.nc_meta.specs.Metas.{IsLive, IsMeta}
use Rattle.nc_nextloss.specs.GoodCodes.{GoodParts}
use Rattle.nc_cloud.specs.declared.deciding.RoundFault.{RoundFault}
use Rattle.nc_cloud.specs.declared.deciding.RoundFault.TheVariants as round
use Rattle.nc_cloud.specs.declared.fleet.Fleet.{Ghosts as FleetGhosts}
use Rattle.nc_cloud.specs.Contents.{Contents, Grows}
use Rattle.nc_cloud.specs.Deciding.{OnlyLooked}
use Rattle.nc_cloud.specs.Fleet.{got_count}
use Rattle.nc_cloud.specs.Stopping.{GoesOn, Keeps, Stops}
use Rattle.nc_cloud.proofs.Time.{goes_none, goes_then, keeps_by, keeps_look, keeps_then}
use Rattle.nc_fetch.specs.Asking.{GaveAtMost}
use Rattle.nc_settle.specs.declared.settled.Settled.{Settled}
use Rattle.nc_state.specs.Holding.{AllHold, HoldsIfAny}
use Rattle.nc_state.specs.Right.{PlacesStand, RightOn}
use Rattle.nc_state.specs.Vaults.{BeginsMaking, ChangesOnlyName, ComesTo, MayBegin, MayDo, Vault, version_in}
use Rattle.nc_state.specs.Versions.{IsValid}
use Rattle.nc_state.specs.Versions.Version.{Stored}
use Rattle.nc_state.proofs.Alone.{alone_none}
use Rattle.nc_write.specs.declared.sealing.VersionWrites.{VersionWrites}
use Rattle.nc_write.specs.InTurn.{WroteInTurn, rounds_of}
use Rattle.nc_write.proofs.ChunkRounds.{chunks_of_name, metas_held, metas_of_name}
use Rattle.nc_write.proofs.DoingLaws.{begins_none, unmade}
use Rattle.nc_write.proofs.InTurnLaws.{AllOfName, RoundsKeep, rounds_alone, rounds_keep}
use Rattle.nc_write.proofs.VersionRounds.{WroteAll, held_on, right_on, version_begun, version_done, wrote_all}
use Rattle.nc_repair.specs.declared.fault.RepairFault.{RepairFault}
use Rattle.nc_repair.specs.declared.fault.RepairFault.TheVariants as fault
use Rattle.nc_repair.specs.Mending.{IsMendOf, IsRepaired, MendsWith}
use Rattle.nc_repair.specs.Remaking.{NotRemade, Remade}
use Rattle.nc_repair.specs.Repairing.{GoodBelow, HasRepairCause, IfDamaged, IsGoodBy, IsMendedTop, IsWornOut, RepairDid, RightAgain, StopsRepair, answer_by, fetched_of}
use Rattle.nc_mix.specs.declared.pieces.Pair.{Pair}
use Rattle.sha2.specs.Sha256.{sha256}
use Rattle.nc_repair.specs.Repairing.RepairDid.{was_worn, not_made, unsealed, in_turn}
use Rattle.nc_repair.proofs.CauseLaws.{first_in_all}
use Rattle.nc_repair.proofs.NewLaws.{new_cloud_is_good}
use Rattle.nc_repair.proofs.ChosenLaws.{repaired_by, replaces, version_is}
use Rattle.nc_repair.proofs.RemakingLaws.{remade_clean, remade_few, remade_gets, remade_good, remade_long, remade_of_file, stop_why, why_cause, why_few, why_looked, why_not_worn, why_stops}

-- ---- answers

by_answer : (P : Result Settled RepairFault → Type 0) {result r : Result Settled RepairFault} → result ≡ r → P r → P result
by_answer P is p = subst P (sym is) p

-- what holds where the rounds were Ok
if_made : (P : Settled → Type 0) (m : Meta) (answer : Result (Unit {0}) RoundFault) → (answer ≡ Ok tt → P (record { top = Some m })) → IfOk (answer_by m answer) P
if_made P m (Ok done) made = made refl
if_made P m (Err (round.Cloud c)) made = tt
if_made P m (Err round.Memory) made = tt

-- what holds where they weren't
if_unmade : (P : RepairFault → Type 0) (m : Meta) (answer : Result (Unit {0}) RoundFault) → P fault.Memory → ((c : ℕ) → answer ≡ Err (round.Cloud c) → P (fault.Cloud c)) → IfErr (answer_by m answer) P
if_unmade P m (Ok done) memory cloud = tt
if_unmade P m (Err (round.Cloud c)) memory cloud = cloud c refl
if_unmade P m (Err round.Memory) memory cloud = memory

damaged_has : (P : Type 0) (why : RepairFault) → P → IfDamaged P why
damaged_has P (fault.Cloud c) p = tt
damaged_has P (fault.Damaged c r how) p = p
damaged_has P fault.Worn p = tt
damaged_has P fault.Memory p = tt

not_worn_by : (m : Meta) (answer : Result (Unit {0}) RoundFault) → answer_by m answer ≡ Err fault.Worn → ⊥
not_worn_by m (Ok done) e = absurd cc
not_worn_by m (Err (round.Cloud c)) e = absurd cc
not_worn_by m (Err round.Memory) e = absurd cc

-- the new chunks were made, and the writes were made of these, and made in turn
record Made {A : Type 0} (F : FleetGhosts A) (name : List ℕ) (m : Live) (plan : PlanParts) (lost : ℕ) (good : GoodParts) (old new : A) (w : VersionWrites) (answer : Result (Unit {0}) RoundFault) : Type 0 where
  pub pair : Pair
  pub mid : A
  pub remade : Remade F name m plan lost old mid pair
  pub mends : MendsWith (F.clouds old) name lost m plan good pair w
  pub turn : WroteInTurn F (rounds_of w) mid new answer

-- what it leaves as it is, and what it only lets grow
pub record RepairKeeps {A : Type 0} (F : FleetGhosts A) (old new : A) : Type 0 where
  pub clouds : F.clouds new ≡ F.clouds old
  pub grows : Grows (F.faults old) (F.faults new)
  pub slips : F.slips new ≡ F.slips old
  pub time : GoesOn F old new

module _ {A : Type 0} (F : FleetGhosts A) (name : List ℕ) (m : Live) (plan : PlanParts) (lost : ℕ) (good : GoodParts) (old new : A) (result : Result Settled RepairFault) where
  -- what holds where it is done
  did_ok : (P : Settled → Type 0) → ((w : VersionWrites) → Made F name m plan lost good old new w (Ok tt) → P (record { top = Some (meta.Live w.live) })) → RepairDid F name m plan lost good old new result → IfOk result P
  did_ok P each (was_worn worn same is) = by_answer (λ r. IfOk r P) is tt
  did_ok P each (not_made more why because is) = by_answer (λ r. IfOk r P) is tt
  did_ok P each (unsealed more pair made is) = by_answer (λ r. IfOk r P) is tt
  did_ok P each (in_turn more pair mid made w answer mends turn is) =
      by_answer (λ r. IfOk r P) is
      (if_made P (meta.Live w.live) answer
      (λ ok. each w (record { pair = pair; mid = mid; remade = made; mends = mends; turn = subst (λ (r : Result (Unit {0}) RoundFault). WroteInTurn F (rounds_of w) mid new r) ok turn })))

  -- what holds where it isn't
  did_err : (P : RepairFault → Type 0) → (IsWornOut m → P fault.Worn) → P fault.Memory
      → ((why : RepairFault) → NotRemade F name m plan lost old new why → P why)
      → ((w : VersionWrites) (c : ℕ) → Made F name m plan lost good old new w (Err (round.Cloud c)) → P (fault.Cloud c)) → RepairDid F name m plan lost good old new result → IfErr result P
  did_err P none memory stop cloud (was_worn worn same is) = by_answer (λ r. IfErr r P) is (none worn)
  did_err P none memory stop cloud (not_made more why because is) = by_answer (λ r. IfErr r P) is (stop why because)
  did_err P none memory stop cloud (unsealed more pair made is) = by_answer (λ r. IfErr r P) is memory
  did_err P none memory stop cloud (in_turn more pair mid made w answer mends turn is) =
      by_answer (λ r. IfErr r P) is
      (if_unmade P (meta.Live w.live) answer memory
      (λ c failed. cloud w c (record { pair = pair; mid = mid; remade = made; mends = mends; turn = subst (λ (r : Result (Unit {0}) RoundFault). WroteInTurn F (rounds_of w) mid new r) failed turn })))

  -- nothing changed
  same_keeps : new ≡ old → RepairKeeps F old new
  same_keeps same = subst (λ (e : A). RepairKeeps F old e) (sym same) (record { clouds = refl; grows = λ c. omega arith; slips = refl; time = goes_none old })

  -- the clouds were only looked at
  looked_keeps : OnlyLooked F old new → Stops F old new (λ G. G ≡ F.held old) → RepairKeeps F old new
  looked_keeps looked stops = record { clouds = looked.clouds; grows = looked.grows; slips = looked.slips; time = stops.time }

  pub did_keep : RepairDid F name m plan lost good old new result → RepairKeeps F old new
  did_keep (was_worn worn same is) = same_keeps same
  did_keep (not_made more why because is) = looked_keeps (why_looked F name m plan lost old new why because) (why_stops F name m plan lost old new why because)
  did_keep (unsealed more pair made is) = looked_keeps made.asked.looked made.asked.stops
  did_keep (in_turn more pair mid made w answer mends turn is) =
      let kept : RoundsKeep F mid new answer = rounds_keep (rounds_of w) mid new answer turn in
      record {
        clouds = kept.clouds ∙ made.asked.looked.clouds;
        grows = λ c. let first : F.faults old c ≤ F.faults mid c = made.asked.looked.grows c in let then : F.faults mid c ≤ F.faults new c = kept.grows c in omega (arith, first, then);
        slips = kept.slips ∙ made.asked.looked.slips;
        time = goes_then made.asked.stops.time kept.time;
      }

  pub did_worn : RepairDid F name m plan lost good old new result → IsWornOut m → (result ≡ Err fault.Worn) × (new ≡ old)
  did_worn (was_worn worn same is) at = (is, same)
  did_worn (not_made more why because is) at = absurd (more at)
  did_worn (unsealed more pair made is) at = absurd (more at)
  did_worn (in_turn more pair mid made w answer mends turn is) at = absurd (more at)

  pub did_not_worn : RepairDid F name m plan lost good old new result → result ≡ Err fault.Worn → IsWornOut m
  did_not_worn (was_worn worn same is) e = worn
  did_not_worn (not_made more why because is) e = let wrong : Err why ≡ Err fault.Worn = sym is ∙ e in absurd (why_not_worn F name m plan lost old new why because cc)
  did_not_worn (unsealed more pair made is) e = let wrong : Err fault.Memory ≡ Err fault.Worn = sym is ∙ e in absurd cc
  did_not_worn (in_turn more pair mid made w answer mends turn is) e = absurd (not_worn_by (meta.Live w.live) answer (sym is ∙ e))

  pub did_made : RepairDid F name m plan lost good old new result → IfOk result (λ s. IsMendedTop lost m good s.top)
  did_made =
      did_ok (λ s. IsMendedTop lost m good s.top)
      (λ w t. record { zero = sha256 t.pair.zero; one = sha256 t.pair.one; is = ap (λ (l : Live). Some (meta.Live l)) t.mends.made.is })

  pub did_fits : RepairDid F name m plan lost good old new result → IfOk result (λ s. IfSome s.top (IsMeta (F.clouds old)))
  did_fits = did_ok (λ s. IfSome s.top (IsMeta (F.clouds old))) (λ w t. t.mends.made.fits)

  -- ---- only the name changes

  of_name : (w : VersionWrites) (pair : Pair) → MendsWith (F.clouds old) name lost m plan good pair w → AllOfName name (rounds_of w)
  of_name w pair mends =
      let made = mends.made.made in (
        chunks_of_name (F.clouds old) name w.live 0 _ w.first.items made.row_0,
        (chunks_of_name (F.clouds old) name w.live 1 _ w.second.items made.row_1, (metas_of_name (F.clouds old) name (meta.Live w.live) w.metas.items made.metas_are, tt)),
      )

  looked_alone : (mid : A) → OnlyLooked F old mid → Stops F old mid (λ G. G ≡ F.held old) → Keeps F old mid (ChangesOnlyName name (F.held old))
  looked_alone mid looked stops = keeps_look (ChangesOnlyName name (F.held old)) looked.held stops (record { others = λ c place other. refl })

  same_alone : new ≡ old → Keeps F old new (ChangesOnlyName name (F.held old))
  same_alone same = subst (λ (e : A). Keeps F old e (ChangesOnlyName name (F.held old))) (sym same) (alone_none F name old)

  pub did_alone : F.tells → RepairDid F name m plan lost good old new result → Keeps F old new (ChangesOnlyName name (F.held old))
  did_alone told (was_worn worn same is) = same_alone same
  did_alone told (not_made more why because is) = looked_alone new (why_looked F name m plan lost old new why because) (why_stops F name m plan lost old new why because)
  did_alone told (unsealed more pair made is) = looked_alone new made.asked.looked made.asked.stops
  did_alone told (in_turn more pair mid made w answer mends turn is) =
      keeps_then (looked_alone mid made.asked.looked made.asked.stops)
      (subst (λ (H : Contents). Keeps F mid new (ChangesOnlyName name H)) made.asked.looked.held (rounds_alone F name told (rounds_of w) mid new answer (of_name w pair mends) turn))

  -- ---- what each stop leaves, and what is done

  module _ (told : F.tells) (is_name : IsName name) (kept : IsPlan plan) (low : lost < F.clouds old) (live : IsLive (F.clouds old) m) where
    abbrev n : ℕ
    n = F.clouds old

    abbrev Q : Vault → Contents → Type 0
    Q V = BeginsMaking n name (IsRepaired n lost good) V

    -- of a file that stands, the writes are those of its repair
    record IsMendIn (V : Vault) (w : VersionWrites) : Type 0 where
      pub file : List ℕ
      pub was : version_in n V name ≡ Stored m file
      pub valid : IsValid n (Stored m file)
      pub of : IsMendOf n name lost m file plan good w

    mend_in : (pair : Pair) (mid : A) → Remade F name m plan lost old mid pair → (w : VersionWrites) → MendsWith n name lost m plan good pair w → (V : Vault) → ComesTo n name V (F.held old) (Some (meta.Live m)) → IsMendIn V w
    mend_in pair mid made w mends V comes =
        let x_is = version_is (version_in n V name) m comes.is_top in
        let valid : IsValid n (Stored m x_is.0) = subst (IsValid n) x_is.1 comes.rests.rests.valid in
        let places : PlacesStand n (F.held old) V.damaged name (Stored m x_is.0) = subst (PlacesStand n (F.held old) V.damaged name) x_is.1 comes.rests.rests.places in
        record {
          file = x_is.0;
          was = x_is.1;
          valid = valid;
          of = mends.of_file x_is.0 valid ((remade_of_file F name m plan lost old mid pair made told kept live).each V.damaged x_is.0 valid places);
        }

    comes_on : (mid : A) (V : Vault) → F.held mid ≡ F.held old → ComesTo n name V (F.held old) (Some (meta.Live m)) → ComesTo n name V (F.held mid) (Some (meta.Live m))
    comes_on mid V same comes = subst (λ (H : Contents). ComesTo n name V H (Some (meta.Live m))) (sym same) comes

    begins_in : (pair : Pair) (mid : A) → Remade F name m plan lost old mid pair → (w : VersionWrites) (answer : Result (Unit {0}) RoundFault) → MendsWith n name lost m plan good pair w
        → WroteInTurn F (rounds_of w) mid new answer → (V : Vault) → ComesTo n name V (F.held old) (Some (meta.Live m)) → Keeps F mid new (Q V)
    begins_in pair mid made w answer mends turn V comes =
        let in_it : IsMendIn V w = mend_in pair mid made w mends V comes in
        let p = replaces n lost name m plan in_it.file good w in_it.of is_name low in_it.valid V (F.held mid) (comes_on mid V made.asked.looked.held comes) in_it.was in
        keeps_by (Q V) (version_begun F told w n name in_it.file (lost ∷ []) in_it.of.made V mid p new answer turn)
        (λ G stands. record { made = Some (Stored w.live in_it.file); makes_it = repaired_by n lost name m plan in_it.file good w in_it.of is_name low in_it.valid (version_in n V name) in_it.was; stands = stands })

    looked_begins : (mid : A) → OnlyLooked F old mid → Stops F old mid (λ G. G ≡ F.held old) → (V : Vault) → ComesTo n name V (F.held old) (Some (meta.Live m)) → Keeps F old mid (Q V)
    looked_begins mid looked stops V comes = keeps_look (Q V) looked.held stops (unmade n name (IsRepaired n lost good) (Some (meta.Live m)) V (F.held old) is_name comes)

    pub did_begin : RepairDid F name m plan lost good old new result → MayBegin F n name (Some (meta.Live m)) (IsRepaired n lost good) old new
    did_begin (was_worn worn same is) = begins_none F n name (Some (meta.Live m)) (IsRepaired n lost good) old new is_name same
    did_begin (not_made more why because is) = record { each = λ V comes. looked_begins new (why_looked F name m plan lost old new why because) (why_stops F name m plan lost old new why because) V comes }
    did_begin (unsealed more pair made is) = record { each = λ V comes. looked_begins new made.asked.looked made.asked.stops V comes }
    did_begin (in_turn more pair mid made w answer mends turn is) = record { each = λ V comes. keeps_then (looked_begins mid made.asked.looked made.asked.stops V comes) (begins_in pair mid made w answer mends turn V comes) }

    abbrev Done : Settled → Type 0
    Done s = MayDo n name (Some (meta.Live m)) (IsRepaired n lost good) (F.held old) (F.held new) s.top

    pub did_does : RepairDid F name m plan lost good old new result → IfOk result Done
    did_does =
        did_ok Done
        (λ w t. record {
          each = λ V comes.
              let in_it : IsMendIn V w = mend_in t.pair t.mid t.remade w t.mends V comes in
              let p = replaces n lost name m plan in_it.file good w in_it.of is_name low in_it.valid V (F.held t.mid) (comes_on t.mid V t.remade.asked.looked.held comes) in_it.was in
              record {
                version = Stored w.live in_it.file;
                made = repaired_by n lost name m plan in_it.file good w in_it.of is_name low in_it.valid (version_in n V name) in_it.was;
                is_top = refl;
                rests = version_done F told w n name in_it.file (lost ∷ []) in_it.of.made V t.mid p new (wrote_all F told w t.mid new (Ok tt) t.turn refl);
              };
        })

  -- ---- what was read, and what stopped it

  pub did_gets : lost < F.clouds old → RepairDid F name m plan lost good old new result → IfOk result (λ s. (c : ℕ) → c < F.clouds old → F.chunk_gets new c ≡ got_count (F.chunk_gets old c) (fetched_of lost c))
  did_gets low =
      did_ok (λ s. (c : ℕ) → c < F.clouds old → F.chunk_gets new c ≡ got_count (F.chunk_gets old c) (fetched_of lost c))
      (λ w t c l.
      let kept : RoundsKeep F t.mid new (Ok tt) = rounds_keep (rounds_of w) t.mid new (Ok tt) t.turn in
      ap (λ (f : ℕ → ℕ). f c) kept.gets ∙ remade_gets F name m plan lost old t.mid t.pair t.remade low c l)

  abbrev Few : A → Type 0
  Few e = (c : ℕ) → c < F.clouds old → GaveAtMost (fetched_of lost c) (F.chunk_gets old c) (F.chunk_gets e c)

  pub did_few : lost < F.clouds old → RepairDid F name m plan lost good old new result → Few new
  did_few low (was_worn worn same is) = subst Few (sym same) (λ c l. record { given = 0; few = omega arith; is = omega arith })
  did_few low (not_made more why because is) = why_few F name m plan lost old new why because low
  did_few low (unsealed more pair made is) = remade_few F name m plan lost old new pair made low
  did_few low (in_turn more pair mid made w answer mends turn is) = λ c l.
      let kept : RoundsKeep F mid new answer = rounds_keep (rounds_of w) mid new answer turn in
      subst (λ (f : ℕ → ℕ). GaveAtMost (fetched_of lost c) (F.chunk_gets old c) (f c)) (sym kept.gets) (remade_few F name m plan lost old mid pair made low c l)

  pub did_stop : F.tells → lost < F.clouds old → RepairDid F name m plan lost good old new result → IfErr result (StopsRepair (F.clouds old) name m plan lost (F.held old))
  did_stop told low =
      did_err (StopsRepair (F.clouds old) name m plan lost (F.held old)) (λ worn. worn) tt
      (λ why because. stop_why F name m plan lost old new why because told low) (λ w c t. remade_good F name m plan lost old t.mid t.pair t.remade told low c)

  pub did_cause : RepairDid F name m plan lost good old new result → IfErr result (HasRepairCause F.counts_exactly (F.faults old) (F.faults new))
  did_cause =
      did_err (HasRepairCause F.counts_exactly (F.faults old) (F.faults new)) (λ worn. tt) tt
      (λ why because. why_cause F name m plan lost old new why because)
      (λ w c t.
      let kept : RoundsKeep F t.mid new (Err (round.Cloud c)) = rounds_keep (rounds_of w) t.mid new (Err (round.Cloud c)) t.turn in
      first_in_all F.counts_exactly (F.faults old) (F.faults t.mid) (F.faults new) c t.remade.asked.looked.grows (remade_clean F name m plan lost old t.mid t.pair t.remade) kept.counts.cause)

  pub did_clean : F.counts_exactly → RepairDid F name m plan lost good old new result → IfOk result (λ s. (c : ℕ) → F.faults new c ≡ F.faults old c)
  did_clean exact =
      did_ok (λ s. (c : ℕ) → F.faults new c ≡ F.faults old c)
      (λ w t c.
      let kept : RoundsKeep F t.mid new (Ok tt) = rounds_keep (rounds_of w) t.mid new (Ok tt) t.turn in
      kept.counts.clean exact c ∙ remade_clean F name m plan lost old t.mid t.pair t.remade exact c)

  pub did_kept : RepairDid F name m plan lost good old new result → IfErr result (IfDamaged (F.held new ≡ F.held old))
  did_kept = did_err (IfDamaged (F.held new ≡ F.held old)) (λ worn. tt) tt (λ why because. damaged_has (F.held new ≡ F.held old) why (why_looked F name m plan lost old new why because).held) (λ w c t. tt)

  pub did_good : F.tells → lost < F.clouds old → RepairDid F name m plan lost good old new result → IfOk result (λ s. GoodBelow (F.clouds old) name m plan lost (F.held old) (F.clouds old))
  did_good told low =
      did_ok (λ s. GoodBelow (F.clouds old) name m plan lost (F.held old) (F.clouds old))
      (λ w t. remade_good F name m plan lost old t.mid t.pair t.remade told low (F.clouds old))

  -- ---- what the clouds hold then

  all_written : F.tells → (w : VersionWrites) (t : Made F name m plan lost good old new w (Ok tt)) → WroteAll F w t.mid new
  all_written told w t = wrote_all F told w t.mid new (Ok tt) t.turn refl

  pub did_holds : F.tells → RepairDid F name m plan lost good old new result → IfOk result (λ s. (c : ℕ) → c < F.clouds old → HoldsIfAny (F.clouds old) (F.held new) name c s.top)
  did_holds told =
      did_ok (λ s. (c : ℕ) → c < F.clouds old → HoldsIfAny (F.clouds old) (F.held new) name c s.top)
      (λ w t c l.
      let all : WroteAll F w t.mid new = all_written told w t in
      metas_held (F.clouds old) name (meta.Live w.live) w.metas.items t.mends.made.made.metas_are (F.held all.second) (F.held new) t.mends.made.fits all.done_3 c l)

  pub did_good_chunks : F.tells → 4 ≤ F.clouds old → lost < F.clouds old → IsLive (F.clouds old) m → RepairDid F name m plan lost good old new result → IfOk result (λ s. IsGoodBy (F.clouds old) name (F.held new) lost s.top)
  did_good_chunks told wide low live =
      did_ok (λ s. IsGoodBy (F.clouds old) name (F.held new) lost s.top)
      (λ w t.
      let all : WroteAll F w t.mid new = all_written told w t in
      new_cloud_is_good (F.clouds old) lost name m good t.pair w live low (remade_long F name m plan lost old t.mid t.pair t.remade wide) t.mends.made (F.held t.mid) (F.held all.first) (F.held all.second) (F.held new) all.done_1 all.image_2 all.done_2
      all.image_3)

  pub did_right : F.tells → IsPlan plan → IsLive (F.clouds old) m → RepairDid F name m plan lost good old new result → IfOk result (λ s. RightAgain (F.clouds old) name m lost good (F.held old) (F.held new))
  did_right told kept live =
      did_ok (λ s. RightAgain (F.clouds old) name m lost good (F.held old) (F.held new))
      (λ w t. record {
        each = λ D v valid places.
            let of : IsMendOf (F.clouds old) name lost m v plan good w =
            t.mends.of_file v valid ((remade_of_file F name m plan lost old t.mid t.pair t.remade told kept live).each D v valid places) in
            let right = right_on F told w (F.clouds old) name v (lost ∷ []) of.made t.mid new (all_written told w t) in
            let held = held_on F told w (F.clouds old) name v (lost ∷ []) of.made t.mid new t.mends.made.fits (all_written told w t) in
            subst (λ (k : Live). AllHold (F.clouds old) (F.held new) name (Stored k v) × RightOn (F.clouds old) (F.held new) name (Stored k v) lost) of.is (held, right 0 lost (omega arith));
      })
