-- What follows of the work on one part of a repair.
use Rattle.std.proofs.Common.{◌≡◌, ◌≢◌, ◌<◌, ◌≤◌, ℕ, List, length, Result, Ok, Err, IfErr, IfOk, refl, sym, ap, ◌∙◌, subst, arith}
use Rattle.std.proofs.lemmas.Result.{IfErr-weaker, IfOk-weaker}
use Rattle.nc_native.specs.Native.{AllLong, chunk_size, native_len}
use Rattle.nc_code.specs.Parts.{IsPlan, PlanParts}
use Rattle.nc_cloud.specs.declared.fleet.Ask.{Ask}
use Rattle.nc_cloud.specs.declared.fleet.Fleet.{Ghosts as FleetGhosts}
use Rattle.nc_cloud.specs.Deciding.{OnlyLooked}
use Rattle.nc_cloud.specs.Fleet.{chunks_got, got_count}
use Rattle.nc_cloud.specs.Stopping.{Stops}
use Rattle.nc_cloud.proofs.Time.{stops_none}
use Rattle.nc_fetch.specs.Asking.{GaveAtMost}
use Rattle.nc_meta.specs.declared.meta.Live.{Live}
use Rattle.nc_meta.specs.Metas.{IsLive}
use Rattle.nc_meta.specs.Metas.{IsLive}
use Rattle.nc_mix.specs.declared.pieces.Pair.{Pair}
use Rattle.nc_mix.specs.Regenerating.{factors, regenerated}
use Rattle.nc_mix.proofs.Mixes.{length-mixed}
use Rattle.nc_repair.specs.declared.fault.RepairFault.{RepairFault}
use Rattle.nc_repair.specs.declared.fault.RepairFault.TheVariants as fault
use Rattle.nc_repair.specs.Giving.{StopsMending}
use Rattle.nc_repair.specs.Remaking.{AskedSurvivors, IsPairLong, NotRemade, Remade, RemakesFile}
use Rattle.nc_repair.specs.Remaking.NotRemade.{unasked, stopped}
use Rattle.nc_repair.specs.Repairing.{GoodBelow, HasRepairCause, StopsRepair, fetched_of}
use Rattle.nc_repair.proofs.CauseLaws.{none_rose, stop_cause}
use Rattle.nc_repair.proofs.ChosenLaws.{given_are_chosen}
use Rattle.nc_repair.proofs.CostLaws.{all_good, got_each, got_few, stops_repair}

-- what is made of chunks of one length has that length
regenerated_long : (plan : PlanParts) (i r size : ℕ) (fetched : List (List ℕ)) → 0 < length fetched → AllLong size fetched → length (regenerated plan i fetched r) ≡ size
regenerated_long plan i r size fetched some long = length-mixed (native_len fetched) (factors plan i r) fetched ∙ long 0 some

module _ {A : Type 0} (F : FleetGhosts A) (name : List ℕ) (m : Live) (plan : PlanParts) (lost : ℕ) (old new : A) where
  -- ---- where the pair was made

  pub remade_long : (pair : Pair) → Remade F name m plan lost old new pair → 4 ≤ F.clouds old → IsPairLong (chunk_size m.len (F.clouds old)) pair
  remade_long pair t wide =
      let some : 0 < length t.made.chunks = omega (arith, t.made.gave.count, wide) in
      record {
        zero = ap length t.made.is.zero ∙ regenerated_long plan lost 0 (chunk_size m.len (F.clouds old)) t.made.chunks some t.made.gave.long;
        one = ap length t.made.is.one ∙ regenerated_long plan lost 1 (chunk_size m.len (F.clouds old)) t.made.chunks some t.made.gave.long;
      }

  pub remade_of_file : (pair : Pair) → Remade F name m plan lost old new pair → F.tells → IsPlan plan → IsLive (F.clouds old) m → RemakesFile (F.clouds old) name m plan lost (F.held old) pair
  remade_of_file pair t told kept live = record {
    each = λ D v valid places.
        t.made.of_file.each m.code v live.code live.width valid.bytes
        (given_are_chosen (F.clouds old) lost name m plan v (F.held old) D places t.asks t.made.chunks kept live.width t.asked.are (t.asked.answered.told told) t.made.gave);
  }

  pub remade_good : (pair : Pair) → Remade F name m plan lost old new pair → F.tells → lost < F.clouds old → (c : ℕ) → GoodBelow (F.clouds old) name m plan lost (F.held old) c
  remade_good pair t told low = all_good (F.clouds old) name m plan lost t.asks t.asked.are (F.held old) (t.asked.answered.told told) low t.made.chunks t.made.gave

  pub remade_gets : (pair : Pair) → Remade F name m plan lost old new pair → lost < F.clouds old → (c : ℕ) → c < F.clouds old → F.chunk_gets new c ≡ got_count (F.chunk_gets old c) (fetched_of lost c)
  remade_gets pair t low c l = t.asked.answered.gets c ∙ ap (got_count (F.chunk_gets old c)) (got_each (F.clouds old) name m plan lost t.asks t.asked.are t.made.chunks t.made.gave low c l)

  pub remade_clean : (pair : Pair) → Remade F name m plan lost old new pair → F.counts_exactly → (c : ℕ) → F.faults new c ≡ F.faults old c
  remade_clean pair t = none_rose F name m plan lost old new t.asks t.asked.are t.asked.answered t.made.chunks t.made.gave

  -- ---- where it wasn't

  pub stop_why : (why : RepairFault) → NotRemade F name m plan lost old new why → F.tells → lost < F.clouds old → StopsRepair (F.clouds old) name m plan lost (F.held old) why
  stop_why why (unasked same is) told low = subst (StopsRepair (F.clouds old) name m plan lost (F.held old)) (sym is) tt
  stop_why why (stopped asks asked stops) told low = stops_repair (F.clouds old) name m plan lost asks asked.are (F.held old) (asked.answered.told told) low why stops

  pub why_cause : (why : RepairFault) → NotRemade F name m plan lost old new why → HasRepairCause F.counts_exactly (F.faults old) (F.faults new) why
  why_cause why (unasked same is) = subst (HasRepairCause F.counts_exactly (F.faults old) (F.faults new)) (sym is) tt
  why_cause why (stopped asks asked stops) = stop_cause F name m plan lost old new asks asked.are asked.answered why stops

  pub why_not_worn : (why : RepairFault) → NotRemade F name m plan lost old new why → why ≢ fault.Worn
  why_not_worn why (unasked same is) e = let wrong : fault.Memory ≡ fault.Worn = sym is ∙ e in absurd cc
  why_not_worn why (stopped asks asked stops) e = absurd (subst (StopsMending (F.clouds old) name m plan lost asks) e stops)

  -- ---- in any case

  same_looked : new ≡ old → OnlyLooked F old new
  same_looked same = subst (λ (e : A). OnlyLooked F old e) (sym same) (record { clouds = refl; held = refl; grows = λ c. omega arith; slips = refl })

  pub why_looked : (why : RepairFault) → NotRemade F name m plan lost old new why → OnlyLooked F old new
  why_looked why (unasked same is) = same_looked same
  why_looked why (stopped asks asked stops) = asked.looked

  pub why_stops : (why : RepairFault) → NotRemade F name m plan lost old new why → Stops F old new (λ G. G ≡ F.held old)
  why_stops why (unasked same is) = subst (λ (e : A). Stops F old e (λ G. G ≡ F.held old)) (sym same) (stops_none old (λ G. G ≡ F.held old))
  why_stops why (stopped asks asked stops) = asked.stops

  abbrev Few : A → Type 0
  Few e = (c : ℕ) → c < F.clouds old → GaveAtMost (fetched_of lost c) (F.chunk_gets old c) (F.chunk_gets e c)

  asked_few : lost < F.clouds old → (asks : List Ask) → AskedSurvivors F name m plan lost asks old new → Few new
  asked_few low asks asked = λ c l. record { given = chunks_got c asks; few = got_few (F.clouds old) name m plan lost asks asked.are low c l; is = asked.answered.gets c }

  pub remade_few : (pair : Pair) → Remade F name m plan lost old new pair → lost < F.clouds old → Few new
  remade_few pair t low = asked_few low t.asks t.asked

  pub why_few : (why : RepairFault) → NotRemade F name m plan lost old new why → lost < F.clouds old → Few new
  why_few why (unasked same is) low = subst Few (sym same) (λ c l. record { given = 0; few = omega arith; is = omega arith })
  why_few why (stopped asks asked stops) low = asked_few low asks asked

  -- ---- by the answer

  in_any_case : (P : Type 0) (result : Result Pair RepairFault) → ((pair : Pair) → Remade F name m plan lost old new pair → P) → ((why : RepairFault) → NotRemade F name m plan lost old new why → P)
      → IfOk result (Remade F name m plan lost old new) → IfErr result (NotRemade F name m plan lost old new) → P
  in_any_case P (Ok pair) ok err made none = ok pair made
  in_any_case P (Err why) ok err made none = err why none

  module _ (result : Result Pair RepairFault) (made : IfOk result (Remade F name m plan lost old new)) (none : IfErr result (NotRemade F name m plan lost old new)) where
    pub part_of_file : F.tells → IsPlan plan → IsLive (F.clouds old) m → IfOk result (RemakesFile (F.clouds old) name m plan lost (F.held old))
    part_of_file told kept live = IfOk-weaker result (Remade F name m plan lost old new) (RemakesFile (F.clouds old) name m plan lost (F.held old)) (λ pair t. remade_of_file pair t told kept live) made

    pub part_long : 4 ≤ F.clouds old → IfOk result (IsPairLong (chunk_size m.len (F.clouds old)))
    part_long wide = IfOk-weaker result (Remade F name m plan lost old new) (IsPairLong (chunk_size m.len (F.clouds old))) (λ pair t. remade_long pair t wide) made

    pub part_good : F.tells → lost < F.clouds old → IfOk result (λ pair. GoodBelow (F.clouds old) name m plan lost (F.held old) (F.clouds old))
    part_good told low = IfOk-weaker result (Remade F name m plan lost old new) (λ pair. GoodBelow (F.clouds old) name m plan lost (F.held old) (F.clouds old)) (λ pair t. remade_good pair t told low (F.clouds old)) made

    pub part_why : F.tells → lost < F.clouds old → IfErr result (StopsRepair (F.clouds old) name m plan lost (F.held old))
    part_why told low = IfErr-weaker result (NotRemade F name m plan lost old new) (StopsRepair (F.clouds old) name m plan lost (F.held old)) (λ why because. stop_why why because told low) none

    pub part_not_worn : IfErr result (λ why. why ≢ fault.Worn)
    part_not_worn = IfErr-weaker result (NotRemade F name m plan lost old new) (λ why. why ≢ fault.Worn) (λ why because. why_not_worn why because) none

    pub part_gets : lost < F.clouds old → IfOk result (λ pair. (c : ℕ) → c < F.clouds old → F.chunk_gets new c ≡ got_count (F.chunk_gets old c) (fetched_of lost c))
    part_gets low = IfOk-weaker result (Remade F name m plan lost old new) (λ pair. (c : ℕ) → c < F.clouds old → F.chunk_gets new c ≡ got_count (F.chunk_gets old c) (fetched_of lost c)) (λ pair t. remade_gets pair t low) made

    pub part_few : lost < F.clouds old → Few new
    part_few low = in_any_case (Few new) result (λ pair t. remade_few pair t low) (λ why because. why_few why because low) made none

    pub part_cause : IfErr result (HasRepairCause F.counts_exactly (F.faults old) (F.faults new))
    part_cause = IfErr-weaker result (NotRemade F name m plan lost old new) (HasRepairCause F.counts_exactly (F.faults old) (F.faults new)) (λ why because. why_cause why because) none

    pub part_clean : F.counts_exactly → IfOk result (λ pair. (c : ℕ) → F.faults new c ≡ F.faults old c)
    part_clean exact = IfOk-weaker result (Remade F name m plan lost old new) (λ pair. (c : ℕ) → F.faults new c ≡ F.faults old c) (λ pair t. remade_clean pair t exact) made

    pub part_looked : OnlyLooked F old new
    part_looked = in_any_case (OnlyLooked F old new) result (λ pair t. t.asked.looked) (λ why because. why_looked why because) made none

    pub part_stops : Stops F old new (λ G. G ≡ F.held old)
    part_stops = in_any_case (Stops F old new (λ G. G ≡ F.held old)) result (λ pair t. t.asked.stops) (λ why because. why_stops why because) made none
