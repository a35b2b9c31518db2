-- Why a repair wasn't done, by the counts of failures.
use Rattle.std.proofs.Common.{◌≡◌, ◌≢◌, ◌<◌, ◌≤◌, ◌+◌, ◌-◌, ℕ, true, false, List, get_or, length, inl, inr, sym, ap, ◌∙◌, subst, arith}
use Rattle.std.proofs.lemmas.Bool.{cases_lt}
use Rattle.nc_name.specs.declared.key.Key.{Key}
use Rattle.nc_code.specs.Parts.{PlanParts}
use Rattle.nc_cloud.specs.declared.fleet.Answer.{Answer}
use Rattle.nc_cloud.specs.declared.fleet.Answer.TheVariants as answer
use Rattle.nc_cloud.specs.declared.fleet.Ask.{Ask}
use Rattle.nc_cloud.specs.declared.fleet.Fleet.{Ghosts as FleetGhosts}
use Rattle.nc_cloud.specs.Contents.{Grows, Rose}
use Rattle.nc_cloud.specs.Deciding.{IsFirstToRise}
use Rattle.nc_cloud.specs.Fleet.{is_bytes}
use Rattle.nc_fetch.specs.Asking.{AreAnswered}
use Rattle.nc_meta.specs.declared.meta.Live.{Live}
use Rattle.nc_repair.specs.declared.fault.RepairFault.{RepairFault}
use Rattle.nc_repair.specs.declared.fault.RepairFault.TheVariants as fault
use Rattle.nc_repair.specs.Asking.{AreSurvivorAsks}
use Rattle.nc_repair.specs.Giving.{GaveChunks, GaveFirst, StopsMending}
use Rattle.nc_mix.specs.Regenerating.{survivor}
use Rattle.nc_repair.specs.Repairing.{HasRepairCause}
use Rattle.nc_repair.proofs.AskingLaws.{survivors_keep, survivors_rise}
use Rattle.nc_repair.proofs.CostLaws.{entry_at, within_asks}
use Rattle.nc_repair.proofs.GivingLaws.{asks_long, no_entry}

fine : (a : Answer) → is_bytes a ≡ true → a ≢ answer.Failed
fine a given failed = let wrong : true ≡ false = sym given ∙ ap is_bytes failed in cc

module _ {A : Type 0} (F : FleetGhosts A) (name : List ℕ) (m : Live) (plan : PlanParts) (lost : ℕ) (old mid : A) (asks : List Ask) (are : AreSurvivorAsks (F.clouds old) name m plan lost asks) (answered : AreAnswered F asks old mid) where
  abbrev n : ℕ
  n = F.clouds old

  cloud_is : (k : ℕ) (d : Ask) → k < n - 1 → (get_or asks k d).cloud ≡ survivor lost k
  cloud_is k d l = ap (λ (y : ℕ × Key × ℕ). y.0) (entry_at n name m plan lost asks are k l d)

  position_in : (k : ℕ) → k < length asks → k < n - 1
  position_in k l = let long : length asks ≡ n - 1 = asks_long n name m plan lost asks are in omega (arith, l, long)

  -- where all gave their chunks, no count rose
  pub none_rose : (chunks : List (List ℕ)) → GaveChunks n name m plan lost asks chunks → F.counts_exactly → (c : ℕ) → F.faults mid c ≡ F.faults old c
  none_rose chunks gave exact c = answered.exact exact c (λ k d l same. fine (get_or asks k d).answer (gave.gave.each k (position_in k l) d).given)

  -- a count stayed, where the answers of its cloud from this position on aren't failures
  stayed : (at : ℕ) (chunks : List (List ℕ)) → GaveFirst n name m plan lost asks at chunks → F.counts_exactly → (c : ℕ)
      → ((k : ℕ) (d : Ask) → at ≤ k → survivor lost k ≡ c → (get_or asks k d).answer ≢ answer.Failed) → F.faults mid c ≡ F.faults old c
  stayed at chunks gave exact c later =
      answered.exact exact c (λ k d l same.
      elim (cases_lt k at) [
        | inl before ↦ fine (get_or asks k d).answer (gave.each k before d).given
        | inr after ↦ later k d after (sym (cloud_is k d (position_in k l)) ∙ same)
      ])

  -- the cloud of the first that failed is the first to rise
  first_rose : (at : ℕ) (chunks : List (List ℕ)) → at < n - 1 → GaveFirst n name m plan lost asks at chunks → (get_or asks at no_entry).answer ≡ answer.Failed → IsFirstToRise F.counts_exactly (F.faults old) (F.faults mid) (survivor lost at)
  first_rose at chunks low gave failed = (
    subst (λ c. Rose (F.faults old c) (F.faults mid c)) (cloud_is at no_entry low) (answered.failed at no_entry (within_asks n name m plan lost asks are at low) failed),
    λ exact c under.
        stayed at chunks gave exact c (λ k d after here. let least : survivor lost at ≤ survivor lost k = survivors_keep lost at k after in absurd (omega (arith, least, here, under))),
  )

  -- where the first that gave nothing answered, no count up to that of its cloud rose
  none_rose_to : (at : ℕ) (chunks : List (List ℕ)) → GaveFirst n name m plan lost asks at chunks → ((d : Ask) → (get_or asks at d).answer ≢ answer.Failed) → F.counts_exactly → (c : ℕ) → c ≤ survivor lost at
      → F.faults mid c ≡ F.faults old c
  none_rose_to at chunks gave given exact c under =
      stayed at chunks gave exact c (λ k d after here.
      elim (cases_lt at k) [
        | inl later ↦ let rising : survivor lost at < survivor lost k = survivors_rise lost at k later in absurd (omega (arith, rising, here, under))
        | inr level ↦ let same : at ≡ k = omega (arith, after, level) in subst (λ (j : ℕ). (get_or asks j d).answer ≢ answer.Failed) same (given d)
      ])

  pub stop_cause : (why : RepairFault) → StopsMending n name m plan lost asks why → HasRepairCause F.counts_exactly (F.faults old) (F.faults mid) why
  stop_cause (fault.Cloud c) stops =
      let from = stops.here no_entry in
      let within : stops.at < n - 1 = let more : stops.at + 1 < n = stops.within in omega (arith, more) in
      subst (IsFirstToRise F.counts_exactly (F.faults old) (F.faults mid)) (sym from.1) (first_rose stops.at stops.chunks within stops.before from.0)
  stop_cause (fault.Damaged c r how) stops = λ exact d under.
      let is : c ≡ survivor lost stops.at = (stops.here no_entry).0 in
      none_rose_to stops.at stops.chunks stops.before (λ e. (stops.here e).2.answered) exact d (omega (arith, is, under))
  stop_cause fault.Worn stops = tt
  stop_cause fault.Memory stops = tt

-- the first count to rise in the last rounds is the first in all, where none rose before
pub first_in_all : (exact : Type 0) (before mid now : ℕ → ℕ) (c : ℕ) → Grows before mid → (exact → (d : ℕ) → mid d ≡ before d) → IsFirstToRise exact mid now c → IsFirstToRise exact before now c
first_in_all exact before mid now c grows same cause = (
  let rose : Rose (mid c) (now c) = cause.0 in let low : before c ≤ mid c = grows c in omega (arith, rose, low),
  λ e d under. cause.1 e d under ∙ same e d,
)
