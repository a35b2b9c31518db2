-- Repair candidates: a plan for the lost cloud, with drawn tries for each other cloud that may be lost next.
use Rattle.std.specs.Prelude.{ℕ, ◌≡◌, ◌≢◌, ◌+◌, ◌-◌, ◌*◌, ◌<◌, ◌≤◌, ◌==◌, List, map, slice_index, Option, Some, None, if◌then◌else◌}
use Rattle.std.specs.List.{range_with_len}
use Rattle.nc_code.specs.Parts.{CodeParts, PlanParts}
use Rattle.nc_code.specs.Codes.{IsMds, repaired, no_plan}
use Rattle.nc_code.specs.Good.{plan_of}
use Rattle.nc_code.specs.Tries.{plan_at, plan_len, position_of}
use Rattle.nc_nextloss.specs.GoodCodes.{GoodParts}
use Rattle.nc_search.specs.Stream.{stream_part, word_count}
use Rattle.nc_search.specs.Tries.{tries_len, tries_at, HasGoodTry, IsFirstGoodTry, no_base}

-- the bytes of a repair block: a plan, and then the tries for the loss of each cloud but the lost one
abbrev pub repair_len : ℕ → ℕ
repair_len n = plan_len n + (n - 1) * tries_len n

-- block i, which begins at a word of its own
unfoldable pub repair_block : ℕ → List ℕ → ℕ → List ℕ
repair_block n key i = stream_part key (i * word_count (repair_len n)) (repair_len n)

-- the base of a drawn plan: the choices of the stored one, or 0 for each cloud
abbrev pub base_of : Option PlanParts → List ℕ
base_of None = no_base
base_of (Some plan) = plan.choice

-- the plan that a block begins with
abbrev pub drawn_plan : ℕ → ℕ → List ℕ → List ℕ → PlanParts
drawn_plan n lost base block = plan_at n lost (slice_index base) (slice_index block)

-- the plan of candidate i: of candidate 0 the stored one, where there is one; else the one that its block begins with
unfoldable pub repair_plan : ℕ → ℕ → Option PlanParts → ℕ → List ℕ → PlanParts
repair_plan n lost None i block = drawn_plan n lost (base_of None) block
repair_plan n lost (Some plan) i block = if i == 0 then plan else drawn_plan n lost (base_of (Some plan)) block

-- The base of the tries is turned over, so that the next repair takes from nearly all clouds the chunk that this one
-- doesn't take: for a cloud other than the lost one it is 1 less the choice.
abbrev pub turned_choice : ℕ → PlanParts → ℕ → ℕ
turned_choice lost plan t = if t == lost then 0 else 1 - slice_index plan.choice t

unfoldable pub turned_base : ℕ → PlanParts → List ℕ
turned_base lost plan = map (turned_choice lost plan) (range_with_len 0 10)

-- the tries for the loss of another cloud come after the plan, by the position of that cloud
abbrev pub repair_tries : ℕ → ℕ → List ℕ → ℕ → List ℕ
repair_tries n lost block next = tries_at n block (plan_len n + position_of lost next * tries_len n)

-- the code after the repair is MDS, and the loss of each other cloud has a good try
pub record IsGoodRepair (code : CodeParts) (lost : ℕ) (plan : PlanParts) (block : List ℕ) : Type 0 where
  pub mds : IsMds (repaired code lost plan)
  pub each : (next : ℕ) → next < code.width → next ≢ lost → HasGoodTry (repaired code lost plan) next (turned_base lost plan) (repair_tries code.width lost block next)

-- the plan for the next loss: for the lost cloud that of the repair itself, for another one its first good try
pub record IsNextPlan (code : CodeParts) (lost : ℕ) (plan : PlanParts) (block : List ℕ) (next : ℕ) (found : PlanParts) : Type 0 where
  pub own : next ≡ lost → found ≡ plan
  pub drawn : next ≢ lost → IsFirstGoodTry (repaired code lost plan) next (turned_base lost plan) (repair_tries code.width lost block next) found

-- the candidate is good, and this is what it gives: the code after the repair, and a plan for each next loss
pub record IsRepairOf (code : CodeParts) (lost : ℕ) (plan : PlanParts) (block : List ℕ) (good : GoodParts) : Type 0 where
  pub mds : IsMds (repaired code lost plan)
  pub code_is : good.code ≡ repaired code lost plan
  pub each : (next : ℕ) → next < code.width → IsNextPlan code lost plan block next (plan_of good.witnesses next)
  pub past : (next : ℕ) → code.width ≤ next → plan_of good.witnesses next ≡ no_plan
