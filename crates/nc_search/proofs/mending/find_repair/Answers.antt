use Rattle.std.proofs.Common.{refl, below_more, arith}
use Rattle.std.specs.Option.{option_copied}
use Rattle.nc_search.proofs.RepairProofs.{good_mend}
use Rattle.nc_search.proofs.mending.find_repair.Goals as goal

pub returns-in-Some : goal.returns-in-Some
returns-in-Some c = record {
  first = record {
    below = omega arith;
    here = good_mend c.args.code.now (option_copied c.args.stored) c.args.lost c.args.key.now c.loop-index.index c.in-Some.found.0 c.in-Some.found.1 c.in-Some.ensures.plan c.in-Some.ensures.some;
    none_before = c.loop-index.invariant;
  };
  plan_is = c.in-Some.ensures.plan;
  gives = c.in-Some.ensures.some;
}

pub loop-index-preserved : goal.loop-index-preserved
loop-index-preserved c = below_more _ _ c.loop-index.invariant (c.in-None.ensures.none refl)

pub returns : goal.returns
returns c = (refl, record { none = λ i below. c.loop-index.invariant i (omega arith) })
