use Rattle.std.proofs.Common.{refl, below_more, arith}
use Rattle.nc_search.specs.Starts.{start_block}
use Rattle.nc_search.proofs.StartLemmas.{is_good}
use Rattle.nc_search.proofs.starting.find_start.Goals as goal

pub returns-in-Some : goal.returns-in-Some
returns-in-Some c = record {
  first = record {
    below = omega arith;
    here = is_good c.args.width (start_block c.args.width c.args.key.now c.loop-index.index) c.in-Some.good c.in-Some.ensures.some;
    none_before = c.loop-index.invariant;
  };
  gives = c.in-Some.ensures.some;
}

pub loop-index-preserved : goal.loop-index-preserved
loop-index-preserved c = below_more _ _ c.loop-index.invariant (c.in-None.ensures.none refl)

pub returns : goal.returns
returns c = (refl, record { none = λ i below. c.loop-index.invariant i (omega arith) })
