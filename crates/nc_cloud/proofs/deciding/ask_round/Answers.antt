use Rattle.std.proofs.Common.{◌≡◌, ap, true, false}
use Rattle.std.proofs.lemmas.Result.{IfErr-weaker, on_ok_weaker}
use Rattle.nc_cloud.specs.declared.fleet.Ask.{Ask}
use Rattle.nc_cloud.specs.declared.fleet.Answer.TheVariants as answer
use Rattle.nc_cloud.specs.Fleet.{asked}
use Rattle.nc_cloud.specs.Deciding.{BlamesAsk, IsSeen}
use Rattle.nc_cloud.proofs.Decisions.{caused, ascend_kept, once, seen_counts}
use Rattle.nc_cloud.proofs.Time.{stops_round}
use Rattle.nc_cloud.proofs.deciding.ask_round.Goals as goal

pub get_round-requires-clause-below : goal.get_round-requires-clause-below
get_round-requires-clause-below g c = c.requires.clouds.below

pub get_round-requires-clause-once : goal.get_round-requires-clause-once
get_round-requires-clause-once g c = once _ _ _ c.requires.clouds

pub returns-clause-counts : goal.returns-clause-counts
returns-clause-counts g c = record {
  cause =
      IfErr-weaker _ _ _ (caused (λ (a : Ask). a.cloud) (λ a. IsSeen a.answer ≡ true) (λ a. a.answer ≡ answer.Failed) BlamesAsk (λ a k b. b)
      (λ a seen failed. let e : IsSeen a.answer ≡ false = ap IsSeen failed in cc)
      g.F.Fleet.counts_exactly (g.F.Fleet.faults c.args.fleet.now) (g.F.Fleet.faults c.get_round.new.self) _ c.get_round.new.asks
      (ascend_kept asked (λ p. p.0) _ c.args.asks.now c.get_round.new.asks c.get_round.ensures.entries c.requires.clouds)
      c.get_round.ensures.failed c.get_round.ensures.exact) c.answered.ensures.err;
  clean = λ exact. on_ok_weaker _ (seen_counts c.get_round.new.asks _ _ (c.get_round.ensures.exact exact)) c.answered.ensures.ok;
}

pub returns-clause-looked : goal.returns-clause-looked
returns-clause-looked g c = record {
  clouds = c.get_round.ensures.clouds;
  held = c.get_round.ensures.held;
  grows = c.get_round.ensures.grows;
  slips = c.get_round.ensures.slips;
}

pub returns-clause-stops : goal.returns-clause-stops
returns-clause-stops g c = stops_round (λ G. G ≡ g.F.Fleet.held c.args.fleet.now) c.get_round.ensures.time c.get_round.ensures.past (λ G is. is)
