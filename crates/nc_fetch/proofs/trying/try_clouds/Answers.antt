use Rattle.std.proofs.Common.{◌≡◌, ◌-◌, ◌+◌, ◌≤◌, length, inl, inr, arith}
use Rattle.nc_fetch.proofs.TryLaws.{are_tried_none, are_tried_then}
use Rattle.nc_fetch.proofs.trying.try_clouds.Goals as goal

pub batches-init : goal.batches-init
batches-init g c = are_tried_none g.F.Fleet c.args.name.now c.args.live.now c.args.fleet.now c.args.whys.now c.new-pieces.result.items c.requires.wide c.new-pieces.ensures.items

pub batches-preserved : goal.batches-preserved
batches-preserved g c =
    let few : length c.batches.pieces.items + 2 ≤ g.F.Fleet.clouds c.args.fleet.now = c.batches.invariant.has.few in
    let high : c.batch_end-next.result ≤ g.F.Fleet.clouds c.args.fleet.now = omega (arith, c.batch_end-next.ensures.within, c.width-width.ensures) in
    let count : c.from.result - 2 - c.len-in-batches.result + length c.batches.pieces.items + 2 ≡ g.F.Fleet.clouds c.args.fleet.now =
    omega (arith, few, c.from.ensures, c.width-width.ensures, c.len-in-batches.ensures, c.batches.pieces.ok) in
    are_tried_then g.F.Fleet c.args.name.now c.args.live.now c.args.fleet.now c.batches.fleet c.try_batch.new.fleet c.args.whys.now c.batches.whys c.try_batch.new.whys c.batches.at c.batch_end-next.result
    (c.from.result - 2 - c.len-in-batches.result) c.batches.pieces.items c.try_batch.new.pieces.items c.batches.invariant c.batch_end-next.ensures.later high count c.batch_end-next.ensures.few c.batch_end-next.ensures.needed
    c.in_ok-try_batch.ensures.tried c.try_batch.ensures.looked c.try_batch.ensures.stops

pub returns-clause-tried : goal.returns-clause-tried
returns-clause-tried g c = record {
  up_to = c.batches.at;
  has = c.batches.invariant.has;
  ended = elim (c.goes_on.ensures.ended c.batches-test.false) [
    | inl all ↦ inl (omega (arith, all, c.batches.invariant.has.within, c.width-width.ensures))
    | inr enough ↦ inr (omega (arith, enough, c.batches.invariant.has.few, c.len.ensures, c.batches.pieces.ok, c.width-width.ensures))
  ];
}
