use Rattle.std.proofs.Common.{◌≡◌, ◌<◌, length, get_or, arith, ap}
use Rattle.std.proofs.lemmas.List.{get_or_default}
use Rattle.nc_cloud.specs.declared.fleet.Ask.{Ask}
use Rattle.nc_cloud.proofs.SeatLaws.{collecting_more}
use Rattle.nc_cloud.proofs.seats.collect_gets.Goals as goal

pub loop-i-preserved : goal.loop-i-preserved
loop-i-preserved g c =
    let l : c.loop-i.i < length c.args.asks.now = omega arith in
    let m : c.loop-i.i < length c.loop-i.asks = omega arith in
    let same : (get_or c.loop-i.asks c.loop-i.i c.index-asks-i.result).cloud ≡ (get_or c.loop-i.asks c.loop-i.i c.index-asks-i-in-loop-i.result).cloud
    = ap (λ (a : Ask). a.cloud) (get_or_default c.loop-i.asks c.loop-i.i _ _ m) in
    collecting_more c.args.seats.now c.loop-i.seats c.taken.new.seats c.args.asks.now c.loop-i.asks c.loop-i.i c.index-asks-i-in-loop-i.result l m c.requires.once c.loop-i.invariant
    c.taken.result _ same c.taken.ensures.answer c.taken.ensures.clouds c.taken.ensures.others
