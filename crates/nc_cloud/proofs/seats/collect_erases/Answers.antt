use Rattle.std.proofs.Common.{◌<◌, length, get_or, arith, ap}
use Rattle.std.proofs.lemmas.List.Elements.{All-set}
use Rattle.nc_cloud.specs.Seats.{collected_erase}
use Rattle.nc_cloud.proofs.Served.{map_set}
use Rattle.nc_cloud.proofs.seats.collect_erases.Goals as goal

pub loop-erase-preserved : goal.loop-erase-preserved
loop-erase-preserved g c =
    let l : c.loop-erase.erase-index < length c.args.erases.now = omega arith in
    let m : c.loop-erase.erase-index < length c.loop-erase.erases = omega arith in (
      map_set c.args.erases.now c.loop-erase.erases c.loop-erase.erase-index c.erase-item.result _ l (collected_erase c.args.seats.now) c.loop-erase.invariant.0
          (ap (λ d. record (get_or c.loop-erase.erases c.loop-erase.erase-index c.erase-item.result) { done = d }) c.done_at-erase.ensures),
      All-set (λ e. e.cloud < length c.args.seats.now) c.loop-erase.erases c.loop-erase.erase-index _ (c.loop-erase.invariant.1 c.loop-erase.erase-index c.erase-item.result m) c.loop-erase.invariant.1,
    )
