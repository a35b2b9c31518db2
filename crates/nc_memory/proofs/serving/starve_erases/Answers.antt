use Rattle.std.proofs.Common.{arith, refl, ◌<◌, length}
use Rattle.nc_cloud.specs.declared.fleet.Done.TheVariants.{Memory}
use Rattle.nc_memory.specs.Record.{end_erase}
use Rattle.nc_cloud.proofs.Served.{map_set}
use Rattle.nc_memory.proofs.serving.starve_erases.Goals as goal

pub loop-erase-preserved : goal.loop-erase-preserved
loop-erase-preserved c =
    let l : c.loop-erase.erase-index < length c.args.erases.now = omega arith in
    map_set c.args.erases.now c.loop-erase.erases c.loop-erase.erase-index c.erase-item.result _ l (end_erase Memory) c.loop-erase.invariant refl
