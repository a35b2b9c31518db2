use Rattle.std.proofs.Common.{arith}
use Rattle.std.proofs.lemmas.Grind.{common_steps}
use Rattle.nc_lanes.proofs.DotLemmas.{dot_more}
use Rattle.nc_lanes.proofs.dot.Goals as goal

pub loop-i-preserved : goal.loop-i-preserved
loop-i-preserved c = grind (arith, common_steps, dot_more c.loop-i.i c.args.a.now c.args.b.now)
