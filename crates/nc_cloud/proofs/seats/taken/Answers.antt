use Rattle.std.proofs.Common.{refl}
use Rattle.std.proofs.Math.Seq.{map-set_same}
use Rattle.nc_cloud.specs.declared.fleet.Answer.TheVariants.{Waiting}
use Rattle.nc_cloud.proofs.SeatLaws.{map_set_other}
use Rattle.nc_cloud.proofs.seats.taken.Goals as goal

pub returns-clause-clouds : goal.returns-clause-clouds
returns-clause-clouds g c = map-set_same (λ s. s.cloud) c.args.seats.now c.args.cloud _ c.index-seats-cloud.result refl

pub returns-clause-others : goal.returns-clause-others
returns-clause-others g c = λ k other. map_set_other (λ s. s.answer) c.args.seats.now c.args.cloud _ k Waiting other
