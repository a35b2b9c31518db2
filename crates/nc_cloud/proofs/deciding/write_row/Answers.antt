use Rattle.std.proofs.Common.{List, subst}
use Rattle.nc_cloud.specs.declared.fleet.Job.{Job}
use Rattle.nc_cloud.specs.Fleet.{writes}
use Rattle.nc_cloud.specs.Deciding.{Wrote}
use Rattle.nc_cloud.proofs.deciding.write_row.Goals as goal

pub returns : goal.returns
returns g c = record {
  wrote = (
    c.write_round.new.jobs,
    subst (λ (js : List Job). Wrote g.F.Fleet (writes js) c.write_round.new.jobs c.args.fleet.now c.write_round.new.fleet c.write_round.result) c.deref_mut.ensures.value c.write_round.ensures.wrote,
  );
}
