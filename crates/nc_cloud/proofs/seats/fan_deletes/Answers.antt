use Rattle.std.proofs.Common.{refl}
use Rattle.nc_cloud.proofs.FanWrites.{WriteRound, fan_entries, fan_keeps_gets, fan_leaves, erases, fan_found}
use Rattle.nc_cloud.proofs.FanRounds.{fan_answered, fan_exact, fan_failed, fan_grows, fan_others}
use Rattle.nc_cloud.proofs.seats.fan_deletes.Given.{Over}
use Rattle.nc_cloud.proofs.seats.fan_deletes.Goals as goal

round : (g : Over) (c : goal.After-erases-1 g)
    → WriteRound g.C.Cloud g.C.Cloud.sure_deletes g.C.Cloud.slips g.C.Cloud.faults erases c.args.erases.now c.collect_erases.new.erases c.args.seats.now c.delete_all.new.seats
round g c = record {
  below = c.requires.below;
  once = c.requires.once;
  served = c.delete_all.ensures;
  answers = c.collect_erases.ensures;
  clouds = refl;
  ended = λ e s t done. done.ended;
}

pub returns-clause-entries : goal.returns-clause-entries
returns-clause-entries g c = fan_entries erases (round g c)

pub returns-clause-answered : goal.returns-clause-answered
returns-clause-answered g c = fan_answered (round g c)

pub returns-clause-told : goal.returns-clause-told
returns-clause-told g c = fan_leaves erases (round g c)

pub returns-clause-failed : goal.returns-clause-failed
returns-clause-failed g c = fan_failed (round g c)

pub returns-clause-exact : goal.returns-clause-exact
returns-clause-exact g c = fan_exact (round g c)

pub returns-clause-grows : goal.returns-clause-grows
returns-clause-grows g c = fan_grows (round g c)

pub returns-clause-faults : goal.returns-clause-faults
returns-clause-faults g c = fan_others (round g c)

pub returns-clause-gets : goal.returns-clause-gets
returns-clause-gets g c = fan_keeps_gets erases (round g c)

pub returns-clause-sure : goal.returns-clause-sure
returns-clause-sure g c = fan_found erases (round g c)
