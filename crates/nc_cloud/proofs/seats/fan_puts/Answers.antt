use Rattle.std.proofs.Common.{refl}
use Rattle.nc_cloud.proofs.FanWrites.{WriteRound, fan_entries, fan_keeps_gets, fan_leaves, jobs}
use Rattle.nc_cloud.proofs.FanRounds.{fan_answered, fan_exact, fan_failed, fan_grows, fan_others}
use Rattle.nc_cloud.proofs.seats.fan_puts.Given.{Over}
use Rattle.nc_cloud.proofs.seats.fan_puts.Goals as goal

round : (g : Over) (c : goal.After-jobs-1 g)
    → WriteRound g.C.Cloud ⊥ g.C.Cloud.faults g.C.Cloud.slips jobs c.args.jobs.now c.collect_puts.new.jobs c.args.seats.now c.put_all.new.seats
round g c = record {
  below = c.requires.below;
  once = c.requires.once;
  served = c.put_all.ensures;
  answers = c.collect_puts.ensures;
  clouds = refl;
  ended = λ j s t done. done.ended;
}

pub returns-clause-entries : goal.returns-clause-entries
returns-clause-entries g c = fan_entries jobs (round g c)

pub returns-clause-answered : goal.returns-clause-answered
returns-clause-answered g c = fan_answered (round g c)

pub returns-clause-told : goal.returns-clause-told
returns-clause-told g c = fan_leaves jobs (round g c)

pub returns-clause-failed : goal.returns-clause-failed
returns-clause-failed g c = fan_failed (round g c)

pub returns-clause-exact : goal.returns-clause-exact
returns-clause-exact g c = fan_exact (round g c)

pub returns-clause-grows : goal.returns-clause-grows
returns-clause-grows g c = fan_grows (round g c)

pub returns-clause-slips : goal.returns-clause-slips
returns-clause-slips g c = fan_others (round g c)

pub returns-clause-gets : goal.returns-clause-gets
returns-clause-gets g c = fan_keeps_gets jobs (round g c)
