use Rattle.nc_cloud.proofs.FanGets.{GetRound, fan_asked, fan_gets, fan_held, fan_told}
use Rattle.nc_cloud.proofs.FanRounds.{fan_answered, fan_exact, fan_failed, fan_grows, fan_others}
use Rattle.nc_cloud.proofs.seats.fan_gets.Given.{Over}
use Rattle.nc_cloud.proofs.seats.fan_gets.Goals as goal

round : (g : Over) (c : goal.After-asks-1 g) → GetRound g.C.Cloud c.args.asks.now c.collect_gets.new.asks c.args.seats.now c.get_all.new.seats c.collect_gets.new.seats
round g c = record {
  below = c.requires.below;
  once = c.requires.once;
  served = c.get_all.ensures;
  answers = c.collect_gets.ensures.answers;
  clouds = c.collect_gets.ensures.clouds;
  ended = λ a s t done. done.ended;
}

pub returns-clause-entries : goal.returns-clause-entries
returns-clause-entries g c = fan_asked (round g c)

pub returns-clause-answered : goal.returns-clause-answered
returns-clause-answered g c = fan_answered (round g c)

pub returns-clause-told : goal.returns-clause-told
returns-clause-told g c = fan_told (round g c)

pub returns-clause-failed : goal.returns-clause-failed
returns-clause-failed g c = fan_failed (round g c)

pub returns-clause-exact : goal.returns-clause-exact
returns-clause-exact g c = fan_exact (round g c)

pub returns-clause-held : goal.returns-clause-held
returns-clause-held g c = fan_held (round g c)

pub returns-clause-grows : goal.returns-clause-grows
returns-clause-grows g c = fan_grows (round g c)

pub returns-clause-slips : goal.returns-clause-slips
returns-clause-slips g c = fan_others (round g c)

pub returns-clause-gets : goal.returns-clause-gets
returns-clause-gets g c = fan_gets (round g c)
