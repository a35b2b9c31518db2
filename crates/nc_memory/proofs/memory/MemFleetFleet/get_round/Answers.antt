use Rattle.std.proofs.Common.{ap}
use Rattle.nc_cloud.specs.Fleet.{is_failed}
use Rattle.nc_memory.proofs.Counting.{not_failed}
use Rattle.nc_memory.proofs.Serves.{gets_entries, gets_answered, gets_told, gets_held, gets_given_all, gets_recorded, round_exact, round_failed, round_grows, round_others, round_past, round_time}
use Rattle.nc_memory.proofs.memory.MemFleetFleet.get_round.Goals as goal

pub returns-clause-entries : goal.returns-clause-entries
returns-clause-entries c = gets_entries c.serve_gets.ensures

pub returns-clause-answered : goal.returns-clause-answered
returns-clause-answered c = gets_answered c.serve_gets.ensures

pub returns-clause-told : goal.returns-clause-told
returns-clause-told c = gets_told c.serve_gets.ensures

pub returns-clause-failed : goal.returns-clause-failed
returns-clause-failed c = λ k d l e. round_failed (gets_recorded c.serve_gets.ensures) k d l (ap is_failed e)

pub returns-clause-exact : goal.returns-clause-exact
returns-clause-exact c = λ cloud none. round_exact (gets_recorded c.serve_gets.ensures) cloud (λ k d l e. not_failed _ (none k d l e))

pub returns-clause-held : goal.returns-clause-held
returns-clause-held c = gets_held c.serve_gets.ensures

pub returns-clause-grows : goal.returns-clause-grows
returns-clause-grows c = round_grows (gets_recorded c.serve_gets.ensures)

pub returns-clause-slips : goal.returns-clause-slips
returns-clause-slips c = λ i cloud. round_others (gets_recorded c.serve_gets.ensures) cloud i

pub returns-clause-gets : goal.returns-clause-gets
returns-clause-gets c = gets_given_all c.serve_gets.ensures

pub returns-clause-time : goal.returns-clause-time
returns-clause-time c = round_time (gets_recorded c.serve_gets.ensures)

pub returns-clause-past : goal.returns-clause-past
returns-clause-past c = round_past (gets_recorded c.serve_gets.ensures)
