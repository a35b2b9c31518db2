use Rattle.std.proofs.Common.{ap}
use Rattle.nc_memory.proofs.Counting.{deletes, is_failed_done, not_failed_done}
use Rattle.nc_memory.proofs.Serves.{round_exact, round_failed, round_gave_none, round_grows, round_others, round_past, round_time, writes_answered, writes_entries, writes_recorded, writes_told}
use Rattle.nc_memory.proofs.memory.MemFleetFleet.delete_round.Goals as goal

pub returns-clause-entries : goal.returns-clause-entries
returns-clause-entries c = writes_entries deletes c.serve_deletes.ensures

pub returns-clause-answered : goal.returns-clause-answered
returns-clause-answered c = writes_answered deletes c.serve_deletes.ensures

pub returns-clause-told : goal.returns-clause-told
returns-clause-told c = writes_told deletes (λ k d l. tt) c.serve_deletes.ensures

pub returns-clause-failed : goal.returns-clause-failed
returns-clause-failed c = λ k d l e. round_failed (writes_recorded deletes (λ k d l. tt) c.serve_deletes.ensures) k d l (ap is_failed_done e)

pub returns-clause-exact : goal.returns-clause-exact
returns-clause-exact c = λ cloud none. round_exact (writes_recorded deletes (λ k d l. tt) c.serve_deletes.ensures) cloud (λ k d l e. not_failed_done _ (none k d l e))

pub returns-clause-grows : goal.returns-clause-grows
returns-clause-grows c = round_grows (writes_recorded deletes (λ k d l. tt) c.serve_deletes.ensures)

pub returns-clause-faults : goal.returns-clause-faults
returns-clause-faults c = λ i cloud. round_others (writes_recorded deletes (λ k d l. tt) c.serve_deletes.ensures) cloud i

pub returns-clause-gets : goal.returns-clause-gets
returns-clause-gets c = round_gave_none (writes_recorded deletes (λ k d l. tt) c.serve_deletes.ensures)

pub returns-clause-time : goal.returns-clause-time
returns-clause-time c = round_time (writes_recorded deletes (λ k d l. tt) c.serve_deletes.ensures)

pub returns-clause-past : goal.returns-clause-past
returns-clause-past c = round_past (writes_recorded deletes (λ k d l. tt) c.serve_deletes.ensures)
