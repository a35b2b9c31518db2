use Rattle.nc_memory.specs.Memory.{contents_of}
use Rattle.nc_memory.proofs.Listing.{list_exact, list_failed, list_held, list_recorded, sorted_then}
use Rattle.nc_memory.proofs.Serves.{round_gave_none, round_grows, round_others, round_past, round_time}
use Rattle.nc_memory.proofs.memory.MemFleetFleet.list.Goals as goal

pub returns-clause-sorted : goal.returns-clause-sorted
returns-clause-sorted c = sorted_then (contents_of c.args.self.now c.args.cloud) c.serve_list.result c.serve_list.ensures.told

pub returns-clause-failed : goal.returns-clause-failed
returns-clause-failed c = list_failed c.serve_list.ensures.serves

pub returns-clause-exact : goal.returns-clause-exact
returns-clause-exact c = list_exact c.serve_list.ensures.serves

pub returns-clause-held : goal.returns-clause-held
returns-clause-held c = list_held c.serve_list.ensures.serves

pub returns-clause-grows : goal.returns-clause-grows
returns-clause-grows c = round_grows (list_recorded c.serve_list.ensures.serves).1

pub returns-clause-faults : goal.returns-clause-faults
returns-clause-faults c = λ i cloud. round_others (list_recorded c.serve_list.ensures.serves).1 cloud i

pub returns-clause-gets : goal.returns-clause-gets
returns-clause-gets c = round_gave_none (list_recorded c.serve_list.ensures.serves).1

pub returns-clause-time : goal.returns-clause-time
returns-clause-time c = round_time (list_recorded c.serve_list.ensures.serves).1

pub returns-clause-past : goal.returns-clause-past
returns-clause-past c = round_past (list_recorded c.serve_list.ensures.serves).1
