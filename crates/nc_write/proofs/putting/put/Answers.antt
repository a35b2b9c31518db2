use Rattle.std.proofs.Common.{List, ℕ, subst}
use Rattle.nc_name.specs.Names.{IsName}
use Rattle.nc_write.proofs.DoingLaws.{did_keep, did_not_worn, did_worn}
use Rattle.nc_write.proofs.PutDone.{put_alone, put_begins, put_does, put_fits, put_made, put_stored}
use Rattle.nc_write.proofs.putting.put.Goals as goal

pub returns-clause-did : goal.returns-clause-did
returns-clause-did g c = c.put_in_turn.ensures.did

pub returns-clause-made : goal.returns-clause-made
returns-clause-made g c = put_made _ _ _ _ _ c.put_in_turn.ensures.did

pub returns-clause-fits : goal.returns-clause-fits
returns-clause-fits g c = put_fits _ _ _ _ _ c.put_in_turn.ensures.did

pub returns-clause-stored : goal.returns-clause-stored
returns-clause-stored g c told = put_stored _ _ _ _ _ c.put_in_turn.ensures.did told

pub returns-clause-begins : goal.returns-clause-begins
returns-clause-begins g c told = put_begins _ _ _ _ _ c.put_in_turn.ensures.did told (subst (λ (l : List ℕ). IsName l) c.bytes-told.ensures.same c.bytes-told.ensures.name)

pub returns-clause-does : goal.returns-clause-does
returns-clause-does g c told = put_does _ _ _ _ _ c.put_in_turn.ensures.did told (subst (λ (l : List ℕ). IsName l) c.bytes-told.ensures.same c.bytes-told.ensures.name)

pub returns-clause-alone : goal.returns-clause-alone
returns-clause-alone g c told = put_alone _ _ _ _ _ c.put_in_turn.ensures.did told

pub returns-clause-worn : goal.returns-clause-worn
returns-clause-worn g c worn = did_worn c.put_in_turn.ensures.did worn

pub returns-clause-not_worn : goal.returns-clause-not_worn
returns-clause-not_worn g c is = did_not_worn c.put_in_turn.ensures.did is

pub returns-clause-cause : goal.returns-clause-cause
returns-clause-cause g c = (did_keep c.put_in_turn.ensures.did).cause

pub returns-clause-clean : goal.returns-clause-clean
returns-clause-clean g c exact = (did_keep c.put_in_turn.ensures.did).clean exact

pub returns-clause-clouds : goal.returns-clause-clouds
returns-clause-clouds g c = (did_keep c.put_in_turn.ensures.did).clouds

pub returns-clause-grows : goal.returns-clause-grows
returns-clause-grows g c = (did_keep c.put_in_turn.ensures.did).grows

pub returns-clause-slips : goal.returns-clause-slips
returns-clause-slips g c = (did_keep c.put_in_turn.ensures.did).slips

pub returns-clause-gets : goal.returns-clause-gets
returns-clause-gets g c = (did_keep c.put_in_turn.ensures.did).gets

pub returns-clause-time : goal.returns-clause-time
returns-clause-time g c = (did_keep c.put_in_turn.ensures.did).time
