use Rattle.std.proofs.Common.{ℕ, List, subst}
use Rattle.std.proofs.Math.Path.{fun_ext}
use Rattle.nc_name.specs.Names.{IsName}
use Rattle.nc_state.specs.Clouds.{Clouds}
use Rattle.nc_restore.specs.Asking.{is_restored}
use Rattle.nc_restore.specs.Restoring.{RestoreDid}
use Rattle.nc_restore.proofs.DoneLaws.{did_alone, did_keep, did_kept, did_none, did_only, did_sound, did_unasked}
use Rattle.nc_restore.proofs.CauseLaws.{did_cause, did_clean, did_short}
use Rattle.nc_restore.proofs.GetLaws.{did_gets, did_read}
use Rattle.nc_restore.proofs.RightLaws.{did_counts, did_rest, did_right}
use Rattle.nc_restore.proofs.ShortLaws.{did_short_show}
use Rattle.nc_restore.proofs.TurnLaws.{restored_within}
use Rattle.nc_restore.proofs.restoring.restore_one.Goals as goal

pub returns-clause-did : goal.returns-clause-did
returns-clause-did g c =
    subst (λ (P : Clouds). RestoreDid g.F.Fleet c.args.name.now c.args.before.now P c.args.fleet.now c.restore_in_turn.new.fleet c.restore_in_turn.result) (fun_ext c.restored_table-on.ensures.each) c.restore_in_turn.ensures.did

pub returns-clause-sound : goal.returns-clause-sound
returns-clause-sound g c = did_sound g.F.Fleet c.args.name.now c.args.before.now (is_restored c.args.first c.args.second) c.args.fleet.now c.restore_in_turn.new.fleet c.restore_in_turn.result (returns-clause-did g c)

pub returns-clause-healthy : goal.returns-clause-healthy
returns-clause-healthy g c told = did_only g.F.Fleet c.args.name.now c.args.before.now (is_restored c.args.first c.args.second) c.args.fleet.now c.restore_in_turn.new.fleet told c.restore_in_turn.result (returns-clause-did g c)

pub returns-clause-alone : goal.returns-clause-alone
returns-clause-alone g c told = did_alone g.F.Fleet c.args.name.now c.args.before.now (is_restored c.args.first c.args.second) c.args.fleet.now c.restore_in_turn.new.fleet told c.restore_in_turn.result (returns-clause-did g c)

pub returns-clause-kept : goal.returns-clause-kept
returns-clause-kept g c = did_kept g.F.Fleet c.args.name.now c.args.before.now (is_restored c.args.first c.args.second) c.args.fleet.now c.restore_in_turn.new.fleet c.restore_in_turn.result (returns-clause-did g c)

pub returns-clause-none : goal.returns-clause-none
returns-clause-none g c = did_none g.F.Fleet c.args.name.now c.args.before.now (is_restored c.args.first c.args.second) c.args.fleet.now c.restore_in_turn.new.fleet c.restore_in_turn.result (returns-clause-did g c)

pub returns-clause-clouds : goal.returns-clause-clouds
returns-clause-clouds g c = (did_keep g.F.Fleet c.args.name.now c.args.before.now (is_restored c.args.first c.args.second) c.args.fleet.now c.restore_in_turn.new.fleet c.restore_in_turn.result (returns-clause-did g c)).clouds

pub returns-clause-grows : goal.returns-clause-grows
returns-clause-grows g c = (did_keep g.F.Fleet c.args.name.now c.args.before.now (is_restored c.args.first c.args.second) c.args.fleet.now c.restore_in_turn.new.fleet c.restore_in_turn.result (returns-clause-did g c)).grows

pub returns-clause-slips : goal.returns-clause-slips
returns-clause-slips g c = (did_keep g.F.Fleet c.args.name.now c.args.before.now (is_restored c.args.first c.args.second) c.args.fleet.now c.restore_in_turn.new.fleet c.restore_in_turn.result (returns-clause-did g c)).slips

pub returns-clause-time : goal.returns-clause-time
returns-clause-time g c = (did_keep g.F.Fleet c.args.name.now c.args.before.now (is_restored c.args.first c.args.second) c.args.fleet.now c.restore_in_turn.new.fleet c.restore_in_turn.result (returns-clause-did g c)).time

pub returns-clause-rests : goal.returns-clause-rests
returns-clause-rests g c told = did_rest g.F.Fleet c.args.name.now c.args.before.now (is_restored c.args.first c.args.second) c.args.fleet.now c.restore_in_turn.new.fleet told (subst (λ (l : List ℕ). IsName l) c.bytes-told.ensures.same c.bytes-told.ensures.name) c.restore_in_turn.result (returns-clause-did g c)

pub returns-clause-right : goal.returns-clause-right
returns-clause-right g c told = did_right g.F.Fleet c.args.name.now c.args.before.now (is_restored c.args.first c.args.second) c.args.fleet.now c.restore_in_turn.new.fleet told c.restore_in_turn.result (returns-clause-did g c)

pub returns-clause-counts : goal.returns-clause-counts
returns-clause-counts g c told = did_counts g.F.Fleet c.args.name.now c.args.before.now (is_restored c.args.first c.args.second) c.args.fleet.now c.restore_in_turn.new.fleet told (subst (λ (l : List ℕ). IsName l) c.bytes-told.ensures.same c.bytes-told.ensures.name) c.restore_in_turn.result (returns-clause-did g c)

pub returns-clause-short : goal.returns-clause-short
returns-clause-short g c = did_short g.F.Fleet c.args.name.now c.args.before.now (is_restored c.args.first c.args.second) c.args.fleet.now c.restore_in_turn.new.fleet (restored_within c.args.first c.args.second (g.F.Fleet.clouds c.args.fleet.now) c.requires.first c.requires.second) c.restore_in_turn.result (returns-clause-did g c)

pub returns-clause-cause : goal.returns-clause-cause
returns-clause-cause g c = did_cause g.F.Fleet c.args.name.now c.args.before.now (is_restored c.args.first c.args.second) c.args.fleet.now c.restore_in_turn.new.fleet (restored_within c.args.first c.args.second (g.F.Fleet.clouds c.args.fleet.now) c.requires.first c.requires.second) c.restore_in_turn.result (returns-clause-did g c)

pub returns-clause-clean : goal.returns-clause-clean
returns-clause-clean g c exact = did_clean g.F.Fleet c.args.name.now c.args.before.now (is_restored c.args.first c.args.second) c.args.fleet.now c.restore_in_turn.new.fleet (restored_within c.args.first c.args.second (g.F.Fleet.clouds c.args.fleet.now) c.requires.first c.requires.second) exact c.restore_in_turn.result (returns-clause-did g c)

pub returns-clause-shows : goal.returns-clause-shows
returns-clause-shows g c told = did_short_show g.F.Fleet c.args.name.now c.args.before.now (is_restored c.args.first c.args.second) c.args.fleet.now c.restore_in_turn.new.fleet told c.restore_in_turn.result (returns-clause-did g c)

pub returns-clause-unasked : goal.returns-clause-unasked
returns-clause-unasked g c = did_unasked g.F.Fleet c.args.name.now c.args.before.now (is_restored c.args.first c.args.second) c.args.fleet.now c.restore_in_turn.new.fleet c.restore_in_turn.result (returns-clause-did g c)

pub returns-clause-gets : goal.returns-clause-gets
returns-clause-gets g c told other = did_gets g.F.Fleet c.args.name.now c.args.before.now (is_restored c.args.first c.args.second) c.args.fleet.now c.restore_in_turn.new.fleet told c.restore_in_turn.result other (returns-clause-did g c)

pub returns-clause-reads : goal.returns-clause-reads
returns-clause-reads g c = did_read g.F.Fleet c.args.name.now c.args.before.now (is_restored c.args.first c.args.second) c.args.fleet.now c.restore_in_turn.new.fleet c.restore_in_turn.result (returns-clause-did g c)
