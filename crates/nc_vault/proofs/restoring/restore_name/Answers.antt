use Rattle.std.proofs.Common.{Option, sym, subst}
use Rattle.nc_meta.specs.declared.meta.Meta.{Meta}
use Rattle.nc_words.specs.declared.act.Act.TheVariants as act
use Rattle.nc_words.specs.Acts.{task_of}
use Rattle.nc_vault.specs.declared.fault.Fault.{Fault}
use Rattle.nc_vault.specs.Parts.{PartStopped}
use Rattle.nc_vault.specs.Writing.{IsSettled}
use Rattle.nc_vault.proofs.RestorePart.{restore_passed, restore_unsettled, restored, unrestored}
use Rattle.nc_vault.proofs.restoring.restore_name.Goals as goal

-- the name wasn't settled
pub returns-in-Err-clause-stopped : goal.returns-in-Err-clause-stopped
returns-in-Err-clause-stopped g c bytes =
    subst (λ (f : Fault). PartStopped g.F.Fleet (task_of c.args.setting.now (act.Restore c.args.first c.args.second) bytes) c.args.name.now f c.args.fleet.now c.come.new.fleet) (sym c.from.ensures)
    (restore_unsettled g.F.Fleet c.args.setting.now c.args.first c.args.second bytes c.args.name.now c.told_name.ensures c.in-Err.fault c.in-Err.ensures.unsettled)

-- it has no file
pub returns-in_default-clause-done : goal.returns-in_default-clause-done
returns-in_default-clause-done g c bytes =
    restore_passed g.F.Fleet c.args.setting.now c.args.first c.args.second bytes c.args.name.now c.told_name.ensures c.in-Ok.top.top c.in-Ok.ensures.settled c.in_default.ensures.none

-- its file is restored
pub returns-in-Ok-restore_file-clause-done : goal.returns-in-Ok-restore_file-clause-done
returns-in-Ok-restore_file-clause-done g c bytes =
    restored g.F.Fleet c.args.setting.now c.args.first c.args.second bytes c.args.name.now c.told_name.ensures c.in-Some.live
    (subst (λ (t : Option Meta). IsSettled g.F.Fleet c.args.name.now c.args.fleet.now c.come.new.fleet t) c.in-Some.ensures.file c.in-Ok.ensures.settled)
    c.in-Ok-restore_file.objects c.in-Ok-restore_file.ensures.restored

-- it isn't
pub returns-in-Err-restore_file-clause-stopped : goal.returns-in-Err-restore_file-clause-stopped
returns-in-Err-restore_file-clause-stopped g c bytes =
    subst (λ (f : Fault). PartStopped g.F.Fleet (task_of c.args.setting.now (act.Restore c.args.first c.args.second) bytes) c.args.name.now f c.args.fleet.now c.restore_file.new.fleet) (sym c.from-in-Err-restore_file.ensures)
    (unrestored g.F.Fleet c.args.setting.now c.args.first c.args.second bytes c.args.name.now c.told_name.ensures c.in-Some.live
    (subst (λ (t : Option Meta). IsSettled g.F.Fleet c.args.name.now c.args.fleet.now c.come.new.fleet t) c.in-Some.ensures.file c.in-Ok.ensures.settled)
    c.in-Err-restore_file.fault c.in-Err-restore_file.ensures.unrestored)
