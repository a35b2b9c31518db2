use Rattle.std.proofs.Common.{Option, ◌∙◌, sym, subst}
use Rattle.nc_meta.specs.declared.meta.Meta.{Meta}
use Rattle.nc_words.specs.declared.act.Act.TheVariants as act
use Rattle.nc_words.specs.Acts.{task_of}
use Rattle.nc_vault.specs.declared.fault.Fault.{Fault}
use Rattle.nc_vault.specs.Parts.{PartStopped}
use Rattle.nc_vault.specs.Writing.{IsSettled}
use Rattle.nc_vault.proofs.RepairPart.{mend_untidied, mended, pass_untidied, passed, repair_unmended, repair_unsettled}
use Rattle.nc_vault.proofs.repairing.repair_name.Goals as goal

-- the name wasn't settled
pub returns-in-Err-clause-stopped : goal.returns-in-Err-clause-stopped
returns-in-Err-clause-stopped g c bytes =
    subst (λ (f : Fault). PartStopped g.F.Fleet (task_of c.args.setting.now (act.Repair c.args.lost) bytes) c.args.name.now f c.args.fleet.now c.come.new.fleet) (sym c.from.ensures)
    (repair_unsettled g.F.Fleet c.args.setting.now c.args.lost bytes c.args.name.now c.told_name.ensures c.in-Err.fault c.in-Err.ensures.unsettled)

-- it has no file
pub returns-in-Ok-finish-clause-done : goal.returns-in-Ok-finish-clause-done
returns-in-Ok-finish-clause-done g c bytes =
    passed g.F.Fleet c.args.setting.now c.args.lost bytes c.args.name.now c.told_name.ensures c.in-Ok.top.top c.in-Ok.ensures.settled c.in_default.ensures.none
    c.in-Ok.ensures.settled.settles.proceeds.clouds c.finish.ensures.tidies c.requires.wide c.requires.narrow c.in-Ok-finish.ensures.tidy

pub returns-in-Err-finish-clause-stopped : goal.returns-in-Err-finish-clause-stopped
returns-in-Err-finish-clause-stopped g c bytes =
    pass_untidied g.F.Fleet c.args.setting.now c.args.lost bytes c.args.name.now c.told_name.ensures c.in-Ok.top.top c.in-Ok.ensures.settled c.in_default.ensures.none
    c.in-Ok.ensures.settled.settles.proceeds.clouds c.finish.ensures.tidies

-- its file wasn't repaired
pub returns-in-Err-mend_file-clause-stopped : goal.returns-in-Err-mend_file-clause-stopped
returns-in-Err-mend_file-clause-stopped g c bytes =
    repair_unmended g.F.Fleet c.args.setting.now c.args.lost bytes c.args.name.now c.told_name.ensures c.in-Some.old
    (subst (λ (t : Option Meta). IsSettled g.F.Fleet c.args.name.now c.args.fleet.now c.come.new.fleet t) c.in-Some.ensures.file c.in-Ok.ensures.settled)
    c.in-Ok.ensures.settled.settles.proceeds.clouds c.in-Err-mend_file.fault c.in-Err-mend_file.ensures.unmended

-- it was
pub returns-in-Ok-finish-2-clause-done : goal.returns-in-Ok-finish-2-clause-done
returns-in-Ok-finish-2-clause-done g c bytes =
    mended g.F.Fleet c.args.setting.now c.args.lost bytes c.args.name.now c.told_name.ensures c.in-Some.old
    (subst (λ (t : Option Meta). IsSettled g.F.Fleet c.args.name.now c.args.fleet.now c.come.new.fleet t) c.in-Some.ensures.file c.in-Ok.ensures.settled)
    c.in-Ok-mend_file.after.top c.in-Ok.ensures.settled.settles.proceeds.clouds c.in-Ok-mend_file.ensures.mended
    (c.in-Ok-mend_file.ensures.mended.mends.advances.clouds ∙ c.in-Ok.ensures.settled.settles.proceeds.clouds) c.finish-2.ensures.tidies
    c.requires.wide c.requires.narrow c.in-Ok-finish-2.ensures.tidy

pub returns-in-Err-finish-2-clause-stopped : goal.returns-in-Err-finish-2-clause-stopped
returns-in-Err-finish-2-clause-stopped g c bytes =
    mend_untidied g.F.Fleet c.args.setting.now c.args.lost bytes c.args.name.now c.told_name.ensures c.in-Some.old
    (subst (λ (t : Option Meta). IsSettled g.F.Fleet c.args.name.now c.args.fleet.now c.come.new.fleet t) c.in-Some.ensures.file c.in-Ok.ensures.settled)
    c.in-Ok-mend_file.after.top c.in-Ok.ensures.settled.settles.proceeds.clouds c.in-Ok-mend_file.ensures.mended
    (c.in-Ok-mend_file.ensures.mended.mends.advances.clouds ∙ c.in-Ok.ensures.settled.settles.proceeds.clouds) c.finish-2.ensures.tidies
