use Rattle.std.proofs.Common.{ℕ, sym, subst}
use Rattle.nc_state.specs.Tidy.{IsTidy}
use Rattle.nc_words.specs.declared.act.Act.TheVariants as act
use Rattle.nc_words.specs.Acts.{task_of}
use Rattle.nc_vault.specs.declared.fault.Fault.{Fault}
use Rattle.nc_vault.specs.Parts.{PartStopped}
use Rattle.nc_vault.specs.Writing.{Tidies}
use Rattle.nc_vault.proofs.OneName.{proceeds_then}
use Rattle.nc_vault.proofs.RecoverLaws.{recover_done, recover_unsettled, recover_untidied}
use Rattle.nc_vault.proofs.recovering.recover_name.Goals as goal

-- the name wasn't settled
pub returns-in-Err-clause-stopped : goal.returns-in-Err-clause-stopped
returns-in-Err-clause-stopped g c = λ s bytes.
    subst (λ (f : Fault). PartStopped g.F.Fleet (task_of s act.Recover bytes) c.args.name.now f c.args.fleet.now c.come.new.fleet) (sym c.from.ensures)
    (recover_unsettled g.F.Fleet s bytes c.args.name.now c.told_name.ensures c.in-Err.fault c.in-Err.ensures.unsettled)

pub returns-in-Err-clause-unread : goal.returns-in-Err-clause-unread
returns-in-Err-clause-unread g c = c.in-Err.ensures.unsettled.settles.proceeds.gets

-- no memory was found for tidying
pub returns-in-Err-finish-clause-stopped : goal.returns-in-Err-finish-clause-stopped
returns-in-Err-finish-clause-stopped g c = λ s bytes.
    recover_untidied g.F.Fleet s bytes c.args.name.now c.told_name.ensures c.in-Ok.top.top c.in-Ok.ensures.settled
    (subst (λ (k : ℕ). Tidies g.F.Fleet k c.args.name.now c.in-Ok.top.top c.come.new.fleet c.finish.new.fleet) c.in-Ok.ensures.settled.settles.proceeds.clouds c.finish.ensures.tidies)

pub returns-in-Err-finish-clause-unread : goal.returns-in-Err-finish-clause-unread
returns-in-Err-finish-clause-unread g c = (proceeds_then c.in-Ok.ensures.settled.settles.proceeds c.finish.ensures.tidies.proceeds).gets

-- the name is at rest and tidied
pub returns-in-Ok-finish-clause-done : goal.returns-in-Ok-finish-clause-done
returns-in-Ok-finish-clause-done g c = λ s bytes.
    let clouds = c.in-Ok.ensures.settled.settles.proceeds.clouds in
    recover_done g.F.Fleet s bytes c.args.name.now c.told_name.ensures c.in-Ok.top.top c.in-Ok.ensures.settled
    (subst (λ (k : ℕ). Tidies g.F.Fleet k c.args.name.now c.in-Ok.top.top c.come.new.fleet c.finish.new.fleet) clouds c.finish.ensures.tidies)
    c.requires.wide c.requires.narrow
    (λ told sure none. subst (λ (k : ℕ). IsTidy k (g.F.Fleet.held c.finish.new.fleet) c.args.name.now c.in-Ok.top.top) clouds (c.in-Ok-finish.ensures.tidy told sure none))

pub returns-in-Ok-finish-clause-unread : goal.returns-in-Ok-finish-clause-unread
returns-in-Ok-finish-clause-unread g c = (proceeds_then c.in-Ok.ensures.settled.settles.proceeds c.finish.ensures.tidies.proceeds).gets
