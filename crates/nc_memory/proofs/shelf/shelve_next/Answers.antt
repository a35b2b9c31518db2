use Rattle.std.proofs.Common.{OnOk, ◌≡◌, ◌∷◌, [], sym, ap, ◌∙◌, subst}
use Rattle.nc_cloud.specs.Contents.{Contents}
use Rattle.nc_memory.specs.Shelf.{after_steps, shelved}
use Rattle.nc_memory.proofs.ShelfLaws.{step_added, step_passed}
use Rattle.nc_memory.proofs.shelf.shelve_next.Goals as goal

pub returns-in-Some : goal.returns-in-Some
returns-in-Some c = λ F is. is ∙ step_passed c.args.before.now c.args.step.now _ F (sym c.in-Some.ensures)

pub returns-in-None : goal.returns-in-None
returns-in-None c = λ F is.
    subst (λ (G : Contents). OnOk c.shelve_step.result (shelved c.shelve_step.new.shelf ≡ G))
    (ap (after_steps (c.args.step.now ∷ [])) is ∙ step_added c.args.before.now c.args.step.now F (sym c.in-None.ensures)) c.shelve_step.ensures
