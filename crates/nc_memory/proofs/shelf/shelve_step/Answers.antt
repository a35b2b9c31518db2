use Rattle.std.proofs.Common.{OnOk, ◌≡◌, ap, ◌∙◌, subst}
use Rattle.nc_cloud.specs.Contents.{Contents}
use Rattle.nc_memory.specs.Record.{left}
use Rattle.nc_memory.specs.Shelf.{set_at, shelved}
use Rattle.nc_memory.proofs.ShelfLaws.{step_sets}
use Rattle.nc_memory.proofs.shelf.shelve_step.Goals as goal

pub returns : goal.returns
returns c =
    subst (λ (F : Contents). OnOk c.set_there.result (shelved c.set_there.new.shelf ≡ F))
    (ap (λ object. set_at (record { cloud = c.args.step.now.cloud; key = c.args.step.now.key }) object (shelved c.args.shelf.now))
    (c.in_ok-object.ensures ∙ c.object_left-left.ensures ∙ ap (left c.args.step.now.fate c.args.step.now.new) c.bytes_at.ensures)
    ∙ step_sets c.args.step.now (shelved c.args.shelf.now))
    c.set_there.ensures
