use Rattle.std.proofs.Common.{OnOk, ◌≡◌, ap, ◌∙◌, subst}
use Rattle.nc_cloud.specs.Contents.{Contents}
use Rattle.nc_memory.specs.Shelf.{lost_each, shelved}
use Rattle.nc_memory.proofs.LossLaws.{loss_shelved}
use Rattle.nc_memory.proofs.shelf.shelve_loss.Goals as goal

pub returns : goal.returns
returns c =
    subst (λ (F : Contents). OnOk c.lose_each.result (shelved c.lose_each.new.shelf ≡ F))
    (ap (λ keys. lost_each c.args.damage.now c.args.cloud keys (shelved c.args.shelf.now)) c.items.ensures
    ∙ loss_shelved c.args.damage.now c.args.cloud c.in_ok-keys.keys (shelved c.args.shelf.now) c.in_ok-keys.ensures)
    c.lose_each.ensures
