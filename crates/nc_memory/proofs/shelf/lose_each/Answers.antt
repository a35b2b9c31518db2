use Rattle.std.proofs.Common.{◌+◌, ◌<◌, ◌∷◌, drop, length, sym, ap, ◌∙◌, arith}
use Rattle.std.proofs.lemmas.List.{drop_more}
use Rattle.nc_memory.specs.Shelf.{lost_each, shelved}
use Rattle.nc_memory.proofs.shelf.lose_each.Goals as goal

pub loop-key-preserved : goal.loop-key-preserved
loop-key-preserved c =
    let l : c.loop-key.key-index < length c.args.keys.now = omega arith in
    ap (lost_each c.args.damage.now c.args.cloud (drop (c.loop-key.key-index + 1) c.args.keys.now)) c.in_ok-lose_there.ensures
    ∙ ap (λ keys. lost_each c.args.damage.now c.args.cloud keys (shelved c.loop-key.shelf))
    (ap (λ key. key ∷ drop (c.loop-key.key-index + 1) c.args.keys.now) c.key-item.is ∙ sym (drop_more c.args.keys.now c.loop-key.key-index c.key-item.result l))
    ∙ c.loop-key.invariant
