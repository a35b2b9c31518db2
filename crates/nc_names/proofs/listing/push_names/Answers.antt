use Rattle.std.proofs.Common.{◌+◌, ◌++◌, ◌∷◌, [], subst, sym, ap, ◌∙◌}
use Rattle.nc_name.specs.Names.{IsName}
use Rattle.nc_names.proofs.Lists.{Pushed, pushed_more}
use Rattle.nc_names.proofs.listing.push_names.Goals as goal

pub loop-key-preserved : goal.loop-key-preserved
loop-key-preserved c =
    subst (Pushed c.args.keys.now (c.loop-key.key-index + 1) c.args.names.now.items) (sym (c.in_ok-push.ensures.items ∙ ap (λ name. c.loop-key.names.items ++ name ∷ []) c.name-name.ensures))
    (pushed_more c.args.keys.now c.loop-key.key-index c.args.names.now.items c.loop-key.names.items c.key-item.result c.loop-key-test.true (sym c.key-item.is) (subst IsName (c.bytes-bytes.ensures.same ∙ c.name-name.ensures) c.bytes-bytes.ensures.name) c.loop-key.invariant)
