use Rattle.std.proofs.Common.{◌≢◌, All, List, ap, ◌∙◌, subst}
use Rattle.nc_memory.specs.declared.store.Object.{Object}
use Rattle.nc_memory.specs.Store.{Found}
use Rattle.nc_memory.proofs.StoreLaws.{empty_changes, none_changes}
use Rattle.nc_memory.proofs.store.empty.Goals as goal

pub returns-in-Some : goal.returns-in-Some
returns-in-Some c =
    let found : Found c.args.objects.now.items c.args.key.now c.in-Some.i = subst (λ (xs : List Object). Found xs c.args.key.now c.in-Some.i) c.deref.ensures.value c.in-Some.ensures in
    empty_changes c.args.objects.now.items c.args.key.now c.in-Some.i c.index_mut.result.now _ found
    (ap (λ (o : Object). o.key) c.index_mut.ensures.value ∙ found.here c.index_mut.result.now) (c.from_vec.ensures ∙ c.new.ensures.items)

pub returns-in_default : goal.returns-in_default
returns-in_default c = none_changes c.args.objects.now.items c.args.key.now (subst (All (λ (o : Object). o.key ≢ c.args.key.now)) c.deref.ensures.value c.in_default.ensures)
