use Rattle.std.proofs.Common.{◌≡◌, ◌≢◌, All, List, Some, ap, ◌∙◌, sym, subst}
use Rattle.nc_memory.specs.declared.store.Object.{Object}
use Rattle.nc_cloud.specs.Contents.{ChangesAt}
use Rattle.nc_memory.specs.Store.{Found, stored}
use Rattle.nc_memory.proofs.StoreLaws.{push_changes, set_changes}
use Rattle.nc_memory.proofs.store.place.Goals as goal

pub returns-in_ok-push-in-None-clause-ok : goal.returns-in_ok-push-in-None-clause-ok
returns-in_ok-push-in-None-clause-ok c =
    let none : All (λ (o : Object). o.key ≢ c.args.key.now) c.args.objects.now.items = subst (All (λ (o : Object). o.key ≢ c.args.key.now)) c.deref.ensures.value c.in-None.ensures in
    subst (λ (xs : List Object). ChangesAt c.args.key.now (λ old left. left ≡ Some c.args.bytes) (stored c.args.objects.now.items) (stored xs)) (sym c.in_ok-push-in-None.ensures.items)
    (push_changes c.args.objects.now.items (record { key = c.args.key.now; bytes = c.args.bytes }) none)

pub returns-in-Some-clause-ok : goal.returns-in-Some-clause-ok
returns-in-Some-clause-ok c =
    let found : Found c.args.objects.now.items c.args.key.now c.in-Some.i = subst (λ (xs : List Object). Found xs c.args.key.now c.in-Some.i) c.deref.ensures.value c.in-Some.ensures in
    set_changes c.args.objects.now.items c.args.key.now c.in-Some.i c.index_mut.result.now _ found (ap (λ (o : Object). o.key) c.index_mut.ensures.value ∙ found.here c.index_mut.result.now)
