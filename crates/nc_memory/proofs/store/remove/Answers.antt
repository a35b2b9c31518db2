use Rattle.std.proofs.Common.{◌≢◌, All, List, ap, ◌∙◌, sym, subst}
use Rattle.nc_memory.specs.declared.store.Object.{Object}
use Rattle.nc_memory.specs.Store.{Found, stored}
use Rattle.nc_memory.proofs.StoreLaws.{remove_others, stored_none}
use Rattle.nc_memory.proofs.store.remove.Goals as goal

pub loop-i-preserved : goal.loop-i-preserved
loop-i-preserved c = λ q ne.
    let found : Found c.loop-i.objects.items c.args.key.now c.in-Some.i = subst (λ (xs : List Object). Found xs c.args.key.now c.in-Some.i) c.deref.ensures.value c.in-Some.ensures in
    ap (λ xs. stored xs q) c.remove-object.ensures.items
    ∙ remove_others c.loop-i.objects.items c.in-Some.i c.remove-object.result q found.within (λ s. ne (sym s ∙ found.here c.remove-object.result))
    ∙ c.loop-i.invariant q ne

pub returns : goal.returns
returns c = record {
  there = stored_none c.loop-i.objects.items c.args.key.now (subst (All (λ (o : Object). o.key ≢ c.args.key.now)) c.deref.ensures.value c.in_default.ensures);
  others = c.loop-i.invariant;
}
