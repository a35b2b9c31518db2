use Rattle.std.proofs.Common.{ap, ◌∙◌, sym, Some}
use Rattle.nc_memory.proofs.StoreLaws.{stored_found, stored_none}
use Rattle.nc_memory.proofs.store.bytes_of.Goals as goal

pub returns-in-None : goal.returns-in-None
returns-in-None c = sym (stored_none c.args.objects.now c.args.key.now c.in-None.ensures)

pub returns-in-Some : goal.returns-in-Some
returns-in-Some c = ap Some c.bytes.ensures ∙ sym (stored_found c.args.objects.now c.args.key.now c.in-Some.i c.index-objects-i.result c.in-Some.ensures)
