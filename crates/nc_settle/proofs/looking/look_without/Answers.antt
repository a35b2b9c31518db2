use Rattle.std.proofs.Common.{◌∙◌}
use Rattle.nc_settle.proofs.looking.look_without.Goals as goal

pub ask_all-requires-clause-asks : goal.ask_all-requires-clause-asks
ask_all-requires-clause-asks g c = rw (c.deref_mut.ensures.value, ← c.width-width.ensures) c.in_ok-zeros.ensures

pub ask_all-requires-2-clause-asks : goal.ask_all-requires-2-clause-asks
ask_all-requires-2-clause-asks g c = rw (c.deref_mut-2.ensures.value, c.ask_all.ensures.looked.clouds, ← c.width-width.ensures) c.in_ok-ones.ensures

pub returns-in_err-second-clause-spared : goal.returns-in_err-second-clause-spared
returns-in_err-second-clause-spared g c exact k named_k = c.ask_all-2.ensures.spared exact k named_k ∙ c.ask_all.ensures.spared exact k named_k

pub returns-clause-spared : goal.returns-clause-spared
returns-clause-spared g c exact k named_k = c.ask_all-2.ensures.spared exact k named_k ∙ c.ask_all.ensures.spared exact k named_k
