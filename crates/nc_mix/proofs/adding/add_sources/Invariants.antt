use Rattle.nc_mix.specs.Mixing.{HasAdded, lent}
use Rattle.nc_mix.proofs.adding.add_sources.Given as goal

abbrev pub invariant-loop-i : goal.invariant-loop-i
invariant-loop-i l = HasAdded l.i l.row (lent l.sources) l.start l.initial.dst l.dst
