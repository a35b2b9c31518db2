use Rattle.std.proofs.Common.{Some, ap}
use Rattle.nc_meta.specs.declared.meta.Meta.TheVariants.{Live, Gone}
use Rattle.nc_meta.proofs.OneSpelling.{one_spelling}
use Rattle.nc_meta.proofs.meta.Meta.read.Goals as goal

pub returns-in-Some-clause-is : goal.returns-in-Some-clause-is
returns-in-Some-clause-is c = λ m s.
    ap Some (one_spelling _ c.requires.wide c.requires.narrow _ (Gone c.in-Some.generation) m c.in-Some.ensures.some s)

pub returns-in-Some-read_live-clause-is : goal.returns-in-Some-read_live-clause-is
returns-in-Some-read_live-clause-is c = λ m s.
    ap Some (one_spelling _ c.requires.wide c.requires.narrow _ (Live c.in-Some-read_live.live) m c.in-Some-read_live.ensures.some s)
