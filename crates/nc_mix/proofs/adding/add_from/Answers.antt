use Rattle.nc_mix.proofs.Mixes.{no_multiples}
use Rattle.nc_mix.proofs.adding.add_from.Goals as goal

pub returns-then-factor-eq0 : goal.returns-then-factor-eq0
returns-then-factor-eq0 c = no_multiples c.args.factor c.args.source.now c.args.start c.args.dst.now c.if-factor-eq0.true
