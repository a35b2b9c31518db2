use Rattle.nc_native.proofs.Pieces.{natives_fit, natives_back}
use Rattle.nc_native.proofs.joining.joins.Goals as goal

pub returns-clause-fits : goal.returns-clause-fits
returns-clause-fits c = natives_fit c.args.v.now c.args.width c.requires.wide

pub returns-clause-whole : goal.returns-clause-whole
returns-clause-whole c = natives_back c.args.v.now c.args.width c.requires.wide
