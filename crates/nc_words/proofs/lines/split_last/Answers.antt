use Rattle.nc_words.proofs.Spaces.{last_none, last_some}
use Rattle.nc_words.proofs.lines.split_last.Goals as goal

pub returns-clause-some : goal.returns-clause-some
returns-clause-some c = last_some c.args.text.now c.rsplit_once.result c.rsplit_once.ensures.cases

pub returns-clause-none : goal.returns-clause-none
returns-clause-none c = last_none c.args.text.now c.rsplit_once.result c.rsplit_once.ensures.cases
