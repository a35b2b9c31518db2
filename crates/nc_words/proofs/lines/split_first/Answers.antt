use Rattle.nc_words.proofs.Spaces.{first_none, first_some}
use Rattle.nc_words.proofs.lines.split_first.Goals as goal

pub returns-clause-some : goal.returns-clause-some
returns-clause-some c = first_some c.args.text.now c.split_once.result c.split_once.ensures.cases

pub returns-clause-none : goal.returns-clause-none
returns-clause-none c = first_none c.args.text.now c.split_once.result c.split_once.ensures.cases
