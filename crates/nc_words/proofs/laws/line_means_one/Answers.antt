use Rattle.nc_words.proofs.LineLaws.{one_line}
use Rattle.nc_words.proofs.laws.line_means_one.Goals as goal

pub returns : goal.returns
returns c = one_line
