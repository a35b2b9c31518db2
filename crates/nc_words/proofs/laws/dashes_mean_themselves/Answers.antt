use Rattle.nc_words.proofs.PlainWords.{dashes_themselves}
use Rattle.nc_words.proofs.laws.dashes_mean_themselves.Goals as goal

pub returns : goal.returns
returns c = dashes_themselves
