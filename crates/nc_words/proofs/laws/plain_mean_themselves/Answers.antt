use Rattle.nc_words.proofs.PlainWords.{plain_themselves}
use Rattle.nc_words.proofs.laws.plain_mean_themselves.Goals as goal

pub returns : goal.returns
returns c = plain_themselves
