use Rattle.nc_meta.proofs.OneSpelling.{one_spelling}
use Rattle.nc_meta.proofs.laws.one_spelling.Goals as goal

pub returns : goal.returns
returns c = one_spelling
