use Rattle.nc_history.proofs.GetLaws.{put_is_found, put_then_get}
use Rattle.nc_history.proofs.laws.put_then_get.Goals as goal

pub returns-clause-bytes : goal.returns-clause-bytes
returns-clause-bytes c = put_then_get

pub returns-clause-found : goal.returns-clause-found
returns-clause-found c = put_is_found
