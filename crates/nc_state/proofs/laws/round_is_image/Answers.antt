use Rattle.nc_state.proofs.Images.{round_is_image}
use Rattle.nc_state.proofs.laws.round_is_image.Goals as goal

pub returns : goal.returns
returns c = round_is_image
