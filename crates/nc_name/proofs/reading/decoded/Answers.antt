use Rattle.nc_name.proofs.KeyTexts.{decoded_is}
use Rattle.nc_name.proofs.reading.decoded.Goals as goal

pub returns : goal.returns
returns c = λ bytes are e. decoded_is _ bytes _ _ _ _ are e c.split_at_mut-here.ensures.front_len c.decode_to_slice.ensures.value
