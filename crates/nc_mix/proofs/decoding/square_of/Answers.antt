use Rattle.nc_mix.proofs.Squares.{none_filled}
use Rattle.nc_mix.proofs.decoding.square_of.Goals as goal

pub loop-p-init : goal.loop-p-init
loop-p-init c = none_filled c.args.code.now c.args.pieces.now
