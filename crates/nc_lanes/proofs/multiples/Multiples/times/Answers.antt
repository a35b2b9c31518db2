use Rattle.std.proofs.Common.{◌*◌, ◌/◌, ◌%◌, get_or, arith}
use Rattle.nc_gf256.specs.Field.{mul}
use Rattle.nc_lanes.proofs.LookUps.{low_halves, high_halves, high_below, SwzOk-halves, HasLanes-found, HasLanes-products}
use Rattle.nc_lanes.proofs.multiples.Multiples.times.Goals as goal

pub swizzle : goal.swizzle
swizzle c = SwzOk-halves _ _ (low_halves c.args.v c.fits-v.0) (λ k lt. omega arith)

pub swizzle-2 : goal.swizzle-2
swizzle-2 c = SwzOk-halves _ _ (high_halves c.args.v c.fits-v.0) (high_below c.args.v c.fits-v.0 c.fits-v.1)

pub returns : goal.returns
returns c =
    let t = c.args.self.now in
    let v = c.args.v in
    HasLanes-products t.factor v _ _ c.sum.result
    (HasLanes-found (λ j. mul t.factor j) t.low _ (λ k. get_or v k 0 % 16) t.low_products (low_halves v c.fits-v.0) (λ k lt. omega arith))
    (HasLanes-found (λ j. mul t.factor (16 * j)) t.high _ (λ k. get_or v k 0 / 16) t.high_products (high_halves v c.fits-v.0) (high_below v c.fits-v.0 c.fits-v.1))
    c.sum.ensures
