use Rattle.std.proofs.Common.{arith}
use Rattle.std.proofs.lemmas.Simd.{get_or-put_chunk_below, get_or-put_chunk_at, get_or-put_chunk_above}
use Rattle.nc_lanes.proofs.lanes.store.Goals as goal

pub returns : goal.returns
returns c =
    let long = c.fits-v.0 in
    let room = c.requires in
    record {
      below = λ i lt. get_or-put_chunk_below c.args.at c.args.bytes.now c.args.v i 0 lt;
      within = λ k lt. get_or-put_chunk_at c.args.at c.args.bytes.now c.args.v k 0 (omega arith) (omega arith);
      above = λ i le. get_or-put_chunk_above c.args.at c.args.bytes.now c.args.v i 0 (omega arith);
    }
