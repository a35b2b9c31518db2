use Rattle.std.proofs.Common.{arith, ◌≡◌, ◌≤◌, ◌+◌, length, take, vec_len}
use Rattle.nc_bytes.specs.Bytes.{part}
use Rattle.nc_stream.proofs.InputLemmas.{added, count_of_part}
use Rattle.nc_stream.proofs.input.read_piece.Goals as goal

pub returns-in-Ok-clause-taken : goal.returns-in-Ok-clause-taken
returns-in-Ok-clause-taken g c =
    let whole : vec_len c.grow.new.bytes ≡ length c.read_from.new.buf = omega arith in
    let fits : c.len-at.result + c.in-Ok.n ≤ length c.read_from.new.buf = omega (arith, c.in-Ok.ensures.bound) in
    let kept : take c.len-at.result c.deref_mut.result.now ≡ c.args.bytes.now.items = rw (c.deref_mut.ensures.value, c.len-at.ensures) c.in_ok-grow.ensures.front in
    record {
      taken = part c.len-at.result c.in-Ok.n c.read_from.new.buf;
      consumed = c.in-Ok.ensures.taken;
      added = added c.len-at.result c.in-Ok.n _ c.args.bytes.now.items _ c.read_from.new.buf _ _ c.truncate.ensures.items whole fits c.in-Ok.ensures.front kept;
      count = count_of_part _ _ _ fits;
    }
