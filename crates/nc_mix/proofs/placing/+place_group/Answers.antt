use Rattle.std.proofs.Common.{◌+◌, ◌*◌, ◌≤◌, arith}
use Rattle.nc_mix.proofs.Parts.{hold_parts}
use Rattle.nc_mix.proofs.Groups.{below_rows, place_more}
use Rattle.nc_mix.proofs.placing.+place_group.Goals as goal

pub place-requires-clause-parts : goal.place-requires-clause-parts
place-requires-clause-parts t c =
    let room = c.requires.room in
    let long = c.if-size-sums.true in
    let fits : c.args.first * c.args.size + c.args.size ≤ c.args.rows * c.args.size =
    omega (arith, room, long) in
    hold_parts c.args.rows c.args.size c.args.strips.now c.requires.parts c.args.first
    (below_rows c.args.first c.args.rows c.args.size c.requires.some_byte fits)

pub returns-then-size-sums : goal.returns-then-size-sums
returns-then-size-sums t c =
    place_more c.args.first c.args.size c.args.strips.now c.args.sums.now
    c.split_at_mut-sum.result.0.now c.split_at_mut-sum.result.1.now c.place.new.sum
    c.place_group.new.sums c.if-size-sums.true c.split_at_mut-sum.ensures.front
    c.split_at_mut-sum.ensures.back c.place.auto.sum c.place.ensures c.place_group.ensures
