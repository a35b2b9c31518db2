use Rattle.nc_mix.specs.Mixing.{lent}
use Rattle.nc_mix.proofs.Parts.{follow_on, made_mixed, made_room}
use Rattle.nc_mix.proofs.strips.mix_block.Goals as goal

pub returns-then-are_made-clause-follow : goal.returns-then-are_made-clause-follow
returns-then-are_made-clause-follow g c =
    follow_on c.args.rows.now (lent c.args.sources.now) c.args.at c.plan-end.result
    c.plan-end.new.strips c.mix_strips.new.strips c.mix_strips.ensures c.plan-end.ensures.follow

pub returns-then-are_made-clause-room : goal.returns-then-are_made-clause-room
returns-then-are_made-clause-room g c =
    made_room c.args.rows.now (lent c.args.sources.now) c.args.size
    c.plan-end.new.strips c.mix_strips.new.strips c.plan-end.ensures.fits c.mix_strips.ensures
    (c.are_made.ensures c.if-are_made.true)

pub returns-then-are_made-clause-mixed : goal.returns-then-are_made-clause-mixed
returns-then-are_made-clause-mixed g c =
    made_mixed c.args.rows.now (lent c.args.sources.now)
    c.plan-end.new.strips c.mix_strips.new.strips c.mix_strips.ensures
    (c.are_made.ensures c.if-are_made.true)
