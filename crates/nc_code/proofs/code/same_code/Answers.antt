use Rattle.nc_code.proofs.SameParts.{rows_decide}
use Rattle.nc_code.proofs.code.same_code.Goals as goal

pub returns-then-a-b : goal.returns-then-a-b
returns-then-a-b c =
    rows_decide c.a.inside.width c.b.inside.width c.a.inside.rows c.b.inside.rows c.args.a.now c.args.b.now c.eq.result c.a.view_is c.b.view_is c.if-a-b.true c.eq.ensures
