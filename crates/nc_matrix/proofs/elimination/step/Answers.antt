use Rattle.nc_matrix.proofs.StepLemmas.{lifted_pivot, step_is}
use Rattle.nc_matrix.proofs.elimination.step.Goals as goal

pub normalized-normal-requires-clause-pivot : goal.normalized-normal-requires-clause-pivot
normalized-normal-requires-clause-pivot c =
    lifted_pivot c.args.n c.args.c c.args.p c.args.rows.now c.lifted-raised.result c.lifted-raised.ensures.sums c.requires.pivot c.requires.bytes c.requires.within

pub returns : goal.returns
returns c =
    step_is c.args.n c.args.c c.args.p c.args.rows.now c.lifted-raised.result c.normalized-normal.result c.cleared.result
    c.requires.within c.requires.bytes c.requires.reduced c.requires.pivot
    c.lifted-raised.ensures.rows c.lifted-raised.ensures.sums
    c.normalized-normal.ensures.rows c.normalized-normal.ensures.normal
    c.cleared.ensures.rows c.cleared.ensures.sums
