use Rattle.std.proofs.Common.{ℕ, ◌-◌, subst}
use Rattle.nc_mds.specs.Others.{AreOthers}
use Rattle.nc_mds.proofs.RelationProofs.{relations_are}
use Rattle.nc_mds.proofs.relations.relations_of.Goals as goal

pub returns-in-Inverse : goal.returns-in-Inverse
returns-in-Inverse c =
    relations_are c.args.code.now c.without.result c.in-Inverse.inverse.cells c.solved.result c.width-width.ensures.kept
    (subst (λ (w : ℕ). AreOthers c.args.code.now (w - 2) (w - 1) c.without.result) c.width-width.ensures.width c.without.ensures)
    c.in-Inverse.ensures.1 c.solved.ensures
