use Rattle.std.proofs.Common.{ℕ, List, Option, IfSome, subst}
use Rattle.nc_mds.specs.Relations.{AreRelations}
use Rattle.nc_mds.proofs.PairProofs.{pair_shown}
use Rattle.nc_mds.proofs.RelationProofs.{pair_free}
use Rattle.nc_mds.proofs.pairs.pair_kernel.Goals as goal

pub returns-then-are_independent-clause-none : goal.returns-then-are_independent-clause-none
returns-then-are_independent-clause-none c = λ _.
    pair_free c.args.code.now c.args.a c.args.b c.in-Some.known c.minor.result c.width-width.ensures.kept
    (subst (λ (o : Option (List (List ℕ))). IfSome o (λ q. AreRelations c.args.code.now q)) c.in-Some.is c.requires.known)
    c.requires.less c.requires.within c.minor.ensures (c.are_independent.ensures c.if-are_independent.true)

pub returns-in-Kernel-clause-some : goal.returns-in-Kernel-clause-some
returns-in-Kernel-clause-some c =
    pair_shown c.args.code.now c.args.a c.args.b c.without.result c.in-Kernel.kernel c.requires.less c.requires.within c.without.ensures c.in-Kernel.ensures
