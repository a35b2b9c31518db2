use Rattle.std.proofs.Common.{◌<◌, List, All, sym, subst}
use Rattle.nc_settle.specs.MetaWrites.{named}
use Rattle.nc_write.specs.declared.sealing.Placed.{Placed}
use Rattle.nc_restore.proofs.MakeLaws.{chosen_within}
use Rattle.nc_restore.proofs.making.make_anew.Goals as goal

pub seal_rows-requires-clause-within_zeros : goal.seal_rows-requires-clause-within_zeros
seal_rows-requires-clause-within_zeros g c κs alive = subst (λ (xs : List Placed). All (λ x. x.cloud < c.args.width) xs) (sym c.in_ok-chosen.ensures.zeros) (chosen_within _ (named c.args.zeros.now) 0 c.args.width)

pub seal_rows-requires-clause-within_ones : goal.seal_rows-requires-clause-within_ones
seal_rows-requires-clause-within_ones g c κs alive = subst (λ (xs : List Placed). All (λ x. x.cloud < c.args.width) xs) (sym c.in_ok-chosen.ensures.ones) (chosen_within _ (named c.args.ones.now) 1 c.args.width)
