use Rattle.std.proofs.Common.{ℕ, List, subst, sym}
use Rattle.nc_cloud.specs.Deciding.{AreAscending}
use Rattle.nc_write.specs.Writes.{AreChunkWrites}
use Rattle.nc_write.proofs.LayingLaws.{version_with, within_of}
use Rattle.nc_write.proofs.sealing.seal_version.Goals as goal

pub seal_rows-requires-clause-within_zeros : goal.seal_rows-requires-clause-within_zeros
seal_rows-requires-clause-within_zeros g c κs alive = within_of c.args.width c.args.rows.zeros.items c.requires.ascend

pub seal_rows-requires-clause-within_ones : goal.seal_rows-requires-clause-within_ones
seal_rows-requires-clause-within_ones g c κs alive =
    within_of c.args.width c.args.rows.ones.items (subst (λ (l : List ℕ). AreAscending (λ k. k) c.args.width l) (sym c.requires.same) c.requires.ascend)

pub returns-clause-made : goal.returns-clause-made
returns-clause-made g c =
    version_with (AreChunkWrites c.args.width c.args.name.now) c.args.width c.args.name.now c.args.live.now c.args.rows.zeros.items c.args.rows.ones.items c.in_ok-chunks.chunks c.in_ok-version.version
    c.in_ok-version.ensures.live c.in_ok-version.ensures.first c.in_ok-version.ensures.second c.in_ok-version.ensures.metas
    c.requires.ascend c.requires.same c.in_ok-chunks.ensures.first c.in_ok-chunks.ensures.second
