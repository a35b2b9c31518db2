use Rattle.std.proofs.Common.{ℕ, List, subst, sym}
use Rattle.nc_cloud.specs.Deciding.{AreAscending}
use Rattle.nc_write.specs.Laying.{AreLaidWrites}
use Rattle.nc_write.proofs.LayingLaws.{version_with, within_of}
use Rattle.nc_write.proofs.sealing.lay_version.Goals as goal

pub lay_rows-requires-clause-within_zeros : goal.lay_rows-requires-clause-within_zeros
lay_rows-requires-clause-within_zeros c = within_of c.args.width c.args.rows.zeros.items c.requires.ascend

pub lay_rows-requires-clause-within_ones : goal.lay_rows-requires-clause-within_ones
lay_rows-requires-clause-within_ones c =
    within_of c.args.width c.args.rows.ones.items (subst (λ (l : List ℕ). AreAscending (λ k. k) c.args.width l) (sym c.requires.same) c.requires.ascend)

pub returns-clause-laid : goal.returns-clause-laid
returns-clause-laid c =
    version_with (AreLaidWrites c.args.width c.args.name.now) c.args.width c.args.name.now c.args.live.now c.args.rows.zeros.items c.args.rows.ones.items c.in_ok-chunks.chunks c.in_ok-version.version
    c.in_ok-version.ensures.live c.in_ok-version.ensures.first c.in_ok-version.ensures.second c.in_ok-version.ensures.metas
    c.requires.ascend c.requires.same c.in_ok-chunks.ensures.first c.in_ok-chunks.ensures.second
