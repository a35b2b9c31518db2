use Rattle.std.proofs.Common.{subst, sym}
use Rattle.nc_gf256.specs.Rows.{Independent}
use Rattle.nc_matrix.specs.Inverted.{IsRowAmong}
use Rattle.nc_mix.proofs.FileBack.{free_rows}
use Rattle.nc_mix.proofs.decoding.inverse_of.Goals as goal

pub unreachable-requires : goal.unreachable-requires
unreachable-requires c =
    c.in-Kernel.ensures.dependent
    (subst (λ n. Independent n (IsRowAmong n c.square_of.result.cells)) (sym c.square_of.ensures.size)
    (free_rows c.args.code.now c.args.pieces.now c.square_of.result.cells c.requires.mds c.requires.count c.requires.ascending c.requires.in_width c.square_of.ensures.rows))
