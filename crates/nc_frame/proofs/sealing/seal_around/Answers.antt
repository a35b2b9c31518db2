use Rattle.std.proofs.Common.{List, ℕ, subst, sym}
use Rattle.nc_name.specs.Keys.{key_text}
use Rattle.nc_frame.specs.Frames.{Sealed}
use Rattle.nc_frame.proofs.LaidLaws.{laid_is_long, laid_is_sealed}
use Rattle.nc_frame.proofs.sealing.seal_around.Goals as goal

pub finish-requires : goal.finish-requires
finish-requires c = laid_is_long _ _ _ _ _ c.in_ok-frame.ensures

pub returns : goal.returns
returns c =
    subst (λ (l : List ℕ). Sealed l c.args.cloud c.args.width (key_text c.args.key.now) c.args.payload) (sym c.finish.ensures)
    (laid_is_sealed _ _ _ _ _ c.in_ok-frame.ensures)
