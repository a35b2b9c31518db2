-- Nothing is misplaced.
use Rattle.std.proofs.Common.{ℕ, List, sym, subst}
use Rattle.nc_meta.specs.Metas.{spelling}
use Rattle.nc_state.specs.Holding.{meta_key}
use Rattle.nc_state.proofs.Held.{object_sealed}
use Rattle.nc_frame.specs.Frames.{Sealed}
use Rattle.nc_frame.proofs.Shapes.{same_parts, whole_of}
use Rattle.nc_name.specs.Keys.{key_text}
use Rattle.nc_state.specs.Laws.{NoneMisplaced}

pub none_misplaced : NoneMisplaced
none_misplaced n F S D name c slot a w bytes text payload is stands l at other =
    let there = stands.metas c slot name bytes l at (whole_of bytes a w text payload other) in
    let here = subst (λ (b : List ℕ). Sealed b c n (key_text (meta_key name there.0)) (spelling n there.0)) (sym there.3) (object_sealed n name c there.0 stands.wide stands.narrow is l there.1) in
    let same = same_parts bytes a c w n _ _ _ _ other here in
    (same.cloud, same.width)
