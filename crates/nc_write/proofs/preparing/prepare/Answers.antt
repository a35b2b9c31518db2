use Rattle.std.proofs.Common.{◌≡◌, ◌∙◌, ℕ, List, ap, subst, arith}
use Rattle.nc_code.specs.Parts.{CodeParts}
use Rattle.nc_cloud.specs.Rounds.{row}
use Rattle.nc_mix.specs.Mixing.{AreChunksOf}
use Rattle.nc_write.specs.Laying.{AreVersionLaid}
use Rattle.nc_write.specs.Marks.{AreMarks}
use Rattle.nc_write.specs.Putting.{placed_of}
use Rattle.nc_write.proofs.PreparedLaws.{prepared_laid, row_ascends, rows_same}
use Rattle.nc_write.proofs.preparing.prepare.Goals as goal

pub lay_version-requires-clause-ascend : goal.lay_version-requires-clause-ascend
lay_version-requires-clause-ascend g c = row_ascends _ 0 _ _ c.in_ok-rows.ensures.zeros

pub lay_version-requires-clause-same : goal.lay_version-requires-clause-same
lay_version-requires-clause-same g c = rows_same _ _ _ _ c.in_ok-rows.ensures.zeros c.in_ok-rows.ensures.ones

pub returns : goal.returns
returns g c =
    let good = c.args.good.now in
    let n : ℕ = good.code.width in
    let chunks : List (List ℕ) = c.in_ok-chunks.chunks in
    let width : c.width-width.result ≡ n = c.width-width.ensures.width ∙ ap (λ (k : CodeParts). k.width) c.code.ensures.code in
    let narrow = c.width-width.ensures.kept.narrow in
    let are : AreChunksOf good.code c.args.bytes.now chunks = subst (λ (k : CodeParts). AreChunksOf k c.args.bytes.now chunks) c.code-2.ensures.code c.in_ok-chunks.ensures.of_file in
    let marks : AreMarks chunks c.marks_of-marks.result = subst (λ l. AreMarks l c.marks_of-marks.result) c.items.ensures c.marks_of-marks.ensures.marks in
    prepared_laid c.args.name.now c.args.top.now good c.args.bytes.now (omega (arith, narrow, c.width-width.ensures.width, width)) c.told_bytes.ensures c.code.ensures.kept
    chunks c.marks_of-marks.result are marks c.put_live-live.result c.in_ok-rows.rows.zeros.items c.in_ok-rows.rows.ones.items c.in_ok-version.version
    c.put_live-live.ensures.is c.put_live-live.ensures.fits
    (subst (λ k. c.in_ok-rows.rows.zeros.items ≡ row (placed_of chunks 0) 0 k) width c.in_ok-rows.ensures.zeros)
    (subst (λ k. c.in_ok-rows.rows.ones.items ≡ row (placed_of chunks 1) 0 k) width c.in_ok-rows.ensures.ones)
    c.in_ok-version.ensures.live
    (subst (λ k. AreVersionLaid k c.args.name.now c.in_ok-rows.rows.zeros.items c.in_ok-rows.rows.ones.items c.in_ok-version.version) width c.in_ok-version.ensures.laid)
