use Rattle.std.proofs.Common.{◌≡◌, ◌*◌, ◌≤◌, ◌∙◌, ℕ, List, ap, sym, subst, length, take, refl, arith}
use Rattle.std.proofs.lemmas.Result.{IfOk-weaker}
use Rattle.std.proofs.lemmas.List.FromFn.{length-map-range_with_len}
use Rattle.nc_native.specs.Native.{natives_of}
use Rattle.nc_code.specs.Parts.{CodeParts}
use Rattle.nc_mix.specs.Mixing.{lent, chunk_by, chunks_of, AreChunksOf}
use Rattle.nc_mix.proofs.Mixes.{first_chunks, chunks_of_file, first_long}
use Rattle.nc_mix.proofs.encoding.encode_lent.Goals as goal

pub returns-clause-chunks : goal.returns-clause-chunks
returns-clause-chunks g c =
    let natives : List (List ℕ) = lent c.args.sources.now in
    let narrow : c.args.code.now.width ≤ 10 = c.width.ensures.kept.narrow in
    let all : length c.args.code.now.rows ≡ 20 = c.width.ensures.kept.shape.count in
    let rows : c.first_rows-rows.result.now ≡ take (2 * c.args.code.now.width) c.args.code.now.rows =
    c.first_rows-rows.ensures.rows ∙ (λ i. take (2 * c.width.ensures.width i) (c.code.view_is i).rows) in
    IfOk-weaker c.mix_rows.result _ (λ (chunks : List (List ℕ)). chunks ≡ chunks_of (2 * c.args.code.now.width) c.args.code.now.rows natives)
    (λ chunks is. is ∙ first_chunks (2 * c.args.code.now.width) _ c.args.code.now.rows natives natives c.first_rows-rows.result.now (omega arith)
    (first_long c.args.sources.now natives _ c.args.code.now.width refl c.requires.count c.width.ensures.kept.wide) refl rows)
    c.mix_rows.ensures

pub returns-clause-count : goal.returns-clause-count
returns-clause-count g c =
    let wanted : List (List ℕ) = chunks_of (2 * c.args.code.now.width) c.args.code.now.rows (lent c.args.sources.now) in
    IfOk-weaker c.mix_rows.result (λ (chunks : List (List ℕ)). chunks ≡ wanted) (λ (chunks : List (List ℕ)). length chunks ≡ 2 * c.args.code.now.width)
    (λ chunks is. ap length is ∙ length-map-range_with_len (chunk_by c.args.code.now.rows (lent c.args.sources.now)) 0 (2 * c.args.code.now.width))
    (returns-clause-chunks g c)

pub returns-clause-of_file : goal.returns-clause-of_file
returns-clause-of_file g c =
    let code : CodeParts = c.args.code.now in
    let natives : List (List ℕ) = lent c.args.sources.now in
    IfOk-weaker c.mix_rows.result (λ (chunks : List (List ℕ)). chunks ≡ chunks_of (2 * code.width) code.rows natives)
    (λ (chunks : List (List ℕ)). (v : List ℕ) → natives ≡ natives_of v code.width → AreChunksOf code v chunks)
    (λ chunks is v e. subst (AreChunksOf code v) (sym (is ∙ ap (chunks_of (2 * code.width) code.rows) e)) (chunks_of_file code v c.width.ensures.kept.wide))
    (returns-clause-chunks g c)
