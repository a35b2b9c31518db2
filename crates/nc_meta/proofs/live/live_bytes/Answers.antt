use Rattle.std.proofs.Common.{ℕ, List, [], ◌≡◌, ◌*◌, ◌++◌, take, slice_index_or, ap, ◌∙◌}
use Rattle.nc_meta.specs.Parts.{each}
use Rattle.nc_meta.specs.Metas.{live_spelling}
use Rattle.nc_meta.proofs.LiveParts.{chained, marks_whole}
use Rattle.nc_meta.proofs.live.live_bytes.Goals as goal

pub returns : goal.returns
unfolding live_spelling
returns c =
    let generation = c.in_ok-extend_from_slice-2.ensures.items ∙ ap (λ (x : List ℕ). c.extend_from_slice.new.self.items ++ x) c.u64_bytes.ensures in
    let len = c.in_ok-extend_from_slice-3.ensures.items ∙ ap (λ (x : List ℕ). c.extend_from_slice-2.new.self.items ++ x) c.u64_bytes-2.ensures in
    let slots = c.in_ok-extend_from_slice-4.ensures.items ∙ ap (λ (x : List ℕ). c.put_code.new.bytes.items ++ x) c.part_of.ensures in
    let put : c.put_rows.new.out.items ≡ c.extend_from_slice-4.new.self.items ++ each (2 * c.args.width) (λ i. take 32 (slice_index_or c.args.live.now.marks i [])) =
    c.in_ok-put_rows.ensures in
    let marks = put ∙ ap (λ (x : List ℕ). c.extend_from_slice-4.new.self.items ++ x) (marks_whole _ _ c.requires.narrow c.requires.fits) in
    chained _ _ _ _ _ _ _ _ _ _ _ _ _ _ _ c.in_ok-bytes.ensures.items c.in_ok-extend_from_slice.ensures.items generation len
    c.in_ok-put_code.ensures slots marks c.in_ok-put_witnesses.ensures
