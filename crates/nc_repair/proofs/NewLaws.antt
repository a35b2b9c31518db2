-- What stands on the lost cloud once its new chunks are written, whatever they are.
use Rattle.std.proofs.Common.{◌≡◌, ◌<◌, ◌≤◌, ◌+◌, ◌*◌, ℕ, Option, Some, List, [], ◌∷◌, length, slice_index_or, refl, sym, ap, ◌∙◌, subst, arith, eq-eqb}
use Rattle.sha2.specs.Sha256.{sha256}
use Rattle.nc_name.specs.Keys.{key_text}
use Rattle.nc_frame.specs.Frames.{HasFrame, frame}
use Rattle.nc_native.specs.Native.{chunk_size}
use Rattle.nc_cloud.specs.declared.fleet.Job.{Job}
use Rattle.nc_cloud.specs.Contents.{Contents, Write}
use Rattle.nc_cloud.specs.Fleet.{writes}
use Rattle.nc_cloud.specs.Images.{Image, Written, WrittenCloud, write_at}
use Rattle.nc_meta.specs.declared.meta.Live.{Live}
use Rattle.nc_meta.specs.declared.meta.Meta.TheVariants as meta
use Rattle.nc_meta.specs.Metas.{IsLive}
use Rattle.nc_nextloss.specs.GoodCodes.{GoodParts}
use Rattle.nc_mix.specs.declared.pieces.Pair.{Pair}
use Rattle.nc_download.specs.Chunks.{HoldsPayload, wanted_of}
use Rattle.nc_download.specs.Clouds.{IsGoodCloud, IsGoodRow}
use Rattle.nc_write.specs.declared.sealing.VersionWrites.{VersionWrites}
use Rattle.nc_write.specs.Writes.{AreChunkWrites, chunk_key, chunk_write}
use Rattle.nc_write.proofs.ChunkRounds.{metas_leave, row_leaves}
use Rattle.nc_repair.specs.Mending.{IsMadeOf, alone_at}
use Rattle.nc_repair.specs.Remaking.{IsPairLong}
use Rattle.nc_repair.proofs.MendingLaws.{len_stays, marks_new}

only_entry : (p : Write) → write_at (p ∷ []) p.cloud ≡ Some p
only_entry p = rw (eq-eqb p.cloud p.cloud refl) refl

-- a round of one chunk, on cloud i
module _ (n i : ℕ) (name : List ℕ) (m : Live) (r : ℕ) (payload : List ℕ) (jobs : List Job) (made : AreChunkWrites n name m r (alone_at i payload) jobs) where
  abbrev entry : Write
  entry = chunk_write n name m r (record { cloud = i; chunk = payload })

  -- once it is written, the cloud holds its frame
  alone_held : (F G : Contents) → Written (writes jobs) F G → G i (chunk_key name m r i) ≡ Some (frame i n (key_text (chunk_key name m r i)) payload)
  alone_held F G written =
      let at : write_at (writes jobs) i ≡ Some entry = ap (λ ps. write_at ps i) made.writes_are ∙ only_entry entry in
      (subst (λ (o : Option Write). WrittenCloud o (F i) (G i)) at (written.each i)).there

  -- where that stands, the chunk is good, if it is as the metadata tells
  alone_good : (G : Contents) → G i (chunk_key name m r i) ≡ Some (frame i n (key_text (chunk_key name m r i)) payload) → length payload ≡ chunk_size m.len n → sha256 payload ≡ slice_index_or m.marks (2 * i + r) []
      → IsGoodRow n name m G i r payload
  alone_good G held long marked =
      let fits : HasFrame i n (key_text (chunk_key name m r i)) payload = made.fits 0 (record { cloud = i; chunk = payload }) (omega arith) in
      record {
        holds = subst (λ (o : Option (List ℕ)). HoldsPayload (wanted_of n name m r i) o payload) (sym held) (record { fits = fits; is_frame = refl });
        long = long;
        marked = marked;
      }

-- once all rounds were made, both new chunks are good by the new metadata
pub new_cloud_is_good : (n i : ℕ) (name : List ℕ) (old : Live) (good : GoodParts) (pair : Pair) (w : VersionWrites) → IsLive n old → i < n → IsPairLong (chunk_size old.len n) pair → IsMadeOf n name i old good pair.zero pair.one w
    → (F G H K : Contents) → Written (writes w.first.items) F G → Image (writes w.second.items) G H → Written (writes w.second.items) G H → Image (writes w.metas.items) H K → IsGoodCloud n name w.live K i
new_cloud_is_good n i name old good pair w live low long of F G H K one_done image_2 two_done image_3 =
    let narrow : n ≤ 10 = let few : old.code.width ≤ 10 = live.code.narrow in omega (arith, few, live.width) in
    let len : w.live.len ≡ old.len = ap (λ (l : Live). l.len) of.is ∙ len_stays i old good (sha256 pair.zero) (sha256 pair.one) in
    let size : chunk_size old.len n ≡ chunk_size w.live.len n = ap (λ k. chunk_size k n) (sym len) in
    let marks = marks_new i old good (sha256 pair.zero) (sha256 pair.one) (omega (arith, live.marks.count, low, narrow)) in
    let mark_0 : sha256 pair.zero ≡ slice_index_or w.live.marks (2 * i + 0) [] = sym (ap (λ (l : Live). slice_index_or l.marks (2 * i + 0) []) of.is ∙ marks.0) in
    let mark_1 : sha256 pair.one ≡ slice_index_or w.live.marks (2 * i + 1) [] = sym (ap (λ (l : Live). slice_index_or l.marks (2 * i + 1) []) of.is ∙ marks.1) in
    let kept : (r : ℕ) → K i (chunk_key name w.live r i) ≡ H i (chunk_key name w.live r i) = λ r. metas_leave n name (meta.Live w.live) w.metas.items of.made.metas_are H K i name _ r image_3 in
    record {
      zero = pair.zero;
      one = pair.one;
      rows = record {
        first =
            alone_good n i name w.live 0 pair.zero w.first.items of.made.row_0 K
            (kept 0 ∙ row_leaves n name w.live 1 (alone_at i pair.one) w.second.items of.made.row_1 G H i 0 (λ e. absurd (omega (arith, e))) image_2 ∙ alone_held n i name w.live 0 pair.zero w.first.items of.made.row_0 F G one_done)
            (long.zero ∙ size) mark_0;
        second = alone_good n i name w.live 1 pair.one w.second.items of.made.row_1 K (kept 1 ∙ alone_held n i name w.live 1 pair.one w.second.items of.made.row_1 G H two_done) (long.one ∙ size) mark_1;
      };
    }
