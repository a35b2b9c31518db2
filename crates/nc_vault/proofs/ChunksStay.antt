-- What is said of a file's chunks where they are the same, and of metadata where only chunks changed.
use Rattle.std.proofs.Common.{◌≡◌, ◌+◌, ◌&&◌, ℕ, not, Option, None, Some, List, slice_index, sym, ap, ◌∙◌, subst}
use Rattle.nc_name.specs.declared.key.Key.{Key}
use Rattle.nc_name.specs.declared.key.Key.TheVariants as key
use Rattle.nc_meta.specs.declared.meta.Live.{Live}
use Rattle.nc_meta.specs.declared.meta.Meta.{Meta}
use Rattle.nc_cloud.specs.Contents.{Contents}
use Rattle.nc_state.specs.Clouds.{Clouds, count_of}
use Rattle.nc_state.specs.Holding.{Holds, IsSettledOn, is_object, meta_key}
use Rattle.nc_state.specs.Right.{chunk_object}
use Rattle.nc_state.specs.Versions.Version.{Stored}
use Rattle.nc_download.specs.declared.short.How.{How}
use Rattle.nc_download.specs.declared.short.Why.{Why}
use Rattle.nc_download.specs.declared.short.Why.TheVariants.{Failed, Row}
use Rattle.nc_download.specs.Chunks.{ChunkIs, IsGoodChunk, wanted_of}
use Rattle.nc_download.specs.Clouds.{IsBadRow, IsFirstBad, IsGoodCloud, IsGoodRow}
use Rattle.nc_write.specs.Writes.{chunk_key}
use Rattle.nc_restore.specs.Restored.{ChangesOnlyBad, IsBadPlace, wrong_at, wrong_count}
use Rattle.nc_restore.proofs.DoneLaws.{counts_same}
use Rattle.nc_vault.specs.Saying.{TellsWhy}

-- ---- G has the chunks of F

module _ (n : ℕ) (name : List ℕ) (m : Live) (F G : Contents) (same : (c slot row : ℕ) → G c (key.Chunk name slot row) ≡ F c (key.Chunk name slot row)) where
  good_row : (c r : ℕ) (payload : List ℕ) → IsGoodRow n name m G c r payload → IsGoodRow n name m F c r payload
  good_row c r payload good = subst (λ (held : Option (List ℕ)). IsGoodChunk (wanted_of n name m r c) held payload) (same c (slice_index m.slots c) r) good

  bad_row : (c r : ℕ) (how : How) → IsBadRow n name m G c r how → IsBadRow n name m F c r how
  bad_row c r how bad = subst (λ (held : Option (List ℕ)). ChunkIs (wanted_of n name m r c) held how) (same c (slice_index m.slots c) r) bad

  good_cloud : (c : ℕ) → IsGoodCloud n name m G c → IsGoodCloud n name m F c
  good_cloud c good = record { zero = good.zero; one = good.one; rows = record { first = good_row c 0 good.zero good.rows.first; second = good_row c 1 good.one good.rows.second } }

  first_bad : (c r : ℕ) (how : How) → IsFirstBad n name m G c r how → IsFirstBad n name m F c r how
  first_bad c r how bad = record {
    pair = bad.pair;
    before = λ q low. ((bad.before q low).0, good_row c q (bad.before q low).0 (bad.before q low).1);
    here = bad_row c r how bad.here;
  }

  pub tells_there : (c : ℕ) (w : Option Why) → TellsWhy n name m G c w → TellsWhy n name m F c w
  tells_there c None tells = good_cloud c tells
  tells_there c (Some Failed) tells = tt
  tells_there c (Some (Row r how)) tells = first_bad c r how tells

  pub bad_there : (P : Clouds) (c : ℕ) (place : Key) → IsBadPlace n name m P G c place → IsBadPlace n name m P F c place
  bad_there P c place bad = record { within = bad.within; one = bad.one; row = bad.row; pair = bad.pair; at = bad.at; how = bad.how; bad = bad_row c bad.row bad.how bad.bad }

  wrong_row : (v : List ℕ) (P : Clouds) (r : ℕ) → count_of n (wrong_at n name m v P G r) ≡ count_of n (wrong_at n name m v P F r)
  wrong_row v P r =
      counts_same n (wrong_at n name m v P G r) (wrong_at n name m v P F r)
      (λ c l. ap (λ (o : Option (List ℕ)). P c && not (is_object o (chunk_object n (Stored m v) c (chunk_key name m r c)))) (same c (slice_index m.slots c) r))

  pub wrong_there : (v : List ℕ) (P : Clouds) → wrong_count n name m v P G ≡ wrong_count n name m v P F
  wrong_there v P = ap (λ (k : ℕ). k + count_of n (wrong_at n name m v P G 1)) (wrong_row v P 0) ∙ ap (λ (k : ℕ). count_of n (wrong_at n name m v P F 0) + k) (wrong_row v P 1)

-- ---- only chunks that weren't good changed from H to G

module _ (n : ℕ) (name : List ℕ) (m : Live) (P : Clouds) (H G : Contents) (only : ChangesOnlyBad n name m P H G) where
  meta_stays : (c : ℕ) (k : Meta) → G c (meta_key name k) ≡ H c (meta_key name k)
  meta_stays c k = only.others c (meta_key name k) (λ bad. let e : meta_key name k ≡ chunk_key name m bad.row c = bad.at in absurd cc)

  holds_then : (c : ℕ) (k : Meta) → Holds n H name c k → Holds n G name c k
  holds_then c k held = record { is_meta = held.is_meta; stands = meta_stays c k ∙ held.stands }

  held_before : (c : ℕ) (k : Meta) → Holds n G name c k → Holds n H name c k
  held_before c k held = record { is_meta = held.is_meta; stands = sym (meta_stays c k) ∙ held.stands }

  -- the metadata that every cloud held each still holds
  pub settled_still : (top : Option Meta) → IsSettledOn n H name top → IsSettledOn n G name top
  settled_still None settled = record { none = λ c k l held. settled.none c k l (held_before c k held) }
  settled_still (Some t) settled = record {
    each = λ c l. holds_then c t (settled.each c l);
    highest = λ c k l held. settled.highest c k l (held_before c k held);
  }
