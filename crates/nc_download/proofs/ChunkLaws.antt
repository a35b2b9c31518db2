-- What good and bad chunks show of the version that stands.
use Rattle.std.proofs.Common.{◌≡◌, ◌<◌, ℕ, zero, suc, true, Option, None, Some, List, length, slice_index, refl, sym, ap, ◌∙◌, subst, arith}
use Rattle.sha2.specs.Sha256.{sha256}
use Rattle.nc_name.specs.Keys.{key_text}
use Rattle.nc_frame.specs.Frames.{Sealed}
use Rattle.nc_frame.proofs.Shapes.{same_parts}
use Rattle.nc_cloud.specs.Contents.{Contents}
use Rattle.nc_meta.specs.declared.meta.Live.{Live}
use Rattle.nc_state.specs.Clouds.{Clouds}
use Rattle.nc_state.specs.Right.{IsRight, PlacesStand}
use Rattle.nc_state.specs.Versions.{IsValidFor}
use Rattle.nc_state.specs.Versions.Version.{Stored}
use Rattle.nc_state.proofs.ChunkLaws.{only_right_is_sealed, right_is_marked, wrong_is_damaged}
use Rattle.nc_download.specs.declared.judging.Wanted.{Wanted}
use Rattle.nc_download.specs.declared.short.How.{How}
use Rattle.nc_download.specs.declared.short.How.TheVariants.{Missing, Broken, Marked}
use Rattle.nc_download.specs.Chunks.{wanted_of, ChunkIs, HoldsPayload}
use Rattle.nc_download.specs.Clouds.{chunk_of, held_at, HoldsChunksOf, IsBadRow, IsFirstBad, IsGoodCloud, IsGoodRow}

-- ---- one chunk

-- what is held has one payload
pub same_payload : (w : Wanted) (held : Option (List ℕ)) (p q : List ℕ) → HoldsPayload w held p → HoldsPayload w held q → p ≡ q
same_payload w (Some bytes) p q first second = (same_parts bytes _ _ _ _ _ _ _ _ first second).payload
same_payload w None p q first second = absurd first

-- the bytes whose payload this is
pub held_payload : (w : Wanted) (held : Option (List ℕ)) (payload : List ℕ) → HoldsPayload w held payload → (bytes : List ℕ) × (held ≡ Some bytes) × Sealed bytes w.cloud w.width (key_text w.key) payload
held_payload w (Some bytes) payload holds = (bytes, refl, holds)
held_payload w None payload holds = absurd holds

-- a chunk that has the length and the digest that are wanted isn't bad
not_bad : (w : Wanted) (held : Option (List ℕ)) (right : List ℕ) → HoldsPayload w held right → length right ≡ w.size → sha256 right ≡ w.mark → (how : How) → ChunkIs w held how → ⊥
not_bad w held right holds long marked Missing is = absurd (subst (λ h. HoldsPayload w h right) is holds)
not_bad w held right holds long marked Broken is = is.no_payload right holds long
not_bad w held right holds long marked Marked is = is.other (ap sha256 (same_payload w held _ _ is.holds holds) ∙ marked)

-- a good chunk of some payload
record HasGoodRow (n : ℕ) (name : List ℕ) (m : Live) (F : Contents) (c r : ℕ) : Type 0 where
  pub payload : List ℕ
  pub good : IsGoodRow n name m F c r payload

good_row : (n : ℕ) (name : List ℕ) (m : Live) (F : Contents) (c : ℕ) → IsGoodCloud n name m F c → (r : ℕ) → r < 2 → HasGoodRow n name m F c r
good_row n name m F c is zero low = record { payload = is.zero; good = is.rows.first }
good_row n name m F c is (suc zero) low = record { payload = is.one; good = is.rows.second }
good_row n name m F c is (suc (suc r)) low = absurd (omega arith)

-- ---- a version whose chunks stand

module _ (n : ℕ) (name : List ℕ) (m : Live) (v : List ℕ) (F : Contents) (D : Clouds) (valid : IsValidFor n m v) (places : PlacesStand n F D name (Stored m v)) where
  -- a payload that stands in a place of it is that of the version
  payload_is : (c r : ℕ) (payload : List ℕ) → c < n → r < 2 → HoldsPayload (wanted_of n name m r c) (held_at n name m F c r) payload → payload ≡ chunk_of n m v r c
  payload_is c r payload l pair holds =
      let held = held_payload (wanted_of n name m r c) (held_at n name m F c r) payload holds in
      only_right_is_sealed n F D name (Stored m v) c (wanted_of n name m r c).key held.0 payload places l (refl, refl, pair) held.1 held.2

  -- a good cloud holds its chunks, damaged or not
  pub good_holds : (c : ℕ) → c < n → IsGoodCloud n name m F c → HoldsChunksOf n name m v F c
  good_holds c l good = record {
    row = λ r pair.
        let row = good_row n name m F c good r pair in
        subst (HoldsPayload (wanted_of n name m r c) (held_at n name m F c r)) (payload_is c r row.payload l pair row.good.holds) row.good.holds;
  }

  -- a right chunk isn't bad
  pub right_not_bad : (c r : ℕ) (how : How) → c < n → r < 2 → IsBadRow n name m F c r how → IsRight n F (Stored m v) c (wanted_of n name m r c).key → ⊥
  right_not_bad c r how l pair bad right =
      let marked = right_is_marked n name m v c (slice_index m.slots c) r valid l pair in
      not_bad (wanted_of n name m r c) (held_at n name m F c r) (chunk_of n m v r c)
      (subst (λ (h : Option (List ℕ)). HoldsPayload (wanted_of n name m r c) h (chunk_of n m v r c)) (sym right.stands) right.is_chunk) marked.0 marked.1 how bad

  -- so it is on a damaged cloud
  pub bad_row_is_damaged : (c r : ℕ) (how : How) → c < n → r < 2 → IsBadRow n name m F c r how → D c ≡ true
  bad_row_is_damaged c r how l pair bad = wrong_is_damaged n F D name (Stored m v) c (wanted_of n name m r c).key places l (refl, refl, pair) (right_not_bad c r how l pair bad)

  pub bad_is_damaged : (c r : ℕ) (how : How) → c < n → IsFirstBad n name m F c r how → D c ≡ true
  bad_is_damaged c r how l bad = bad_row_is_damaged c r how l bad.pair bad.here
