-- The digests of chunks.
use Rattle.std.specs.Prelude.{ℕ, ◌≡◌, ◌≤◌, ◌<◌, List, [], length, replicate, slice_index_or}
use Rattle.sha2.specs.Sha256.{sha256}
use Rattle.nc_bytes.specs.Bytes.{AreBytes}

-- the SHA-256 of each chunk
pub record AreDigests (chunks marks : List (List ℕ)) : Type 0 where
  pub same_length : length marks ≡ length chunks
  pub digests : (i : ℕ) → i < length chunks → slice_index_or marks i [] ≡ sha256 (slice_index_or chunks i [])
  pub bytes : (i : ℕ) → i < length chunks → AreBytes (slice_index_or marks i [])

-- the SHA-256 of each of at most 20 chunks, and zeros past the last
pub record AreMarks (chunks marks : List (List ℕ)) : Type 0 where
  pub count : length marks ≡ 20
  pub digests : (i : ℕ) → i < length chunks → slice_index_or marks i [] ≡ sha256 (slice_index_or chunks i [])
  pub zeros : (i : ℕ) → length chunks ≤ i → i < 20 → slice_index_or marks i [] ≡ replicate 32 0
  pub bytes : (i : ℕ) → i < length chunks → AreBytes (slice_index_or marks i [])
