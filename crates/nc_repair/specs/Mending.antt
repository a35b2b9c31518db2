-- What the repair of a file makes.
use Rattle.std.specs.Prelude.{ℕ, ◌≡◌, ◌+◌, ◌*◌, Some, List, [], ◌∷◌, slice_set}
use Rattle.sha2.specs.Sha256.{sha256}
use Rattle.nc_native.specs.Native.{combination}
use Rattle.nc_code.specs.Codes.{code_row, repaired}
use Rattle.nc_code.specs.Parts.{CodeParts, PlanParts}
use Rattle.nc_meta.specs.declared.meta.Live.{Live}
use Rattle.nc_meta.specs.declared.meta.Meta.TheVariants as meta
use Rattle.nc_meta.specs.Metas.{IsLive}
use Rattle.nc_nextloss.specs.GoodCodes.{GoodParts}
use Rattle.nc_state.specs.Commands.{IsNext}
use Rattle.nc_state.specs.Mending.{IsMended}
use Rattle.nc_state.specs.Right.{free_slot}
use Rattle.nc_state.specs.Versions.{IsValid, Version}
use Rattle.nc_state.specs.Versions.Version.{Stored}
use Rattle.nc_write.specs.declared.sealing.Placed.{Placed}
use Rattle.nc_write.specs.declared.sealing.VersionWrites.{VersionWrites}
use Rattle.nc_write.specs.Writes.{AreVersionWrites, WritesFile}
use Rattle.nc_mix.specs.declared.pieces.Pair.{Pair}
use Rattle.nc_mix.specs.Regenerating.{IsPairOf}

-- The metadata after the repair of cloud i, whose new chunks have these digests: they stand in the other slot, and all others stay.
unfoldable pub mended_by : ℕ → Live → GoodParts → List ℕ → List ℕ → Live
mended_by i old good zero one = record {
  generation = old.generation + 1;
  len = old.len;
  code = good.code;
  slots = slice_set old.slots i (free_slot (meta.Live old) i);
  marks = slice_set (slice_set old.marks (2 * i) zero) (2 * i + 1) one;
  witnesses = Some good.witnesses;
}

-- the digest of the chunk of row r of cloud i of the file v
abbrev pub digest_of : ℕ → CodeParts → List ℕ → ℕ → ℕ → List ℕ
digest_of n code v i r = sha256 (combination (code_row code i r) v n)

-- that of the file v
abbrev pub mended_meta : ℕ → ℕ → Live → GoodParts → List ℕ → Live
mended_meta n i old good v = mended_by i old good (digest_of n good.code v i 0) (digest_of n good.code v i 1)

-- one chunk, on cloud i
abbrev pub alone_at : ℕ → List ℕ → List Placed
alone_at i payload = record { cloud = i; chunk = payload } ∷ []

-- the metadata and the writes of the repair of cloud i, whose new chunks are these, whatever they are
pub record IsMadeOf (n : ℕ) (name : List ℕ) (i : ℕ) (old : Live) (good : GoodParts) (zero one : List ℕ) (w : VersionWrites) : Type 0 where
  pub fits : IsLive n w.live
  pub is : w.live ≡ mended_by i old good (sha256 zero) (sha256 one)
  pub made : AreVersionWrites n name (alone_at i zero) (alone_at i one) w

-- these are the metadata and the writes of the repair of the file v on cloud i
pub record IsMendOf (n : ℕ) (name : List ℕ) (i : ℕ) (old : Live) (v : List ℕ) (plan : PlanParts) (good : GoodParts) (w : VersionWrites) : Type 0 where
  pub is : w.live ≡ mended_meta n i old good v
  pub mended : IsMended i plan old w.live
  pub next : IsNext n (Stored old v) (Some (Stored w.live v))
  pub made : WritesFile n name v (i ∷ []) w

-- The metadata and the writes of a repair whose new chunks are this pair: of each file of which they are that by the repaired code, its repair.
pub record MendsWith (n : ℕ) (name : List ℕ) (i : ℕ) (old : Live) (plan : PlanParts) (good : GoodParts) (pair : Pair) (w : VersionWrites) : Type 0 where
  pub made : IsMadeOf n name i old good pair.zero pair.one w
  pub of_file : (v : List ℕ) → IsValid n (Stored old v) → IsPairOf (repaired old.code i plan) i v pair → IsMendOf n name i old v plan good w

-- y is the file x after the repair of cloud i, by this code
pub record IsRepaired (n i : ℕ) (good : GoodParts) (x y : Version) : Type 0 where
  pub old : Live
  pub file : List ℕ
  pub was : x ≡ Stored old file
  pub is : y ≡ Stored (mended_meta n i old good file) file
  pub next : IsNext n x (Some y)
