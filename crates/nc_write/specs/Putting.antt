-- What a put makes of the version before.
use Rattle.std.specs.Prelude.{ℕ, ◌≡◌, ◌+◌, ◌*◌, ◌/◌, ◌%◌, ◌<◌, nat_lt, Option, Some, List, [], length, map, replicate, slice_index_or, if◌then◌else◌}
use Rattle.std.specs.List.{range_with_len}
use Rattle.std.specs.Option.{option_map_or}
use Rattle.sha2.specs.Sha256.{sha256}
use Rattle.nc_native.specs.Native.{combination}
use Rattle.nc_code.specs.Codes.{code_row}
use Rattle.nc_code.specs.Parts.{CodeParts}
use Rattle.nc_meta.specs.declared.meta.Live.{Live}
use Rattle.nc_meta.specs.declared.meta.Meta.{Meta}
use Rattle.nc_nextloss.specs.GoodCodes.{GoodParts}
use Rattle.nc_cloud.specs.Contents.{Contents}
use Rattle.nc_cloud.specs.Rounds.{row}
use Rattle.nc_state.specs.Commands.{IsNext}
use Rattle.nc_state.specs.Holding.{AllHold, top_generation}
use Rattle.nc_state.specs.Right.{RightOn, free_slot}
use Rattle.nc_state.specs.Versions.{IsValid, Version, meta_of}
use Rattle.nc_state.specs.Versions.Version.{Stored}
use Rattle.nc_write.specs.declared.sealing.Placed.{Placed}
use Rattle.nc_write.specs.declared.sealing.VersionWrites.{VersionWrites}
use Rattle.nc_write.specs.Writes.{WritesFile}

-- ---- the metadata

-- where the next chunks of a cloud go: beside those of the metadata before
abbrev pub slot_after : Option Meta → ℕ → ℕ
slot_after top c = option_map_or (λ m. free_slot m c) top 0

-- the same, and 0 past the last cloud
abbrev pub next_slot : ℕ → Option Meta → ℕ → ℕ
next_slot n top c = if nat_lt c n then slot_after top c else 0

unfoldable pub next_slots : ℕ → Option Meta → List ℕ
next_slots n top = map (next_slot n top) (range_with_len 0 10)

-- the SHA-256 of the payload of chunk i, 2c + r, of the file v, and zeros past the last
abbrev pub mark_of : ℕ → CodeParts → List ℕ → ℕ → List ℕ
mark_of n code v i = if nat_lt i (2 * n) then sha256 (combination (code_row code (i / 2) (i % 2)) v n) else replicate 32 0

unfoldable pub file_marks : ℕ → CodeParts → List ℕ → List (List ℕ)
file_marks n code v = map (mark_of n code v) (range_with_len 0 20)

-- the metadata of a file of this length, stored after this metadata by this code with its witnesses
abbrev pub next_meta : ℕ → Option Meta → GoodParts → ℕ → List (List ℕ) → Live
next_meta n top good len marks = record {
  generation = top_generation top + 1;
  len = len;
  code = good.code;
  slots = next_slots n top;
  marks = marks;
  witnesses = Some good.witnesses;
}

-- that of the file v
unfoldable pub put_meta : ℕ → Option Meta → GoodParts → List ℕ → Live
put_meta n top good v = next_meta n top good (length v) (file_marks n good.code v)

-- y is the file v, stored after x by this code
pub record IsPutBy (n : ℕ) (good : GoodParts) (v : List ℕ) (x y : Version) : Type 0 where
  pub is : y ≡ Stored (put_meta n (meta_of x) good v) v
  pub next : IsNext n x (Some y)

-- every cloud holds the version's metadata, and its chunks right
pub record IsStored (n : ℕ) (G : Contents) (name : List ℕ) (y : Version) : Type 0 where
  pub held : AllHold n G name y
  pub right : (c : ℕ) → c < n → RightOn n G name y c

-- ---- the writes

abbrev pub each_cloud : ℕ → List ℕ
each_cloud n = row (λ c. c) 0 n

-- The file v was prepared after this metadata, by this code: its metadata, which can be stored, and all its writes.
pub record IsPutOf (n : ℕ) (name : List ℕ) (top : Option Meta) (good : GoodParts) (v : List ℕ) (w : VersionWrites) : Type 0 where
  pub is : w.live ≡ put_meta n top good v
  pub valid : IsValid n (Stored w.live v)
  pub made : WritesFile n name v (each_cloud n) w

-- ---- chunks, row by row

-- chunk 2c + r, and its cloud c
abbrev pub placed_of : List (List ℕ) → ℕ → ℕ → Placed
placed_of chunks r c = record { cloud = c; chunk = slice_index_or chunks (2 * c + r) [] }
