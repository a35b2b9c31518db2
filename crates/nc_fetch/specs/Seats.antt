-- Answers of a round in seats, and what each of them gives of its chunk.
use Rattle.std.specs.Prelude.{ℕ, ◌≡◌, ◌<◌, Bool, true, false, Result, Ok, IfOk, List, length, remove, slice_index, slice_index_or}
use Rattle.nc_name.specs.declared.blob.Memory.{Memory}
use Rattle.nc_cloud.specs.declared.fleet.Ask.{Ask}
use Rattle.nc_meta.specs.declared.meta.Live.{Live}
use Rattle.nc_download.specs.Chunks.{wanted_of}
use Rattle.nc_fetch.specs.declared.founds.Found.{Found}
use Rattle.nc_fetch.specs.declared.founds.Found.TheVariants.{Unasked}
use Rattle.nc_fetch.specs.declared.seats.Seat.{Seat}
use Rattle.nc_fetch.specs.Founds.{FoundFrom}

-- the seat of an entry, not judged yet; rows has the row of each cloud's chunk
abbrev pub seat_of : ℕ → List ℕ → Live → List ℕ → Ask → Seat
seat_of n name m rows a = record {
  wanted = wanted_of n name m (slice_index rows a.cloud) a.cloud;
  row = slice_index rows a.cloud;
  answer = a.answer;
  found = Ok Unasked;
}

-- the seat was judged: it has what its answer gives of its chunk
pub record IsJudgedSeat (old new : Seat) : Type 0 where
  pub wanted : new.wanted ≡ old.wanted
  pub row : new.row ≡ old.row
  pub gives : IfOk new.found (FoundFrom old.wanted old.row old.answer)

-- each was, in order
pub record AllJudged (old new : List Seat) : Type 0 where
  pub same_length : length new ≡ length old
  pub each : (k : ℕ) (d : Seat) → k < length old
      → IsJudgedSeat (slice_index_or old k d) (slice_index_or new k d)

-- the first seat is taken where the cloud was asked, with what it gives
abbrev pub TakesNext : Bool → List Seat → List Seat → Result Found Memory → Type 0
TakesNext true old new given = (new ≡ remove old 0) × ((d : Seat) → given ≡ (slice_index_or old 0 d).found)
TakesNext false old new given = (new ≡ old) × (given ≡ Ok Unasked)
