-- How much of the input was taken.
use Rattle.std.specs.Prelude.{ℕ, ◌≡◌, ◌≤◌, ◌+◌, ◌^◌, ◌++◌, Option, List, length, Ok, Err, IsErrOf}
use Rattle.std.specs.declared.result.Result.{Result}
use Rattle.std.specs.Io.KnownBytes.{Consumes, IsAtEnd}
use Rattle.nc_name.specs.Counts.{Rose}
use Rattle.nc_stream.specs.declared.input.InputFault.{InputFault}
use Rattle.nc_stream.specs.declared.input.InputFault.TheVariants.{TooLong, Failed, Memory}

-- the most bytes that a file may have: 64 MiB
abbrev pub limit : ℕ
limit = 2 ^ 26

-- What was taken, by how the reading ended: the whole input; one byte more than a file may have; what was there
-- before the fault.
abbrev pub EndsReading : Result (List ℕ) InputFault → List ℕ → Option (List ℕ) → Type 0
EndsReading (Ok bytes) taken left = (bytes ≡ taken) × (length taken ≤ limit) × IsAtEnd left
EndsReading (Err TooLong) taken left = length taken ≡ limit + 1
EndsReading (Err Failed) taken left = length taken ≤ limit
EndsReading (Err Memory) taken left = length taken ≤ limit

-- the input goes on where it was left, and no more was taken than the ending says
pub record Reads (before now : Option (List ℕ)) (result : Result (List ℕ) InputFault) : Type 0 where
  pub taken : List ℕ
  pub consumed : Consumes before now taken
  pub ending : EndsReading result taken now

-- the next n bytes of the input stand after those that were there
pub record Adds (before now : Option (List ℕ)) (old new : List ℕ) (n : ℕ) : Type 0 where
  pub taken : List ℕ
  pub consumed : Consumes before now taken
  pub added : new ≡ old ++ taken
  pub count : length taken ≡ n

-- this holds where no read is answered as failed
abbrev pub UnlessFailed : {T : Type 0} → Result T InputFault → Type 0 → Type 0
UnlessFailed (Err Failed) P = Unit {0}
UnlessFailed other P = P

-- The count has not fallen. A read is answered as failed only where it rose; where counts are exact, it rises only there.
pub record FailsBy {T : Type 0} (exact : Type 0) (before now : ℕ) (result : Result T InputFault) : Type 0 where
  pub later : before ≤ now
  pub failed : IsErrOf result Failed → Rose before now
  pub same : exact → UnlessFailed result (now ≡ before)

-- these bytes were taken so far, and no read has failed
pub record IsReading (exact : Type 0) (before now : Option (List ℕ)) (old new : ℕ) (bytes : List ℕ) : Type 0 where
  pub consumed : Consumes before now bytes
  pub short : length bytes ≤ limit + 1
  pub later : old ≤ new
  pub same : exact → new ≡ old
