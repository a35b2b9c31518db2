-- What was written to an output.
use Rattle.std.specs.Prelude.{ℕ, List, OnOk}
use Rattle.std.specs.declared.result.Result.{Result}
use Rattle.std.specs.Io.KnownBytes.{Appends}
use Rattle.nc_stream.specs.Counts.{HasCount}
use Rattle.nc_stream.specs.Output.{AppendsSome}
use Rattle.nc_stream.specs.declared.sink.Sink.{Ghosts as SinkGhosts}

-- These bytes were written, or, where a write failed, a beginning of them.
pub record Sends {B T E : Type 0} (K : SinkGhosts B) (bytes : List ℕ) (old new : B) (result : Result T E) : Type 0 where
  pub all : OnOk result (Appends (K.written old) (K.written new) bytes)
  pub some : AppendsSome (K.written old) (K.written new) bytes
  pub counts : HasCount K.counts_exactly (K.faults old) (K.faults new) result
