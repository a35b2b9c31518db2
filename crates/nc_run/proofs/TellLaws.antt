-- What is told in pieces, one after the other.
use Rattle.std.proofs.Common.{ℕ, ◌≡◌, ◌++◌, List, Ok, Err, IsErr, Result, refl}
use Rattle.nc_stream.specs.declared.sink.Sink.{Ghosts as SinkGhosts}
use Rattle.nc_words.specs.Sending.{Sends}
use Rattle.nc_words.proofs.SendLaws.{sends_failed, sends_more}
use Rattle.nc_run.specs.declared.ending.Ending.{Ending}
use Rattle.nc_run.specs.declared.status.Status.{Status}
use Rattle.nc_run.specs.declared.status.Status.TheVariants as st
use Rattle.nc_run.specs.Telling.{TellsBy, TellsLine}

module _ {B : Type 0} (K : SinkGhosts B) where
  -- what was written first, and what was sent after it
  pub sent_then : {T E S D : Type 0} (a b : List ℕ) {start mid end : B} {x : S} {result : Result T E}
      → Sends {T = S} {E = D} K a start mid (Ok x) → Sends K b mid end result → Sends K (a ++ b) start end result
  sent_then a b {start = start} {mid = mid} {end = end} {x = x} {result = result} first second =
      sends_more K a b start mid end x result first second

  -- where a write failed, more isn't written
  pub stopped_at : {T E S D : Type 0} (a b : List ℕ) {start end : B} {fault : D} (result : Result T E) → IsErr result
      → Sends {T = S} K a start end (Err fault) → Sends K (a ++ b) start end result
  stopped_at a b (Ok x) failed first = absurd cc
  stopped_at a b {start = start} {end = end} {fault = fault} (Err told) failed first =
      sends_failed K a b start end fault told first

-- a line is told at each status but Ok
pub tells_line : {B : Type 0} (E : SinkGhosts B) (e : Ending) (old new : B) (status : Status) → (status ≡ st.Ok → ⊥)
    → TellsLine E e old new → TellsBy E e old new status
tells_line E e old new st.Ok other told = absurd (other refl)
tells_line E e old new (st.Width w) other told = told
tells_line E e old new st.Usage other told = told
tells_line E e old new (st.Name cause) other told = told
tells_line E e old new (st.BatchLine k) other told = told
tells_line E e old new st.TooLong other told = told
tells_line E e old new st.ReadFault other told = told
tells_line E e old new st.WriteFault other told = told
tells_line E e old new (st.Vault cause) other told = told
