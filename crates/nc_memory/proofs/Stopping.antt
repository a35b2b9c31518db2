-- What a stop in a round leaves of a memory fleet.
use Rattle.std.proofs.Common.{◌≡◌, ℕ, ◌<◌, List, length, take, sym, ap, ◌∙◌, subst}
use Rattle.nc_cloud.specs.Contents.{nothing}
use Rattle.nc_memory.specs.declared.record.Event.{Event}
use Rattle.nc_memory.specs.declared.record.Torn.{Torn}
use Rattle.nc_memory.specs.declared.memory.MemFleet.{MemFleet}
use Rattle.nc_memory.specs.Record.{contents_after, counted, failures, gifts, slipped, WholeLog}
use Rattle.nc_memory.specs.Memory.{log_of}
use Rattle.nc_memory.specs.Moments.{image_of}
use Rattle.nc_memory.specs.Stops.{cut, LeavesStopped}
use Rattle.nc_memory.proofs.Cuts.{cut_before, cut_failures, cut_gifts, cut_image, cut_slipped, length-cut}

pub leaves_stopped : (at : ℕ) (fates : List Torn) (old new : MemFleet) → ∥ WholeLog (log_of old) ∥₁ → at < length (log_of old) → log_of new ≡ cut at fates (log_of old) → LeavesStopped at old new
leaves_stopped at fates old new whole l is = record {
  length_is = ap length is ∙ length-cut at fates (log_of old) l;
  image = λ t le. subst (λ (es : List Event). image_of old t (contents_after es nothing)) (sym is) (cut_image at fates (log_of old) t nothing whole l le);
  before = record { each = λ t le. ap (λ es. contents_after (take t es) nothing) is ∙ cut_before at fates (log_of old) t nothing l le };
  faults = λ c. ap (λ es. counted (failures es c)) is ∙ ap counted (cut_failures at fates (log_of old) c l);
  slips = λ c. ap (λ es. counted (slipped es c)) is ∙ ap counted (cut_slipped at fates (log_of old) c l);
  gets = λ c. ap (λ es. counted (gifts es c)) is ∙ ap counted (cut_gifts at fates (log_of old) c l);
}
