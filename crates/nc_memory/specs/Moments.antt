-- The moments of a memory fleet, and what a stop at one of them may leave: both follow from its record.
use Rattle.std.specs.Prelude.{ℕ, ◌≡◌, ◌⊎◌, List, [], ◌∷◌, map, length, take, drop}
use Rattle.nc_memory.specs.declared.record.Step.{Step}
use Rattle.nc_memory.specs.declared.record.Event.{Event}
use Rattle.nc_memory.specs.declared.record.Event.TheVariants.{Gets, Writes, Listed, Planted, Lost}
use Rattle.nc_memory.specs.declared.memory.MemFleet.{MemFleet}
use Rattle.nc_cloud.specs.Contents.{Contents, Write, nothing}
use Rattle.nc_cloud.specs.Images.{Image}
use Rattle.nc_memory.specs.Record.{contents_after}
use Rattle.nc_memory.specs.Memory.{log_of}

-- a step as an entry of a round
abbrev pub step_write : Step → Write
step_write s = record { cloud = s.cloud; key = s.key; new = s.new }

-- contents that a stop in an event may leave
abbrev pub EventImage : Event → Contents → Contents → Type 0
EventImage (Gets looks) F G = G ≡ F
EventImage (Writes steps) F G = Image (map step_write steps) F G
EventImage (Listed cloud failed) F G = G ≡ F
EventImage (Planted cloud key bytes) F G = G ≡ F
EventImage (Lost cloud damage) F G = G ≡ F

-- contents that a stop in one of these events may leave, or after the last
abbrev pub ImageIn : List Event → Contents → Contents → Type 0
ImageIn [] F G = G ≡ F
ImageIn (e ∷ es) F G = EventImage e F G ⊎ ImageIn es (contents_after (e ∷ []) F) G

-- a moment is a length of the record
abbrev pub now_of : MemFleet → ℕ
now_of fleet = length (log_of fleet)

abbrev pub past_of : MemFleet → ℕ → Contents
past_of fleet t = contents_after (take t (log_of fleet)) nothing

abbrev pub image_of : MemFleet → ℕ → Contents → Type 0
image_of fleet t G = ImageIn (drop t (log_of fleet)) (contents_after (take t (log_of fleet)) nothing) G
