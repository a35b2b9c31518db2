-- Clouds, an input and an output in memory.
use Rattle.std.specs.Prelude.{ℕ, Some, List, drop}
use Rattle.nc_cloud.specs.declared.fleet.Fleet.{Ghosts as FleetGhosts}
use Rattle.nc_stream.specs.declared.memory.MemSink.{MemSink}
use Rattle.nc_stream.specs.declared.memory.MemSource.{MemSource}
use Rattle.nc_stream.specs.declared.sink.Sink.{Ghosts as SinkGhosts}
use Rattle.nc_stream.specs.declared.source.Source.{Ghosts as SourceGhosts}
use Rattle.nc_memory.specs.declared.memory.MemFleet.{MemFleet}
use Rattle.nc_memory.specs.Memory.{chunk_gets_of, contents_of, faults_of, slips_of, width_of}
use Rattle.nc_memory.specs.Moments.{image_of, now_of, past_of}

-- what the clouds tell
abbrev pub clouds : FleetGhosts MemFleet
clouds = record {
  ready = Unit {0};
  clouds = width_of;
  tells = Unit {0};
  held = contents_of;
  faults = faults_of;
  slips = slips_of;
  counts_exactly = Unit {0};
  chunk_gets = chunk_gets_of;
  sure_deletes = ⊥;
  tells_images = Unit {0};
  now = now_of;
  past = past_of;
  image = image_of;
}

-- what the input has left
abbrev pub left_of : MemSource → List ℕ
left_of source = drop source.at source.bytes

abbrev pub input : SourceGhosts MemSource
input = record { left = λ s. Some (left_of s); faults = λ s. s.calls.faults; counts_exactly = Unit {0} }

-- what was written
abbrev pub written_to : MemSink → List ℕ
written_to sink = sink.bytes.items

abbrev pub output : SinkGhosts MemSink
output = record { written = λ s. Some (written_to s); faults = λ s. s.calls.faults; counts_exactly = Unit {0} }
