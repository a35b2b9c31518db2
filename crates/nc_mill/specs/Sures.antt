-- What clouds in memory tell that never fail.
use Rattle.std.specs.Prelude.{ℕ}
use Rattle.nc_cloud.specs.Contents.{Contents, nothing}
use Rattle.nc_cloud.specs.declared.fleet.Fleet.{Ghosts as FleetGhosts}
use Rattle.nc_memory.specs.Memory.{chunk_gets_of, contents_of, width_of}
use Rattle.nc_mill.specs.declared.sure.Sure.{Sure}

-- how many there are
abbrev pub count_in : Sure → ℕ
count_in clouds = width_of clouds.fleet

-- what they hold
abbrev pub held_by : Sure → Contents
held_by clouds = contents_of clouds.fleet

-- how many gets of chunks gave bytes
abbrev pub chunks_given : Sure → ℕ → ℕ
chunks_given clouds c = chunk_gets_of clouds.fleet c

-- what they tell as a fleet: no count of what failed ever rises
abbrev pub sure_clouds : FleetGhosts Sure
sure_clouds = record {
  ready = Unit {0};
  clouds = count_in;
  tells = Unit {0};
  held = held_by;
  faults = λ _ _. 0;
  slips = λ _ _. 0;
  counts_exactly = ⊥;
  chunk_gets = chunks_given;
  sure_deletes = ⊥;
  tells_images = ⊥;
  now = λ _. 0;
  past = λ _ _. nothing;
  image = λ _ _ _. ⊥;
}
