-- A memory cloud.
use Rattle.std.specs.Prelude.{ℕ, List}
use Rattle.nc_memory.specs.declared.record.Refusal.{Refusal}
use Rattle.nc_memory.specs.declared.mem_cloud.MemCloud.{MemCloud}
use Rattle.nc_cloud.specs.Contents.{Store}
use Rattle.nc_memory.specs.Store.{stored}

abbrev pub stored_of : MemCloud → Store
stored_of cloud = stored cloud.objects.items

abbrev pub refusals_of : MemCloud → List Refusal
refusals_of cloud = cloud.refusals.items

-- how many calls there were
abbrev pub calls_of : MemCloud → ℕ
calls_of cloud = cloud.calls

-- how many gets and puts have failed
abbrev pub faults_of : MemCloud → ℕ
faults_of cloud = cloud.faults

-- how many deletes and lists have failed
abbrev pub slips_of : MemCloud → ℕ
slips_of cloud = cloud.slips

-- how many gets of chunks have given bytes
abbrev pub chunk_gets_of : MemCloud → ℕ
chunk_gets_of cloud = cloud.chunk_gets
