-- A folder's path and counts.
use Rattle.std.specs.Prelude.{ℕ, List}
use Rattle.std.specs.String.{string_bytes}
use Rattle.nc_folder.specs.declared.folder.FolderCloud.{FolderCloud}

-- the bytes of its path
abbrev pub path_of : FolderCloud → List ℕ
path_of folder = string_bytes folder.path

-- how many gets and puts have failed
abbrev pub faults_of : FolderCloud → ℕ
faults_of folder = folder.faults

-- how many deletes and lists have failed
abbrev pub slips_of : FolderCloud → ℕ
slips_of folder = folder.slips

-- how many gets of chunks have given bytes
abbrev pub chunk_gets_of : FolderCloud → ℕ
chunk_gets_of folder = folder.chunk_gets
