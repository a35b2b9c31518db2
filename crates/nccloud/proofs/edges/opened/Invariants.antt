use Rattle.std.proofs.Common.{◌≡◌, map, take}
use Rattle.nc_folder.specs.Folder.{path_of}
use Rattle.nccloud.proofs.edges.opened.Given as goal

abbrev pub invariant-loop-path : goal.invariant-loop-path
invariant-loop-path l = map path_of l.clouds.items ≡ map (λ path. path.now) (take l.path-index l.paths)
