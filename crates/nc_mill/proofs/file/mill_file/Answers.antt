use Rattle.std.proofs.Common.{◌≡◌, List, ℕ, subst}
use Rattle.std.specs.Prelude.{IfOk}
use Rattle.nc_search.specs.Stream.{stream_part}
use Rattle.nc_mill.specs.Mills.{mill_file}
use Rattle.nc_mill.proofs.file.mill_file.Goals as goal

pub returns : goal.returns
unfolding mill_file
returns c = subst (λ (key : List ℕ). IfOk c.stream_of.result (λ file. file ≡ stream_part key 0 8388608)) c.mill_key.ensures c.stream_of.ensures
