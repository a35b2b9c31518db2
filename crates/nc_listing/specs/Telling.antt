-- What is told of a list.
use Rattle.std.specs.Prelude.{ℕ, ◌==◌, List, Result, Ok, Err, codes, length, if◌then◌else◌}
use Rattle.nc_name.specs.declared.key.Key.{Key}
use Rattle.nc_cloud.specs.declared.cloud.CloudError.{CloudError}
use Rattle.nc_cloud.specs.declared.cloud.CloudError.TheVariants as error

-- whether a list gave keys, or why it gave none
abbrev pub told : Result (List Key) CloudError → List ℕ
told (Ok keys) = if length keys == 0 then codes "no keys" else codes "keys"
told (Err error.Failed) = codes "failed"
told (Err error.Memory) = codes "no memory"
