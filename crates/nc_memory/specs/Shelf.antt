-- The objects of all clouds under their sites.
use Rattle.std.specs.Prelude.{ℕ, ◌&&◌, Option, List, [], ◌∷◌, nat_eq, if◌then◌else◌}
use Rattle.std.specs.BTreeMap.{BTreeMap, get}
use Rattle.nc_name.specs.declared.key.Key.{Key}
use Rattle.nc_cloud.specs.Contents.{Contents, key_eq}
use Rattle.nc_memory.specs.declared.record.Damage.{Damage}
use Rattle.nc_memory.specs.declared.record.Step.{Step}
use Rattle.nc_memory.specs.declared.site.Site.{Site}
use Rattle.nc_memory.specs.Record.{fate_in, lost, step_at, step_value}
use Rattle.nc_memory.specs.Sites.{site_cmp}

-- what a shelf says that each cloud holds
abbrev pub shelved : BTreeMap Site (List ℕ) → Contents
shelved shelf c key = get site_cmp shelf (record { cloud = c; key = key })

-- contents with one object changed
abbrev pub set_at : Site → Option (List ℕ) → Contents → Contents
set_at site new F c key = if nat_eq site.cloud c && key_eq site.key key then new else F c key

-- contents after the writes of a round
abbrev pub after_steps : List Step → Contents → Contents
after_steps steps F c key = step_value (step_at steps c) key (F c key)

-- contents after the loss of one object
abbrev pub lost_at : Damage → Site → Contents → Contents
lost_at damage site F = set_at site (lost (fate_in damage site.key) (F site.cloud site.key)) F

-- and of several objects of a cloud, one after the other
abbrev pub lost_each : Damage → ℕ → List Key → Contents → Contents
lost_each damage c [] F = F
lost_each damage c (key ∷ keys) F = lost_each damage c keys (lost_at damage (record { cloud = c; key = key }) F)

-- the keys of those sites that are of a cloud
abbrev pub keys_at : ℕ → List Site → List Key
keys_at c [] = []
keys_at c (s ∷ sites) = if nat_eq s.cloud c then s.key ∷ keys_at c sites else keys_at c sites
