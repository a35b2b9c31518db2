-- What becomes of an entry when contents change.
use Rattle.std.specs.Prelude.{ℕ, ◌||◌, Bool, not, Option, None, Some, List, if◌then◌else◌}
use Rattle.nc_cloud.specs.Contents.{Contents}
use Rattle.nc_state.specs.Clouds.{Clouds, all_of, any_of}
use Rattle.nc_state.specs.Versions.{Version}
use Rattle.nc_state.specs.Entries.{Entry}
use Rattle.nc_state.specs.Entries.Entry.{Rest, Opened}
use Rattle.nc_state.specs.Holding.{holds}

-- some cloud holds the version's meta
abbrev pub some_holds : ℕ → Contents → List ℕ → Version → Bool
some_holds n F name y = any_of n (holds n F name y)

-- every cloud outside D does
abbrev pub all_outside_hold : ℕ → Contents → Clouds → List ℕ → Version → Bool
all_outside_hold n F D name y = all_of n (λ c. D c || holds n F name y c)

-- an unfinished step is undone where no cloud has heard of it, and done where every cloud outside D has
abbrev pub weigh : ℕ → Contents → Clouds → List ℕ → Entry → Entry
weigh n F D name (Rest x) = Rest x
weigh n F D name (Opened x y) =
    if not (some_holds n F name y) then Rest x
    else if all_outside_hold n F D name y then Rest y
    else Opened x y

-- the version that a command goes on from
abbrev pub settled : ℕ → Contents → List ℕ → Entry → Version
settled n F name (Rest x) = x
settled n F name (Opened x y) = if some_holds n F name y then y else x

-- The entry at the contents G, once a command began at F that would make this version, if any.
abbrev pub after : ℕ → Contents → Contents → Clouds → List ℕ → Entry → Option Version → Entry
after n F G D name e None = weigh n G D name e
after n F G D name e (Some y) =
    if some_holds n G name y then weigh n G D name (Opened (settled n F name e) y) else weigh n G D name e
