-- A command on one name, round by round, from the contents F that it began at.
use Rattle.std.specs.Prelude.{ℕ, ◌≡◌, ◌+◌, ◌⊎◌, Option, None, Some, List}
use Rattle.nc_name.specs.Names.{IsName}
use Rattle.nc_meta.specs.declared.meta.Meta.{Meta}
use Rattle.nc_cloud.specs.Contents.{Contents}
use Rattle.nc_state.specs.Clouds.{Clouds}
use Rattle.nc_state.specs.Versions.{Version, IsValid, meta_of, version_generation}
use Rattle.nc_state.specs.Holding.{AllHold, IsSettledOn}
use Rattle.nc_state.specs.Right.{PlacesStand}
use Rattle.nc_state.specs.Entries.{Rests}
use Rattle.nc_state.specs.Entries.Entry.{Rest}
use Rattle.nc_state.specs.Weighing.{after, settled}
use Rattle.nc_state.specs.Standing.{Entries, Stands, with_entry}
use Rattle.nc_state.specs.Rounds.{IsImage, LeavesAtRest, WritesMeta, WritesMissing}

-- the version that a command makes of x, if any: a valid one, of the next generation
abbrev pub IsNext : ℕ → Version → Option Version → Type 0
IsNext n x None = Unit {0}
IsNext n x (Some y) = IsValid n y × (version_generation y ≡ version_generation x + 1)

-- the contents G stand with the name at rest at x, and all clouds hold its meta
pub record RestsAt (n : ℕ) (G : Contents) (S : Entries) (D : Clouds) (name : List ℕ) (x : Version) : Type 0 where
  pub stands : Stands n G (with_entry S name (Rest x)) D
  pub rests : Rests n G D name x
  pub held : AllHold n G name x

-- G stands with the entry of a command on the name that began at F
abbrev pub StandsAfter : ℕ → Contents → Contents → Entries → Clouds → List ℕ → Option Version → Type 0
StandsAfter n F G S D name made = Stands n G (with_entry S name (after n F G D name (S name) made)) D

-- settling: each image of its round stands, and the name is at rest once all clouds hold what was settled
abbrev pub Settling : Type 0
Settling = (n : ℕ) (F G : Contents) (S : Entries) (D : Clouds) (name : List ℕ) (m : Meta) (made : Option Version)
    → IsName name → Stands n F S D → meta_of (settled n F name (S name)) ≡ Some m → IsNext n (settled n F name (S name)) made
    → IsImage n (WritesMissing n F name m) F G
    → StandsAfter n F G S D name made × (AllHold n G name (settled n F name (S name)) → RestsAt n G S D name (settled n F name (S name)))

-- where no cloud holds a meta of the name, there is nothing to settle
abbrev pub NothingToSettle : Type 0
NothingToSettle = (n : ℕ) (F : Contents) (S : Entries) (D : Clouds) (name : List ℕ)
    → IsName name → Stands n F S D → meta_of (settled n F name (S name)) ≡ None → RestsAt n F S D name (settled n F name (S name))

-- rounds of chunks, and tidying, leave it at rest
abbrev pub StaysAtRest : Type 0
StaysAtRest = (n : ℕ) (F G : Contents) (S : Entries) (D : Clouds) (name : List ℕ) (x : Version)
    → IsName name → RestsAt n F S D name x → IsImage n (LeavesAtRest n D name x) F G → RestsAt n G S D name x

-- the round of metas, from H on: each image stands, and the name is at rest at its version once all clouds hold its meta
abbrev pub MetasWritten : Type 0
MetasWritten = (n : ℕ) (F H G : Contents) (S : Entries) (D : Clouds) (name : List ℕ) (y : Version) (m : Meta)
    → IsName name → Stands n F S D → RestsAt n H S D name (settled n F name (S name)) → IsNext n (settled n F name (S name)) (Some y)
    → meta_of y ≡ Some m → PlacesStand n H D name y → IsImage n (WritesMeta n name m) H G
    → StandsAfter n F G S D name (Some y) × (AllHold n G name y → RestsAt n G S D name y)

-- at rest at what was settled, or at the command's version, it stands with the entry of the command
abbrev pub RestsAfter : Type 0
RestsAfter = (n : ℕ) (F G : Contents) (S : Entries) (D : Clouds) (name : List ℕ) (z : Version) (made : Option Version)
    → IsName name → Stands n F S D → RestsAt n G S D name z → IsNext n (settled n F name (S name)) made
    → (z ≡ settled n F name (S name)) ⊎ (made ≡ Some z) → StandsAfter n F G S D name made

-- a command that has done nothing has made no version
abbrev pub NothingMadeYet : Type 0
NothingMadeYet = (n : ℕ) (F : Contents) (S : Entries) (D : Clouds) (name : List ℕ) → IsName name → Stands n F S D → StandsAfter n F F S D name None

-- the metadata that all clouds hold of a name at rest is that of its version
abbrev pub SettledIsTop : Type 0
SettledIsTop = (n : ℕ) (H : Contents) (S : Entries) (D : Clouds) (name : List ℕ) (x : Version) (top : Option Meta)
    → RestsAt n H S D name x → IsSettledOn n H name top → meta_of x ≡ top
