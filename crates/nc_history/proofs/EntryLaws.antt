-- What an entry may show, once it was weighed, stepped on from, or read.
use Rattle.std.proofs.Common.{◌≡◌, ◌⊎◌, ℕ, Bool, true, false, not, if◌then◌else◌, Option, None, Some, List, inl, inr, refl, sym, ap, subst}
use Rattle.nc_cloud.specs.Contents.{Contents}
use Rattle.nc_state.specs.Clouds.{Clouds}
use Rattle.nc_state.specs.Entries.{Entry}
use Rattle.nc_state.specs.Entries.Entry.{Rest, Opened}
use Rattle.nc_state.specs.Showing.{ReadsAs}
use Rattle.nc_state.specs.Versions.{Version, value_of}
use Rattle.nc_state.specs.Weighing.{after, all_outside_hold, settled, some_holds, weigh}

-- what an entry may show: of an unfinished step the value of either version
abbrev pub MayShow : Entry → Option (List ℕ) → Type 0
MayShow (Rest x) value = value ≡ value_of x
MayShow (Opened x y) value = (value ≡ value_of x) ⊎ (value ≡ value_of y)

-- ---- an entry that is weighed shows nothing new

step_shows : (some all : Bool) (x y : Version) (shown : Option (List ℕ))
    → MayShow (if not some then Rest x else if all then Rest y else Opened x y) shown → MayShow (Opened x y) shown
step_shows false all x y shown is = inl is
step_shows true true x y shown is = inr is
step_shows true false x y shown may = may

pub weighed_shows : (n : ℕ) (G : Contents) (D : Clouds) (name : List ℕ) (e : Entry) (shown : Option (List ℕ))
    → MayShow (weigh n G D name e) shown → MayShow e shown
weighed_shows n G D name (Rest x) shown is = is
weighed_shows n G D name (Opened x y) shown may = step_shows (some_holds n G name y) (all_outside_hold n G D name y) x y shown may

-- ---- nor does the version that is settled on

either_shows : (b : Bool) (x y : Version) → MayShow (Opened x y) (value_of (if b then y else x))
either_shows true x y = inr refl
either_shows false x y = inl refl

pub settled_shows : (n : ℕ) (F : Contents) (name : List ℕ) (e : Entry) → MayShow e (value_of (settled n F name e))
settled_shows n F name (Rest x) = refl
settled_shows n F name (Opened x y) = either_shows (some_holds n F name y) x y

-- ---- the entry after a command shows what it showed, or the version that was made

either_entry : (b : Bool) (e f : Entry) (shown : Option (List ℕ)) → MayShow (if b then e else f) shown → MayShow e shown ⊎ MayShow f shown
either_entry true e f shown may = inl may
either_entry false e f shown may = inr may

-- a version that was made and has this value
pub record WasMade (made : Option Version) (shown : Option (List ℕ)) : Type 0 where
  pub version : Version
  pub is : made ≡ Some version
  pub value : shown ≡ value_of version

pub after_shows : (n : ℕ) (F G : Contents) (D : Clouds) (name : List ℕ) (e : Entry) (made : Option Version) (shown : Option (List ℕ))
    → MayShow (after n F G D name e made) shown → MayShow e shown ⊎ WasMade made shown
after_shows n F G D name e None shown may = inl (weighed_shows n G D name e shown may)
after_shows n F G D name e (Some y) shown may =
    let x : Version = settled n F name e in
    let old : shown ≡ value_of x → MayShow e shown = λ (is : shown ≡ value_of x). subst (MayShow e) (sym is) (settled_shows n F name e) in
    let step : MayShow (Opened x y) shown → MayShow e shown ⊎ WasMade (Some y) shown = λ (shows : MayShow (Opened x y) shown).
    elim shows [ inl is ↦ inl (old is) | inr is ↦ inr (record { version = y; is = refl; value = is }) ] in
    elim (either_entry (some_holds n G name y) (weigh n G D name (Opened x y)) (weigh n G D name e) shown may) [
      | inl begun ↦ step (weighed_shows n G D name (Opened x y) shown begun)
      | inr not_yet ↦ inl (weighed_shows n G D name e shown not_yet)
    ]

-- ---- what is read

pub read_shows : (n : ℕ) (F : Contents) (X : Clouds) (name : List ℕ) (e : Entry) (z : Version) → ReadsAs n F X name e z → MayShow e (value_of z)
read_shows n F X name (Rest x) z is = ap value_of is
read_shows n F X name (Opened x y) z reads = elim reads.0 [ inl is ↦ inl (ap value_of is) | inr is ↦ inr (ap value_of is) ]
