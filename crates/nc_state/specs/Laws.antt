-- The laws of what stands.
use Rattle.std.specs.Prelude.{ℕ, ◌≡◌, ◌≢◌, ◌<◌, ◌≤◌, ◌↔◌, ◌⊎◌, false, Contains, Option, Some, List}
use Rattle.nc_name.specs.declared.key.Key.TheVariants as key
use Rattle.nc_name.specs.Names.{IsName}
use Rattle.nc_name.specs.Keys.{key_text}
use Rattle.nc_frame.specs.Frames.{Sealed}
use Rattle.nc_meta.specs.declared.meta.Meta.{Meta}
use Rattle.nc_meta.specs.Metas.{Spells}
use Rattle.nc_cloud.specs.Contents.{Contents, Write, nothing}
use Rattle.nc_cloud.specs.Images.{Image}
use Rattle.nc_state.specs.Clouds.{Clouds, count_of, no_cloud, with_cloud, without_cloud}
use Rattle.nc_state.specs.Versions.Version.{Never}
use Rattle.nc_state.specs.Versions.{Version}
use Rattle.nc_state.specs.Holding.{Holds, HoldsSealed, IsDisputed, IsTopOrNone, meta_key, meta_object}
use Rattle.nc_state.specs.Entries.{Entry, HasEntry, Rests}
use Rattle.nc_state.specs.Entries.Entry.{Rest, Opened}
use Rattle.nc_state.specs.Weighing.{after, settled}
use Rattle.nc_state.specs.Showing.{AreBearable, IsSeenTop, IsSettledTop, IsShown, ReadsAs, UnlistedOutside}
use Rattle.nc_state.specs.Standing.{AreNames, Entries, IsHealed, Stands, no_entry}
use Rattle.nc_state.specs.Commands.{IsNext}
use Rattle.nc_state.specs.Losses.{Loses, weighed}
use Rattle.nc_state.specs.Rounds.{IsEntry, IsImage}

-- clouds without objects stand for no names, and nothing is damaged
abbrev pub EmptyStands : Type 0
EmptyStands = (n : ℕ) → 4 ≤ n → n ≤ 10 → Stands n nothing no_entry no_cloud

-- to hold a meta is to hold its sealed payload
abbrev pub HeldIsSealed : Type 0
HeldIsSealed = (n : ℕ) (F : Contents) (name : List ℕ) (c : ℕ) (m : Meta) → 4 ≤ n → n ≤ 10 → IsName name → c < n → Holds n F name c m ↔ HoldsSealed n F name c m

-- what is sealed under the key of a meta, with its payload, is the object of the meta
abbrev pub SealedIsObject : Type 0
SealedIsObject = (n : ℕ) (name : List ℕ) (c : ℕ) (m : Meta) (bytes payload : List ℕ)
    → Spells n payload m → Sealed bytes c n (key_text (meta_key name m)) payload → bytes ≡ meta_object n name c m

-- what a round, or a stop within it, leaves is an image of its entries
abbrev pub RoundIsImage : Type 0
RoundIsImage = (n : ℕ) (ps : List Write) (F G : Contents) → Image ps F G → IsImage n (IsEntry ps) F G

-- a loss keeps what stands, where at most two clouds are damaged then
abbrev pub LossKeeps : Type 0
LossKeeps = (n lost : ℕ) (F G : Contents) (S : Entries) (D : Clouds) → Stands n F S D → Loses lost F G → count_of n (with_cloud D lost) ≤ 2
    → Stands n G (weighed n G (with_cloud D lost) S) (with_cloud D lost)

-- ---- what is seen

-- while damaged and failing clouds are at most two together, what is seen is shown
abbrev pub SeenIsShown : Type 0
SeenIsShown = (n : ℕ) (F : Contents) (S : Entries) (D X : Clouds) (name : List ℕ) (top : Option Meta)
    → IsName name → Stands n F S D → AreBearable n D X → IsSeenTop n F X name top → IsShown n F D X name (S name) top

-- a name of which no cloud that answered holds an object shows that it was never stored
abbrev pub UnlistedIsShown : Type 0
UnlistedIsShown = (n : ℕ) (F : Contents) (S : Entries) (D X : Clouds) (name : List ℕ)
    → IsName name → Stands n F S D → AreBearable n D X → UnlistedOutside n F X name → ReadsAs n F X name (S name) Never

-- the highest metadata that clouds hold is that of the version that is settled on, which is shown
abbrev pub TopIsShown : Type 0
TopIsShown = (n : ℕ) (F : Contents) (S : Entries) (D : Clouds) (name : List ℕ) (top : Option Meta)
    → IsName name → Stands n F S D → IsTopOrNone n F name top → IsSettledTop n F D name (S name) top

-- no two metas of the highest generation differ
abbrev pub NoneDisputed : Type 0
NoneDisputed = (n : ℕ) (F : Contents) (S : Entries) (D : Clouds) (name : List ℕ) (generation a b : ℕ)
    → IsName name → Stands n F S D → IsDisputed n F name generation a b → ⊥

-- no frame of another cloud or width stands under a key of metadata
abbrev pub NoneMisplaced : Type 0
NoneMisplaced = (n : ℕ) (F : Contents) (S : Entries) (D : Clouds) (name : List ℕ) (c slot a w : ℕ) (bytes text payload : List ℕ)
    → IsName name → Stands n F S D → c < n → F c (key.Meta name slot) ≡ Some bytes → Sealed bytes a w text payload → (a ≡ c) × (w ≡ n)

-- ---- entries, and the entry after a command

-- an unfinished step is settled on its second version
abbrev pub StepSettlesOn : Type 0
StepSettlesOn = (n : ℕ) (F : Contents) (D : Clouds) (name : List ℕ) (x y : Version) → HasEntry n F D name (Opened x y) → settled n F name (Opened x y) ≡ y

-- while the entry stands as it was, the command's version isn't begun
abbrev pub NotBegun : Type 0
NotBegun = (n : ℕ) (F G : Contents) (D : Clouds) (name : List ℕ) (e : Entry) (made : Option Version)
    → HasEntry n F D name e → HasEntry n G D name e → IsNext n (settled n F name e) made → after n F G D name e made ≡ e

-- at rest at what was settled, or at the version that the command makes, this is the entry after the command
abbrev pub AtRestIsAfter : Type 0
AtRestIsAfter = (n : ℕ) (F G : Contents) (D : Clouds) (name : List ℕ) (e : Entry) (z : Version) (made : Option Version)
    → 4 ≤ n → count_of n D ≤ 2 → HasEntry n F D name e → Rests n G D name z → IsNext n (settled n F name e) made
    → (z ≡ settled n F name e) ⊎ (made ≡ Some z) → after n F G D name e made ≡ Rest z

-- entries count by name alone
abbrev pub EntriesAgree : Type 0
EntriesAgree = (n : ℕ) (F : Contents) (S T : Entries) (D : Clouds) → Stands n F S D → ((name : List ℕ) → IsName name → S name ≡ T name) → Stands n F T D

-- at most two clouds are damaged: two numbers, outside which none is
abbrev pub TwoAtMost : Type 0
TwoAtMost = (n : ℕ) (D : Clouds) → count_of n D ≤ 2 → (a b : ℕ) × ((c : ℕ) → c < n → c ≢ a → c ≢ b → D c ≡ false)

-- ---- whole vaults

-- a name of which no cloud holds an object rests at Never
abbrev pub UnlistedRests : Type 0
UnlistedRests = (n : ℕ) (F : Contents) (S : Entries) (D : Clouds) (names : List (List ℕ)) (name : List ℕ)
    → Stands n F S D → AreNames n F names → IsName name → (Contains names name → ⊥) → S name ≡ Rest Never

-- a cloud that holds the meta of each name's version, and its chunks right, is damaged no more
abbrev pub HealedStands : Type 0
HealedStands = (n i : ℕ) (F : Contents) (S : Entries) (D : Clouds)
    → Stands n F S D → ((name : List ℕ) → IsName name → IsHealed n F i name (S name)) → Stands n F S (without_cloud D i)
