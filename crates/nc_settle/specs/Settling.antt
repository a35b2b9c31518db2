-- Settling a name: what is refused, and what is written.
use Rattle.std.specs.Prelude.{ℕ, ◌≡◌, ◌<◌, ◌%◌, Bool, false, not, List, length, nat_eq}
use Rattle.nc_name.specs.declared.key.Key.{Key}
use Rattle.nc_name.specs.declared.key.Key.TheVariants as key
use Rattle.nc_meta.specs.declared.meta.Meta.{Meta}
use Rattle.nc_meta.specs.Metas.{generation_of}
use Rattle.nc_cloud.specs.Contents.{Contents, Write}
use Rattle.nc_cloud.specs.Rounds.{some_row}
use Rattle.nc_cloud.specs.Deciding.{IsFirstToRise}
use Rattle.nc_cloud.specs.Stopping.{Keeps}
use Rattle.nc_cloud.specs.declared.fleet.Fleet.{Ghosts as FleetGhosts}
use Rattle.nc_state.specs.Clouds.{Clouds}
use Rattle.nc_state.specs.Holding.{IsDisputed}
use Rattle.nc_settle.specs.declared.place.Place.{Place}
use Rattle.nc_settle.specs.declared.place.Place.TheVariants as place
use Rattle.nc_state.specs.Vaults.{ComesTo, ForEachVault, NothingMade}
use Rattle.nc_settle.specs.declared.settled.Settled.{Settled}
use Rattle.nc_settle.specs.declared.settled.SettleFault.{SettleFault}
use Rattle.nc_settle.specs.declared.settled.SettleFault.TheVariants as fault
use Rattle.nc_settle.specs.Views.{Places, place_at}
use Rattle.nc_settle.specs.Decisions.{IsConflict, IsLeastFailed, IsLeastMisplaced, NoConflict, NoneFailed, NoneMisplaced}
use Rattle.nc_settle.specs.Elsewhere.{LeastMisplaced, NothingMisplaced}
use Rattle.nc_settle.specs.MetaWrites.{meta_write_on, named}

-- all clouds answered, nothing is of elsewhere, and the highest metas agree
pub record SeesOne (v : Places) : Type 0 where
  pub answered : NoneFailed v
  pub nothing_misplaced : NoneMisplaced v
  pub no_conflict : NoConflict v

-- why what was seen isn't settled
abbrev pub SeesFault : Places → SettleFault → Type 0
SeesFault v (fault.Cloud c) = IsLeastFailed v c
SeesFault v (fault.Misplaced c a b) = NoneFailed v × IsLeastMisplaced v c a b
SeesFault v (fault.Conflict g a b) = NoneFailed v × NoneMisplaced v × IsConflict v g a b
SeesFault v fault.Memory = ⊥

-- why what the clouds hold isn't settled
abbrev pub SettleRefuses : ℕ → List ℕ → Contents → SettleFault → Type 0
SettleRefuses n name F (fault.Cloud c) = Unit {0}
SettleRefuses n name F (fault.Misplaced c a b) = LeastMisplaced n name F c a b
SettleRefuses n name F (fault.Conflict g a b) = NothingMisplaced n name F × IsDisputed n F name g a b
SettleRefuses n name F fault.Memory = Unit {0}

-- what clouds hold is told as the fault, so nothing was written
abbrev pub IsSeenFault : SettleFault → Type 0
IsSeenFault (fault.Cloud c) = ⊥
IsSeenFault (fault.Misplaced c a b) = Unit {0}
IsSeenFault (fault.Conflict g a b) = Unit {0}
IsSeenFault fault.Memory = ⊥

-- A cloud is named only where its count rose; where counts are exact, it is the least such cloud, and no count rose where what
-- clouds hold is told.
abbrev pub HasSettleCause : Type 0 → (ℕ → ℕ) → (ℕ → ℕ) → SettleFault → Type 0
HasSettleCause exact before now (fault.Cloud c) = IsFirstToRise exact before now c
HasSettleCause exact before now (fault.Misplaced c a b) = exact → (c : ℕ) → now c ≡ before c
HasSettleCause exact before now (fault.Conflict g a b) = exact → (c : ℕ) → now c ≡ before c
HasSettleCause exact before now fault.Memory = Unit {0}

-- whatever the clouds stood for, at each stop and at the end they stand for it with nothing made
abbrev pub SettleBegins : {A : Type 0} → FleetGhosts A → List ℕ → A → A → Type 0
SettleBegins F name old new = ForEachVault (F.clouds old) (F.held old) (λ V. Keeps F old new (NothingMade (F.clouds old) name V))

-- and then the name is at rest at the version of this meta
abbrev pub SettleComes : {A : Type 0} → FleetGhosts A → List ℕ → A → A → Settled → Type 0
SettleComes F name old new s = ForEachVault (F.clouds old) (F.held old) (λ V. ComesTo (F.clouds old) name V (F.held new) s.top)

-- only metadata of the name changed: no chunk did, and no other name
pub record ChangesOnlyMetas (name : List ℕ) (F G : Contents) : Type 0 where
  pub others : (c : ℕ) (place : Key) → ((slot : ℕ) → place ≡ key.Meta name slot → ⊥) → G c place ≡ F c place

-- ---- which clouds are written to

-- the place has a meta of this generation
abbrev pub has_generation : Place → ℕ → Bool
has_generation (place.Sealed o) g = nat_eq (generation_of o) g
has_generation place.Absent g = false
has_generation place.Broken g = false
has_generation (place.Misplaced a b) g = false
has_generation place.Failed g = false

-- the clouds that were not seen to have a meta of the generation of m
abbrev pub lacks : Places → Meta → Clouds
lacks v m c = not (has_generation (place_at v c (generation_of m % 2)) (generation_of m))

-- the writes of m on these clouds
abbrev pub lacking_writes : ℕ → List ℕ → Places → Meta → List Write
lacking_writes n name v m = some_row (meta_write_on n name m (lacks v m)) 0 n

-- of the first k clouds the table names those
pub record AreLacking (v : Places) (m : Meta) (k : ℕ) (table : List Bool) : Type 0 where
  pub long : length table ≡ 10
  pub each : (c : ℕ) → c < k → named table c ≡ lacks v m c
