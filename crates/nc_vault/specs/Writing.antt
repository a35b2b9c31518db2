-- The parts of an act that writes a version of one name.
use Rattle.std.specs.Prelude.{ℕ, ◌≡◌, Option, List, IfSome}
use Rattle.nc_meta.specs.declared.meta.Meta.{Meta}
use Rattle.nc_meta.specs.Metas.{IsMeta}
use Rattle.nc_cloud.specs.Stopping.{GoesOn, Keeps}
use Rattle.nc_cloud.specs.declared.fleet.Fleet.{Ghosts as FleetGhosts}
use Rattle.nc_settle.specs.declared.settled.SettleFault.{SettleFault}
use Rattle.nc_settle.specs.Settling.{ChangesOnlyMetas, HasSettleCause, IsSeenFault, SettleBegins, SettleRefuses}
use Rattle.nc_state.specs.Holding.{IsSettledOn}
use Rattle.nc_state.specs.Vaults.{ChangesOnlyName, ComesTo, ForEachVault, MayBegin, MayDo}
use Rattle.nc_state.specs.Versions.{Version}
use Rattle.nc_write.specs.Tidying.{LeavesWhatCounts}
use Rattle.nc_vault.specs.Counting.{CountsGrow}
use Rattle.nc_vault.specs.Saying.{IsAgreedTop}

-- The number of clouds is the same, time went on, no count fell, and no chunk was read.
pub record Proceeds {A : Type 0} (F : FleetGhosts A) (old new : A) : Type 0 where
  pub clouds : F.clouds new ≡ F.clouds old
  pub grows : CountsGrow F old new
  pub gets : (c : ℕ) → F.chunk_gets new c ≡ F.chunk_gets old c
  pub time : GoesOn F old new

-- ---- settling

-- what each stop and the end of it leave
pub record Settles {A : Type 0} (F : FleetGhosts A) (name : List ℕ) (old new : A) : Type 0 where
  pub begins : F.tells → SettleBegins F name old new
  pub alone : F.tells → Keeps F old new (ChangesOnlyName name (F.held old))
  pub proceeds : Proceeds F old new

-- it is done: every cloud holds the highest metadata that any held, if any, and the name is at rest
pub record IsSettled {A : Type 0} (F : FleetGhosts A) (name : List ℕ) (old new : A) (top : Option Meta) : Type 0 where
  pub settles : Settles F name old new
  pub agreed : F.tells → IsAgreedTop (F.clouds old) name (F.held old) top
  pub comes : F.tells → ForEachVault (F.clouds old) (F.held old) (λ V. ComesTo (F.clouds old) name V (F.held new) top)
  pub settled : F.tells → IsSettledOn (F.clouds old) (F.held new) name top
  pub chunks : F.tells → ChangesOnlyMetas name (F.held old) (F.held new)
  pub fits : IfSome top (IsMeta (F.clouds old))
  pub clean : F.counts_exactly → (c : ℕ) → F.faults new c ≡ F.faults old c

-- it isn't, for this cause
pub record IsUnsettled {A : Type 0} (F : FleetGhosts A) (name : List ℕ) (old new : A) (cause : SettleFault) : Type 0 where
  pub settles : Settles F name old new
  pub refuses : F.tells → SettleRefuses (F.clouds old) name (F.held old) cause
  pub kept : IsSeenFault cause → F.held new ≡ F.held old
  pub counts : HasSettleCause F.counts_exactly (F.faults old) (F.faults new) cause

-- ---- writing over it

-- what each stop and the end leave of the part that writes a version over this metadata
pub record Writes {A : Type 0} (F : FleetGhosts A) (n : ℕ) (name : List ℕ) (top : Option Meta) (makes : Version → Version → Type 0) (old new : A) : Type 0 where
  pub begins : F.tells → MayBegin F n name top makes old new
  pub alone : F.tells → Keeps F old new (ChangesOnlyName name (F.held old))
  pub proceeds : Proceeds F old new

-- it is done: every cloud holds this metadata, and the name is at rest at the version that was made
pub record IsWritten {A : Type 0} (F : FleetGhosts A) (n : ℕ) (name : List ℕ) (top : Option Meta) (makes : Version → Version → Type 0) (old new : A) (next : Option Meta) : Type 0 where
  pub writes : Writes F n name top makes old new
  pub does : F.tells → MayDo n name top makes (F.held old) (F.held new) next
  pub clean : F.counts_exactly → (c : ℕ) → F.faults new c ≡ F.faults old c

-- ---- and then tidying

-- a name that is settled on this metadata was tidied, or no memory was found for it
pub record Tidies {A : Type 0} (F : FleetGhosts A) (n : ℕ) (name : List ℕ) (top : Option Meta) (old new : A) : Type 0 where
  pub keeps : F.tells → Keeps F old new (LeavesWhatCounts n name top (F.held old))
  pub alone : F.tells → Keeps F old new (ChangesOnlyName name (F.held old))
  pub faults : F.faults new ≡ F.faults old
  pub proceeds : Proceeds F old new
