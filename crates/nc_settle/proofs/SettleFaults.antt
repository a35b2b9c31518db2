-- Why a name isn't settled.
use Rattle.std.proofs.Common.{◌≡◌, ◌≤◌, ℕ, List}
use Rattle.nc_name.specs.Names.{IsName}
use Rattle.nc_cloud.specs.Contents.{Contents}
use Rattle.nc_settle.specs.declared.settled.SettleFault.{SettleFault}
use Rattle.nc_settle.specs.declared.settled.SettleFault.TheVariants.{Cloud, Misplaced, Conflict, Memory}
use Rattle.nc_settle.specs.Views.{Places}
use Rattle.nc_settle.specs.Looking.{FailuresRose, HasWidth, OnlyFailuresRose, Sees}
use Rattle.nc_settle.specs.Decisions.{NoneFailed}
use Rattle.nc_settle.specs.Settling.{HasSettleCause, SeesFault, SettleRefuses}
use Rattle.nc_settle.proofs.Seen.{all_stay, disputed, least_misplaced_held, least_rose, lower_stay, nothing_misplaced}

pub refused_held : (n : ℕ) (name : List ℕ) (F : Contents) (v : Places) → 4 ≤ n → n ≤ 10 → IsName name → Sees n name F v → HasWidth n v → (fault : SettleFault) → SeesFault v fault → SettleRefuses n name F fault
refused_held n name F v wide narrow valid sees width (Cloud c) is = tt
refused_held n name F v wide narrow valid sees width (Misplaced c a b) is = least_misplaced_held n name F v wide narrow valid sees width.first is.0 c a b is.1
refused_held n name F v wide narrow valid sees width (Conflict g a b) is =
    (nothing_misplaced n name F v wide narrow valid sees width.first is.0 is.1, disputed n name F v wide narrow valid sees width.first is.0 g a b is.2)
refused_held n name F v wide narrow valid sees width Memory is = absurd is

module _ (n : ℕ) (v : Places) (width : HasWidth n v) (exact : Type 0) (before now : ℕ → ℕ) (rose : FailuresRose n before now v) (only : exact → OnlyFailuresRose before now v) where
  -- where no place failed no count changed
  pub seen_clean : NoneFailed v → exact → (c : ℕ) → now c ≡ before c
  seen_clean none told c = all_stay n v width before now (only told) none c

  pub seen_cause : (fault : SettleFault) → SeesFault v fault → HasSettleCause exact before now fault
  seen_cause (Cloud c) is = (least_rose n v width before now rose c is, λ told d l. lower_stay n v width before now (only told) c is d l)
  seen_cause (Misplaced c a b) is = seen_clean is.0
  seen_cause (Conflict g a b) is = seen_clean is.0
  seen_cause Memory is = absurd is
