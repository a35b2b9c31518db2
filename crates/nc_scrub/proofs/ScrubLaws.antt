-- What isn't right of a name, by a view in which all clouds agree.
use Rattle.std.proofs.Common.{◌≡◌, ◌≤◌, ℕ, None, Some, List, [], subst}
use Rattle.nc_name.specs.Names.{IsName}
use Rattle.nc_meta.specs.declared.meta.Meta.{Meta}
use Rattle.nc_cloud.specs.Contents.{Contents, Grows}
use Rattle.nc_cloud.specs.Deciding.{HasCause, IsFirstToRise}
use Rattle.nc_cloud.specs.declared.deciding.RoundFault.{RoundFault}
use Rattle.nc_cloud.specs.declared.deciding.RoundFault.TheVariants.{Cloud}
use Rattle.nc_cloud.proofs.Counts.{later_round}
use Rattle.nc_settle.specs.Views.{Places}
use Rattle.nc_settle.specs.Looking.{HasWidth, Sees}
use Rattle.nc_settle.specs.Decisions.{SeesNone, SeesTop}
use Rattle.nc_settle.specs.Settling.{SeesOne}
use Rattle.nc_settle.proofs.Seen.{none_held, nothing_misplaced, undisputed}
use Rattle.nc_settle.proofs.SettleWrites.{seen_top}
use Rattle.nc_scrub.specs.declared.flaw.Flaw.{Flaw}
use Rattle.nc_scrub.specs.Flaws.{AreFlaws}
use Rattle.nc_scrub.specs.Tables.{Compares}
use Rattle.nc_scrub.proofs.FlawLaws.{compared_flaws}

module _ (n : ℕ) (name : List ℕ) (F : Contents) (v : Places) (wide : 4 ≤ n) (narrow : n ≤ 10) (valid : IsName name) (sees : Sees n name F v) (width : HasWidth n v) (one : SeesOne v) where
  -- where no metadata was seen
  pub none_scrubbed : SeesNone v → (flaws : List Flaw) → flaws ≡ [] → AreFlaws n name F flaws
  none_scrubbed none flaws empty = record {
    top = None;
    is_top = none_held n name F v wide narrow valid sees width.first one.answered none;
    undisputed = tt;
    nothing_misplaced = nothing_misplaced n name F v wide narrow valid sees width.first one.answered one.nothing_misplaced;
    are = empty;
  }

  -- where some was, and the clouds were compared with the highest
  pub top_scrubbed : (a : ℕ) (m : Meta) → SeesTop v a m → (k : ℕ) (G : Contents) (flaws : List Flaw) → k ≡ n → G ≡ F → Compares k name v m G flaws → AreFlaws n name F flaws
  top_scrubbed a m top k G flaws k_is held compares = record {
    top = Some m;
    is_top = seen_top n name F v wide narrow valid sees width one a m top;
    undisputed = undisputed n name F v wide narrow valid sees width.first one.answered one.no_conflict a m top;
    nothing_misplaced = nothing_misplaced n name F v wide narrow valid sees width.first one.answered one.nothing_misplaced;
    are =
        compared_flaws n name F v wide narrow valid sees width one a m top flaws
        (subst (λ (w : ℕ). Compares w name v m F flaws) k_is (subst (λ (H : Contents). Compares k name v m H flaws) held compares));
  }

-- a cloud that failed in the rounds of chunks, where none failed in the look
pub later_cloud : (exact : Type 0) (before mid now : ℕ → ℕ) → Grows before mid → (exact → (c : ℕ) → mid c ≡ before c) → (c d : ℕ) (fault : RoundFault) → HasCause exact mid now fault → fault ≡ Cloud d → c ≡ d → IsFirstToRise exact before now c
later_cloud exact before mid now grows clean c d fault cause is same =
    let whole : HasCause exact before now fault = later_round exact before mid now grows clean fault cause in
    let there : IsFirstToRise exact before now d = subst (HasCause exact before now) is whole in
    subst (IsFirstToRise exact before now) (let back : d ≡ c = cc in back) there
