-- The file that came back from outside is the one that stands, and no cloud to be restored was asked for it.
use Rattle.std.proofs.Common.{◌≡◌, ◌≢◌, ◌<◌, ℕ, Bool, true, if◌then◌else◌, Option, None, Some, List, sym, ap, ◌∙◌}
use Rattle.nc_cloud.specs.declared.fleet.Fleet.{Ghosts as FleetGhosts}
use Rattle.nc_meta.specs.declared.meta.Live.{Live}
use Rattle.nc_state.specs.Clouds.{Clouds}
use Rattle.nc_state.specs.Right.{PlacesStand}
use Rattle.nc_state.specs.Versions.{IsValidFor}
use Rattle.nc_state.specs.Versions.Version.{Stored}
use Rattle.nc_download.specs.declared.short.Why.{Why}
use Rattle.nc_download.specs.declared.short.Why.TheVariants.{Failed}
use Rattle.nc_fetch.specs.Trying.{IsTried, OnlyFoundFailed, TriedBetween}
use Rattle.nc_fetch.specs.Whys.{why_at}
use Rattle.nc_fetch.proofs.PartLaws.{is_version}
use Rattle.nc_restore.specs.Restoring.{AreUntried, ComesFromOutside, untried}

module _ {A : Type 0} (F : FleetGhosts A) (name : List ℕ) (m : Live) (old new : A) (before whys : List (Option Why)) where
  -- a cloud of P isn't found to have failed
  untried_stays : (P : Clouds) (b c : ℕ) → c < F.clouds old → P c ≡ true → AreUntried (F.clouds old) P before → TriedBetween F name m old new 0 b before whys → why_at whys c ≢ Some Failed
  untried_stays P b c l one marked tried failed =
      let was : why_at before c ≡ Some untried = marked.each c l ∙ ap (λ (x : Bool). if x then Some untried else None) one in
      let out : IsTried before 0 b c → ⊥ = λ t. let no : None ≡ Some untried = sym t.fine ∙ was in cc in
      let no : Some Failed ≡ Some untried = sym failed ∙ tried.same c l out ∙ was in
      absurd cc

  -- so its count of failures stayed
  pub outside_clean : (P : Clouds) (b c : ℕ) → c < F.clouds old → P c ≡ true → AreUntried (F.clouds old) P before → TriedBetween F name m old new 0 b before whys → OnlyFoundFailed F old new whys → F.faults new c ≡ F.faults old c
  outside_clean P b c l one marked tried only = only.each c l (untried_stays P b c l one marked tried)

-- the file is the one that stands
pub file_is : {A : Type 0} (F : FleetGhosts A) (name : List ℕ) (m : Live) (old new : A) (P : Clouds) (file : List ℕ) → ComesFromOutside F name m old new P file → F.tells → (D : Clouds) (v : List ℕ) → IsValidFor (F.clouds old) m v
    → PlacesStand (F.clouds old) (F.held old) D name (Stored m v) → file ≡ v
file_is F name m old new P file comes told D v valid places =
    is_version F name m old new comes.before comes.whys told D v valid places file comes.up_to comes.within comes.tried (λ holds. comes.is_file told v valid.bytes (sym valid.len) holds)
