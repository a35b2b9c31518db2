-- Where too few clouds are good, more than two are damaged, to be restored or failing.
use Rattle.std.proofs.Common.{◌≡◌, ◌<◌, ◌≤◌, ◌+◌, ◌||◌, ℕ, Bool, true, false, Option, List, Result, IfErr, length, refl, sym, subst, arith}
use Rattle.nc_cloud.specs.declared.deciding.RoundFault.{RoundFault}
use Rattle.nc_cloud.specs.declared.deciding.RoundFault.TheVariants as round
use Rattle.nc_cloud.specs.declared.fleet.Fleet.{Ghosts as FleetGhosts}
use Rattle.nc_cloud.specs.Contents.{Contents, Rose}
use Rattle.nc_meta.specs.declared.meta.Live.{Live}
use Rattle.nc_state.specs.Clouds.{Clouds}
use Rattle.nc_state.specs.Right.{PlacesStand}
use Rattle.nc_state.specs.Showing.{AreBearable, together}
use Rattle.nc_state.specs.Versions.{IsValidFor}
use Rattle.nc_state.specs.Versions.Version.{Stored}
use Rattle.nc_download.specs.declared.short.Bad.{Bad}
use Rattle.nc_download.specs.declared.short.Why.{Why}
use Rattle.nc_fetch.specs.Trying.{TriedBetween}
use Rattle.nc_fetch.specs.Whys.{free}
use Rattle.nc_fetch.proofs.PartLaws.{not_too_few}
use Rattle.nc_restore.specs.declared.fault.RestoreFault.{RestoreFault}
use Rattle.nc_restore.specs.Restoring.{AreUntried, Looked, RestoreDid, TooFewOutside, untried}
use Rattle.nc_restore.specs.Restored.{IfShort, ShortShows}
use Rattle.nc_restore.specs.Asking.{fault_of}
use Rattle.nc_restore.proofs.DoneLaws.{did_err}

-- one of three
first_of : (a b c : Bool) → a ≡ true → ((a || b) || c) ≡ true
first_of true b c e = refl
first_of false b c e = absurd cc

second_of : (a b c : Bool) → b ≡ true → ((a || b) || c) ≡ true
second_of true b c e = refl
second_of false true c e = refl
second_of false false c e = absurd cc

third_of : (a b c : Bool) → c ≡ true → ((a || b) || c) ≡ true
third_of true b c e = refl
third_of false true c e = refl
third_of false false c e = e

module _ {A : Type 0} (F : FleetGhosts A) (name : List ℕ) (m : Live) (P X D : Clouds) (mid new : A) (told : F.tells) (v : List ℕ) (valid : IsValidFor (F.clouds mid) m v) (places : PlacesStand (F.clouds mid) (F.held mid) D name (Stored m v))
    (risen : (c : ℕ) → c < F.clouds mid → Rose (F.faults mid c) (F.faults new c) → X c ≡ true) (before whys : List (Option Why)) (marked : AreUntried (F.clouds mid) P before) (tried : TriedBetween F name m mid new 0 (F.clouds mid) before whys) where
  too_many : length (free whys 0 (F.clouds mid)) + 2 < F.clouds mid → AreBearable (F.clouds mid) (together D P) X → ⊥
  too_many =
      not_too_few F name m mid new before whys told D v valid places untried P (together (together D P) X) (record { each = marked.each }) (λ c l is. second_of (D c) (P c) (X c) is) (λ c l is. first_of (D c) (P c) (X c) is)
      (λ c l rose. third_of (D c) (P c) (X c) (risen c l rose)) tried

module _ {A : Type 0} (F : FleetGhosts A) (name : List ℕ) (m : Live) (P : Clouds) (old new : A) (told : F.tells) where
  short_shows : (list : List Bad) (bad : ℕ → Clouds) (mid : A) → Looked F name m P bad old mid new → TooFewOutside F name m mid new P list → ShortShows F name m P old new
  short_shows list bad mid looked few = record {
    each = λ D v valid places X risen bearable.
        let clouds : F.clouds mid ≡ F.clouds old = looked.judged.looked.clouds in
        let held : F.held mid ≡ F.held old = looked.judged.looked.held in
        too_many F name m P X D mid new told v (subst (λ k. IsValidFor k m v) (sym clouds) valid)
        (subst (λ k. PlacesStand k (F.held mid) D name (Stored m v)) (sym clouds) (subst (λ (H : Contents). PlacesStand (F.clouds old) H D name (Stored m v)) (sym held) places))
        (λ c l rose.
        let low : F.faults old c ≤ F.faults mid c = looked.judged.looked.grows c in
        risen.each c (omega (arith, l, clouds)) (omega (arith, rose, low))) few.before few.whys few.marked few.tried few.few
        (subst (λ k. AreBearable k (together D P) X) (sym clouds) bearable);
  }

  if_short : (Q : List Bad → Type 0) (why : RoundFault) → IfShort Q (fault_of why)
  if_short Q (round.Cloud c) = tt
  if_short Q round.Memory = tt

  pub did_short_show : (result : Result ℕ RestoreFault) → RestoreDid F name m P old new result → IfErr result (IfShort (λ list. ShortShows F name m P old new))
  did_short_show result =
      did_err F name m P old new (IfShort (λ list. ShortShows F name m P old new)) result tt (λ a b same. tt)
      (λ why fails. subst (IfShort (λ list. ShortShows F name m P old new)) (sym fails.is) (if_short (λ list. ShortShows F name m P old new) fails.why)) (λ list bad mid looked few. short_shows list bad mid looked few)
      (λ c bad made. tt)
