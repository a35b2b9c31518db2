-- What a view says of the counts of an act that lists no cloud.
use Rattle.std.proofs.Common.{◌≡◌, ◌≤◌, ◌<◌, ◌||◌, ◌&&◌, ℕ, Bool, true, false, not, List, inl, inr, refl, sym, ap, ◌∙◌, subst, arith}
use Rattle.std.proofs.lemmas.Bool.Decides.{eqb_tells}
use Rattle.nc_cloud.specs.declared.fleet.Fleet.{Ghosts as FleetGhosts}
use Rattle.nc_state.specs.Clouds.{count_of}
use Rattle.nc_settle.specs.Decisions.{HasFailed}
use Rattle.nc_settle.specs.Looking.{OnlyFailuresRose}
use Rattle.nc_settle.specs.Views.{Places}
use Rattle.nc_settle.proofs.Failures.{failed_at, failing_has, failing_is}
use Rattle.nc_settle.specs.Failing.{FewFail, TooManyFail, fails}
use Rattle.nc_download.specs.Finding.{SeenNow}
use Rattle.nc_download.proofs.ViewLaws.{fewer}
use Rattle.nc_words.specs.declared.act.Act.{Act}
use Rattle.nc_vault.specs.Counting.{IsLeastOfMany, failed_in, failing_in, lists, moved, rose}
use Rattle.nc_vault.proofs.OneName.{rose_is}

pub moved_not : (before now : ℕ) → now ≡ before → moved before now ≡ false
moved_not before now same =
    elim (eqb_tells now before) [
      | inl is ↦ ap not is.0
      | inr differ ↦ absurd (differ.1 same)
    ]

-- a cloud whose count changed failed in the view
has_failed : (v : Places) (before now : ℕ → ℕ) (c : ℕ) → OnlyFailuresRose before now v → (b : Bool) → fails v c ≡ b → (moved (before c) (now c) || false) ≡ true → fails v c ≡ true
has_failed v before now c only true is did = is
has_failed v before now c only false is did =
    let same : now c ≡ before c = only.each c (λ slot low failed. let wrong : true ≡ false = sym (failed_at v c slot low failed) ∙ is in absurd cc) in
    let not_moved : moved (before c) (now c) ≡ false = moved_not (before c) (now c) same in
    absurd (let wrong : true ≡ false = sym did ∙ ap (λ (m : Bool). m || false) not_moved in cc)

module _ {A : Type 0} (F : FleetGhosts A) (a : Act) (alone : lists a ≡ false) (old new : A) where
  -- its failed lists don't count
  pub failed_by : (c : ℕ) → failed_in F a old new c ≡ (moved (F.faults old c) (F.faults new c) || false)
  failed_by c = ap (λ (b : Bool). moved (F.faults old c) (F.faults new c) || (b && moved (F.slips old c) (F.slips new c))) alone

  pub failing_by : (c : ℕ) → failing_in F a old new c ≡ (rose (F.faults old c) (F.faults new c) || false)
  failing_by c = ap (λ (b : Bool). rose (F.faults old c) (F.faults new c) || (b && rose (F.slips old c) (F.slips new c))) alone

  pub unmoved : (c : ℕ) → F.faults new c ≡ F.faults old c → failed_in F a old new c ≡ false
  unmoved c same = failed_by c ∙ ap (λ (m : Bool). m || false) (moved_not (F.faults old c) (F.faults new c) same)

  module _ (name : List ℕ) {shows : Places → Type 0} (seen : SeenNow F name old new shows) where
    pub few_failed : FewFail seen.view → F.counts_exactly → count_of (F.clouds old) (failed_in F a old new) ≤ 2
    few_failed few exact =
        let counted : count_of (F.clouds old) (fails seen.view) ≤ 2 = subst (λ (k : ℕ). count_of k (fails seen.view) ≤ 2) seen.width.first few in
        let less : count_of (F.clouds old) (failed_in F a old new) ≤ count_of (F.clouds old) (fails seen.view) =
        fewer (F.clouds old) (failed_in F a old new) (fails seen.view)
        (λ c within did. has_failed seen.view (F.faults old) (F.faults new) c (seen.only exact) (fails seen.view c) refl (sym (failed_by c) ∙ did)) in
        omega (arith, counted, less)

    rose_where : (c : ℕ) → c < F.clouds old → fails seen.view c ≡ true → failing_in F a old new c ≡ true
    rose_where c within did =
        let failed = failing_has seen.view c did in
        failing_by c ∙ rose_is (F.faults old c) (F.faults new c) false (seen.rose.each c failed.slot within failed.in_pair failed.failed)

    pub many_failed : (c : ℕ) → TooManyFail seen.view c → IsLeastOfMany F a old new c
    many_failed c too_many =
        let within : c < F.clouds old = let low = too_many.least.in_width in omega (arith, low, seen.width.first) in
        let many : 3 ≤ count_of (F.clouds old) (fails seen.view) = subst (λ (k : ℕ). 3 ≤ count_of k (fails seen.view)) seen.width.first too_many.many in
        let more : count_of (F.clouds old) (fails seen.view) ≤ count_of (F.clouds old) (failing_in F a old new) =
        fewer (F.clouds old) (fails seen.view) (failing_in F a old new) rose_where in
        record {
          in_width = within;
          failed = rose_where c within (failing_is seen.view c too_many.least.failed);
          many = omega (arith, many, more);
          least = λ exact d low. none_failed (seen.only exact) d (too_many.least.before d low);
        }
      where
        none_failed : OnlyFailuresRose (F.faults old) (F.faults new) seen.view → (d : ℕ) → (HasFailed seen.view d → ⊥) → failed_in F a old new d ≡ false
        none_failed only d not = unmoved d (only.each d (λ slot low failed. not (record { slot = slot; in_pair = low; failed = failed })))
