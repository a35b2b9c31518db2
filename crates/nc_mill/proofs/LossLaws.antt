-- What the loss of one cloud leaves.
use Rattle.std.proofs.Common.{◌≡◌, ◌∙◌, ◌+◌, ◌≤◌, ◌==◌, ℕ, zero, suc, Bool, true, false, if◌then◌else◌, inl, inr, refl, sym, ap, subst, arith, None}
use Rattle.std.proofs.lemmas.Bool.{eqb-true}
use Rattle.std.proofs.lemmas.Bool.Decides.{eqb_tells}
use Rattle.nc_cloud.specs.Contents.{Contents}
use Rattle.nc_state.specs.Clouds.{Clouds, count_of, no_cloud, with_cloud}
use Rattle.nc_state.specs.Losses.{Loses}
use Rattle.nc_state.specs.Standing.{Entries}
use Rattle.nc_state.specs.Weighing.{weigh}
use Rattle.nc_write.specs.Putting.{put_meta}
use Rattle.nc_history.specs.Histories.{StandsHappened}
use Rattle.nc_history.specs.Histories.Happening.{Lost}
use Rattle.nc_history.proofs.LossLaws.{loss_leads}
use Rattle.nc_mill.specs.declared.job.Job.{Job}
use Rattle.nc_mill.specs.Mills.{mill_name}
use Rattle.nc_mill.specs.Stages.{KeepsFile, StoresFile}

-- ---- one cloud is few

none_more : (b : Bool) (rest : ℕ) → b ≡ false → rest ≡ 0 → (if b then 1 else 0) + rest ≡ 0
none_more true rest is none = absurd cc
none_more false rest is none = omega (arith, none)

none_below : (n lost : ℕ) → n ≤ lost → count_of n (with_cloud no_cloud lost) ≡ 0
none_below zero lost below = refl
none_below (suc n) lost below =
    elim (eqb_tells n lost) [
      | inl here ↦ absurd (omega (arith, here.1, below))
      | inr other ↦ none_more (n == lost) (count_of n (with_cloud no_cloud lost)) other.0 (none_below n lost (omega (arith, below)))
    ]

one_more : (b : Bool) (rest : ℕ) → (b ≡ true → rest ≡ 0) → rest ≤ 1 → (if b then 1 else 0) + rest ≤ 1
one_more true rest none few = let is : rest ≡ 0 = none refl in omega (arith, is)
one_more false rest none few = omega (arith, few)

at_most_one : (n lost : ℕ) → count_of n (with_cloud no_cloud lost) ≤ 1
at_most_one zero lost = omega arith
at_most_one (suc n) lost =
    one_more (n == lost) (count_of n (with_cloud no_cloud lost))
    (λ is. none_below n lost (let here : n ≡ lost = eqb-true n lost is in omega (arith, here)))
    (at_most_one n lost)

-- ---- the file is still stored

pub loss_stores : (job : Job) (F G : Contents) → StoresFile job no_cloud F → Loses job.lost F G → StoresFile job (with_cloud no_cloud job.lost) G
loss_stores job F G k loses =
    let n : ℕ = job.width in
    let lost : ℕ = job.lost in
    let one : count_of n (with_cloud no_cloud lost) ≤ 1 = at_most_one n lost in
    let few : count_of n (with_cloud k.vault.damaged lost) ≤ 2 = subst (λ (D : Clouds). count_of n (with_cloud D lost) ≤ 2) (sym k.damaged) (omega (arith, one)) in
    let led : StandsHappened n (Lost lost) k.vault G =
    loss_leads n lost k.vault G k.stands (subst (λ (H : Contents). Loses lost H G) (sym k.contents) loses) few in
    record {
      index = k.index;
      good = k.good;
      drawn = k.drawn;
      vault = led.vault;
      contents = led.contents;
      stands = led.stands;
      damaged = led.happens.damaged ∙ ap (λ (D : Clouds). with_cloud D lost) k.damaged;
      file = ap (λ (S : Entries). S mill_name) led.happens.entries ∙ ap (weigh n led.vault.contents led.vault.damaged mill_name) k.file;
      others = λ name other. ap (λ (S : Entries). S name) led.happens.entries ∙ ap (weigh n led.vault.contents led.vault.damaged name) (k.others name other);
    }

-- clouds on which it is stored keep it, and so do clouds that hold the same
pub stores_keeps : (job : Job) (D : Clouds) (F G : Contents) → G ≡ F → StoresFile job D F → KeepsFile job G
stores_keeps job D F G same k = record { vault = k.vault; contents = k.contents ∙ sym same; stands = k.stands; meta = put_meta job.width None k.good job.file; file = k.file }

pub stores_same : (job : Job) (D : Clouds) (F G : Contents) → G ≡ F → StoresFile job D F → StoresFile job D G
stores_same job D F G same k = subst (StoresFile job D) (sym same) k
