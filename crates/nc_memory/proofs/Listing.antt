-- What a list of a memory fleet promises, however it was served.
use Rattle.std.proofs.Common.{◌≡◌, ℕ, Bool, true, false, List, [], ◌∷◌, refl, sym, ap, ◌∙◌, arith, Result, Ok, Err}
use Rattle.std.specs.Result.{IfOk, IsErrOf, is_ok}
use Rattle.std.proofs.lemmas.List.Elements.{All-cons, All-nil}
use Rattle.nc_name.specs.declared.key.Key.{Key}
use Rattle.nc_cloud.specs.declared.cloud.CloudError.{CloudError}
use Rattle.nc_cloud.specs.declared.cloud.CloudError.TheVariants.{Failed, Memory}
use Rattle.nc_cloud.specs.Cloud.{AreSorted, Lists}
use Rattle.nc_cloud.specs.Contents.{Rose, Store, nothing}
use Rattle.nc_memory.specs.declared.record.Event.TheVariants.{Listed}
use Rattle.nc_memory.specs.declared.memory.MemFleet.{MemFleet}
use Rattle.nc_memory.specs.Record.{contents_after, counted, failed_in, slipped, slipped_in}
use Rattle.nc_memory.specs.Memory.{contents_of, log_of, slips_of, ServesList, TakesList}
use Rattle.nc_memory.specs.Memory.ServesList.{starved, refused, listed}
use Rattle.nc_memory.proofs.PastLaws.{list_only}
use Rattle.nc_memory.proofs.RecordLaws.{held_after_list}
use Rattle.nc_memory.proofs.Serves.{nothing_recorded, round_exact, round_failed, Recorded}

-- a list as an entry: its cloud, and whether it failed
abbrev pub Entry : Type 0
Entry = ℕ × Bool

abbrev pub ListRecorded : (old new : MemFleet) → ℕ → Bool → Type 0
ListRecorded old new cloud failed = Recorded {X = Entry} slipped_in failed_in (λ x. x.0) (λ x. x.1) (λ c. 0) (λ G. G ≡ contents_of old) old new ((cloud, failed) ∷ [])

pub sorted_then : {E : Type 0} (held : Store) (r : Result (List Key) E) → IfOk r (Lists held) → IfOk r AreSorted
sorted_then held (Ok keys) told = told.sorted
sorted_then held (Err e) told = tt

abbrev error_in : Result (List Key) CloudError → CloudError
error_in (Ok keys) = Memory
error_in (Err e) = e

module _ {old new : MemFleet} {cloud : ℕ} where
  taken : (failed : Bool) → TakesList old new cloud failed → ListRecorded old new cloud failed
  taken failed takes = record {
    more = Listed cloud failed ∷ [];
    log = takes.log;
    failed = λ c. refl;
    others = λ c. refl;
    given = λ c. refl;
    only = list_only cloud failed (contents_of old);
  }

  module _ {result : Result (List Key) CloudError} where
    pub list_recorded : ServesList old new cloud result → (failed : Bool) × ListRecorded old new cloud failed
    list_recorded (starved answers same) = (false, nothing_recorded same (All-cons (λ (x : Entry). x.1 ≡ false) (cloud, false) [] refl (All-nil (λ (x : Entry). x.1 ≡ false))) (λ c. refl) refl)
    list_recorded (refused answers by takes) = (true, taken true takes)
    list_recorded (listed answers by takes) = (false, taken false takes)

    pub list_failed : ServesList old new cloud result → IsErrOf result Failed → Rose (slips_of old cloud) (slips_of new cloud)
    list_failed (starved answers same) e = let other : Memory ≡ Failed = sym (ap error_in answers) ∙ ap error_in e in cc
    list_failed (refused answers by takes) e = round_failed (taken true takes) 0 (cloud, true) (omega arith) refl
    list_failed (listed answers by takes) e = let other : false ≡ true = sym (ap is_ok e) ∙ answers in cc

    pub list_exact : ServesList old new cloud result → (c : ℕ) → (c ≡ cloud → IsErrOf result Failed → ⊥) → slips_of new c ≡ slips_of old c
    list_exact (starved answers same) c none = ap (λ es. counted (slipped es c)) same.log
    list_exact (refused answers by takes) c none =
        let Fine : Entry → Type 0 = λ x. x.0 ≡ c → x.1 ≡ false in
        round_exact (taken true takes) c (All-cons Fine (cloud, true) [] (λ here. absurd (none (sym here) answers)) (All-nil Fine))
    list_exact (listed answers by takes) c none =
        let Fine : Entry → Type 0 = λ x. x.0 ≡ c → x.1 ≡ false in
        round_exact (taken false takes) c (All-cons Fine (cloud, false) [] (λ here. refl) (All-nil Fine))

    pub list_held : ServesList old new cloud result → contents_of new ≡ contents_of old
    list_held (starved answers same) = ap (λ es. contents_after es nothing) same.log
    list_held (refused answers by takes) = ap (λ es. contents_after es nothing) takes.log ∙ held_after_list (log_of old) cloud true
    list_held (listed answers by takes) = ap (λ es. contents_after es nothing) takes.log ∙ held_after_list (log_of old) cloud false
