-- What follows of what a command that writes did.
use Rattle.std.proofs.Common.{◌≡◌, ◌≤◌, ◌+◌, ◌-◌, ◌^◌, ℕ, Option, None, Some, List, Result, Ok, Err, IfErr, IfOk, OnOk, refl, sym, ◌∙◌, subst, arith, inl}
use Rattle.nc_name.specs.Names.{IsName}
use Rattle.nc_meta.specs.declared.meta.Meta.{Meta}
use Rattle.nc_meta.specs.Parts.{IsGeneration}
use Rattle.nc_cloud.specs.declared.deciding.RoundFault.{RoundFault}
use Rattle.nc_cloud.specs.declared.deciding.RoundFault.TheVariants as round
use Rattle.nc_cloud.specs.declared.fleet.Fleet.{Ghosts as FleetGhosts}
use Rattle.nc_cloud.specs.Contents.{Contents, Grows, Write}
use Rattle.nc_cloud.specs.Deciding.{HasCause}
use Rattle.nc_cloud.specs.Stopping.{GoesOn, Keeps}
use Rattle.nc_cloud.proofs.Time.{goes_none, keeps_none}
use Rattle.nc_settle.specs.declared.settled.Settled.{Settled}
use Rattle.nc_state.specs.Holding.{top_generation}
use Rattle.nc_state.specs.Vaults.{BeginsMaking, ChangesOnlyName, ComesTo, MayBegin, Vault, version_in}
use Rattle.nc_state.specs.Versions.{Version}
use Rattle.nc_state.proofs.Alone.{alone_none}
use Rattle.nc_state.proofs.CommandLaws.{rests_after}
use Rattle.nc_write.specs.declared.fault.WriteFault.{WriteFault}
use Rattle.nc_write.specs.declared.fault.WriteFault.TheVariants as fault
use Rattle.nc_write.specs.Doing.{HasWriteCause, IsWorn, WriteDid, answer_by}
use Rattle.nc_write.specs.Doing.WriteDid.{was_worn, unprepared, in_turn}
use Rattle.nc_write.specs.InTurn.{WroteInTurn}
use Rattle.nc_write.proofs.InTurnLaws.{AllOfName, RoundsKeep, rounds_alone, rounds_keep}

-- after a generation that has a next one
pub has_next : (top : Option Meta) (before next : ℕ) → before ≡ top_generation top → next ≡ before + 1 → IsGeneration next → IsWorn top → ⊥
has_next top before next is more last worn = let high : next ≤ 2 ^ 64 - 2 = last.1 in absurd (omega (arith, is, more, high, worn))

-- ---- nothing was done

pub unmade : (n : ℕ) (name : List ℕ) (makes : Version → Version → Type 0) (top : Option Meta) (V : Vault) (H : Contents) → IsName name → ComesTo n name V H top → BeginsMaking n name makes V H
unmade n name makes top V H is comes = record {
  made = None;
  makes_it = tt;
  stands = rests_after n V.contents H V.entries V.damaged name (version_in n V name) None is comes.stands comes.rests tt (inl refl);
}

-- ---- answers

-- what holds where the rounds were Ok
pub if_made : (P : Settled → Type 0) (m : Meta) (answer : Result (Unit {0}) RoundFault) → (answer ≡ Ok tt → P (record { top = Some m })) → IfOk (answer_by m answer) P
if_made P m (Ok done) made = made refl
if_made P m (Err (round.Cloud c)) made = tt
if_made P m (Err round.Memory) made = tt

pub on_made : (T : Type 0) (m : Meta) (answer : Result (Unit {0}) RoundFault) → (answer ≡ Ok tt → T) → OnOk (answer_by m answer) T
on_made T m (Ok done) made = made refl
on_made T m (Err (round.Cloud c)) made = tt
on_made T m (Err round.Memory) made = tt

if_fault : (exact : Type 0) (before now : ℕ → ℕ) (m : Meta) (answer : Result (Unit {0}) RoundFault) → IfErr answer (HasCause exact before now) → IfErr (answer_by m answer) (HasWriteCause exact before now)
if_fault exact before now m (Ok done) cause = tt
if_fault exact before now m (Err (round.Cloud c)) cause = cause
if_fault exact before now m (Err round.Memory) cause = tt

not_worn_by : (m : Meta) (answer : Result (Unit {0}) RoundFault) → answer_by m answer ≡ Err fault.Worn → ⊥
not_worn_by m (Ok done) e = absurd cc
not_worn_by m (Err (round.Cloud c)) e = absurd cc
not_worn_by m (Err round.Memory) e = absurd cc

-- ---- what the command did

-- what it leaves as it is, and what it only lets grow
pub record WriteKeeps {A : Type 0} (F : FleetGhosts A) (old new : A) (result : Result Settled WriteFault) : Type 0 where
  pub cause : IfErr result (HasWriteCause F.counts_exactly (F.faults old) (F.faults new))
  pub clean : F.counts_exactly → OnOk result ((c : ℕ) → F.faults new c ≡ F.faults old c)
  pub clouds : F.clouds new ≡ F.clouds old
  pub grows : Grows (F.faults old) (F.faults new)
  pub slips : F.slips new ≡ F.slips old
  pub gets : F.chunk_gets new ≡ F.chunk_gets old
  pub time : GoesOn F old new

pub by_answer : (P : Result Settled WriteFault → Type 0) {result r : Result Settled WriteFault} → result ≡ r → P r → P result
by_answer P is p = subst P (sym is) p

module _ {A : Type 0} (F : FleetGhosts A) where
  -- nothing was done
  pub begins_none : (n : ℕ) (name : List ℕ) (top : Option Meta) (makes : Version → Version → Type 0) (old new : A) → IsName name → new ≡ old → MayBegin F n name top makes old new
  begins_none n name top makes old new is_name same =
      subst (λ (e : A). MayBegin F n name top makes old e) (sym same)
      (record { each = λ V comes. keeps_none old (BeginsMaking n name makes V) (unmade n name makes top V (F.held old) is_name comes) })

  alone_same : (name : List ℕ) (old new : A) → new ≡ old → Keeps F old new (ChangesOnlyName name (F.held old))
  alone_same name old new same = subst (λ (e : A). Keeps F old e (ChangesOnlyName name (F.held old))) (sym same) (alone_none F name old)

  -- for a cause that isn't a cloud
  keep_same : (old new : A) (result : Result Settled WriteFault) (e : WriteFault) → HasWriteCause F.counts_exactly (F.faults old) (F.faults old) e → new ≡ old → result ≡ Err e → WriteKeeps F old new result
  keep_same old new result e cause same is =
      subst (λ (k : A). WriteKeeps F old k result) (sym same)
      (by_answer (λ r. WriteKeeps F old old r) is
      (record { cause = cause; clean = λ exact. tt; clouds = refl; grows = λ c. omega arith; slips = refl; gets = refl; time = goes_none old }))

module _ {A : Type 0} {F : FleetGhosts A} {top : Option Meta} {Prepares : Meta → List (List Write) → Type 0} {old new : A} {result : Result Settled WriteFault} where
  -- what its rounds bring about, where it is done
  pub did_ok : (P : Settled → Type 0) → ((m : Meta) (rounds : List (List Write)) (answer : Result (Unit {0}) RoundFault) → Prepares m rounds → WroteInTurn F rounds old new answer → answer ≡ Ok tt → P (record { top = Some m }))
      → WriteDid F top Prepares old new result → IfOk result P
  did_ok P each (was_worn worn same is) = by_answer (λ r. IfOk r P) is tt
  did_ok P each (unprepared more same is) = by_answer (λ r. IfOk r P) is tt
  did_ok P each (in_turn more m rounds answer of turn is) = by_answer (λ r. IfOk r P) is (if_made P m answer (λ ok. each m rounds answer of turn ok))

  pub did_on_ok : (T : Type 0) → ((m : Meta) (rounds : List (List Write)) (answer : Result (Unit {0}) RoundFault) → Prepares m rounds → WroteInTurn F rounds old new answer → answer ≡ Ok tt → T)
      → WriteDid F top Prepares old new result → OnOk result T
  did_on_ok T each (was_worn worn same is) = by_answer (λ r. OnOk r T) is tt
  did_on_ok T each (unprepared more same is) = by_answer (λ r. OnOk r T) is tt
  did_on_ok T each (in_turn more m rounds answer of turn is) = by_answer (λ r. OnOk r T) is (on_made T m answer (λ ok. each m rounds answer of turn ok))

  -- what each stop leaves
  pub did_begin : (n : ℕ) (name : List ℕ) (makes : Version → Version → Type 0) → IsName name
      → ((m : Meta) (rounds : List (List Write)) (answer : Result (Unit {0}) RoundFault) → Prepares m rounds → WroteInTurn F rounds old new answer
      → (V : Vault) → ComesTo n name V (F.held old) top → Keeps F old new (BeginsMaking n name makes V))
      → WriteDid F top Prepares old new result → MayBegin F n name top makes old new
  did_begin n name makes is_name each (was_worn worn same is) = begins_none F n name top makes old new is_name same
  did_begin n name makes is_name each (unprepared more same is) = begins_none F n name top makes old new is_name same
  did_begin n name makes is_name each (in_turn more m rounds answer of turn is) = record { each = λ V comes. each m rounds answer of turn V comes }

  pub did_alone : F.tells → (name : List ℕ) → ((m : Meta) (rounds : List (List Write)) → Prepares m rounds → AllOfName name rounds) → WriteDid F top Prepares old new result
      → Keeps F old new (ChangesOnlyName name (F.held old))
  did_alone told name each (was_worn worn same is) = alone_same F name old new same
  did_alone told name each (unprepared more same is) = alone_same F name old new same
  did_alone told name each (in_turn more m rounds answer of turn is) = rounds_alone F name told rounds old new answer (each m rounds of) turn

  pub did_keep : WriteDid F top Prepares old new result → WriteKeeps F old new result
  did_keep (was_worn worn same is) = keep_same F old new result fault.Worn tt same is
  did_keep (unprepared more same is) = keep_same F old new result fault.Memory tt same is
  did_keep (in_turn more m rounds answer of turn is) =
      let kept : RoundsKeep F old new answer = rounds_keep rounds old new answer turn in
      by_answer (λ r. WriteKeeps F old new r) is
      (record {
        cause = if_fault F.counts_exactly (F.faults old) (F.faults new) m answer kept.counts.cause;
        clean = λ exact. on_made ((c : ℕ) → F.faults new c ≡ F.faults old c) m answer (λ ok. subst (λ (r : Result (Unit {0}) RoundFault). OnOk r ((c : ℕ) → F.faults new c ≡ F.faults old c)) ok (kept.counts.clean exact));
        clouds = kept.clouds;
        grows = kept.grows;
        slips = kept.slips;
        gets = kept.gets;
        time = kept.time;
      })

  pub did_worn : WriteDid F top Prepares old new result → IsWorn top → (result ≡ Err fault.Worn) × (new ≡ old)
  did_worn (was_worn worn same is) at = (is, same)
  did_worn (unprepared more same is) at = absurd (more at)
  did_worn (in_turn more m rounds answer of turn is) at = absurd (more at)

  pub did_not_worn : WriteDid F top Prepares old new result → result ≡ Err fault.Worn → IsWorn top
  did_not_worn (was_worn worn same is) e = worn
  did_not_worn (unprepared more same is) e = let wrong : Err fault.Memory ≡ Err fault.Worn = sym is ∙ e in absurd cc
  did_not_worn (in_turn more m rounds answer of turn is) e = absurd (not_worn_by m answer (sym is ∙ e))
