-- What rounds of writes, one after the other, say of the counts and of the contents.
use Rattle.std.proofs.Common.{◌≡◌, ◌≤◌, ℕ, List, [], ◌∷◌, Result, Ok, Err, refl, sym, ◌∙◌, subst, arith}
use Rattle.nc_cloud.specs.declared.fleet.Job.{Job}
use Rattle.nc_cloud.specs.declared.deciding.RoundFault.{RoundFault}
use Rattle.nc_cloud.specs.declared.deciding.RoundFault.TheVariants as round
use Rattle.nc_cloud.specs.declared.fleet.Fleet.{Ghosts as FleetGhosts}
use Rattle.nc_cloud.specs.Contents.{Grows, Rose, Write}
use Rattle.nc_cloud.specs.Deciding.{HasCause, TellsCounts, Wrote}
use Rattle.nc_cloud.specs.Stopping.{GoesOn, Keeps}
use Rattle.nc_cloud.proofs.Time.{goes_none, goes_then}
use Rattle.nc_state.specs.Vaults.{ChangesOnlyName}
use Rattle.nc_state.proofs.Alone.{AreOfName, alone_none, alone_round, alone_then}
use Rattle.nc_write.specs.InTurn.{AfterRound, WroteInTurn}

-- what rounds leave as it is, and what they only let grow
pub record RoundsKeep {A : Type 0} (F : FleetGhosts A) (old new : A) (result : Result (Unit {0}) RoundFault) : Type 0 where
  pub counts : TellsCounts F old new result
  pub clouds : F.clouds new ≡ F.clouds old
  pub grows : Grows (F.faults old) (F.faults new)
  pub slips : F.slips new ≡ F.slips old
  pub gets : F.chunk_gets new ≡ F.chunk_gets old
  pub time : GoesOn F old new

rose_later : (before mid now : ℕ) → before ≤ mid → Rose mid now → Rose before now
rose_later before mid now low rose = omega (arith, low, rose)

-- a later round's cause is one from the first on, where the first changed no exact count
cause_later : (exact : Type 0) (before mid now : ℕ → ℕ) → Grows before mid → (exact → (c : ℕ) → mid c ≡ before c) → (fault : RoundFault) → HasCause exact mid now fault → HasCause exact before now fault
cause_later exact before mid now grows clean (round.Cloud c) is =
    (rose_later (before c) (mid c) (now c) (grows c) is.0, λ told d below. is.1 told d below ∙ clean told d)
cause_later exact before mid now grows clean round.Memory is = tt

module _ {A : Type 0} {F : FleetGhosts A} where
  counts_later : {old mid new : A} (result : Result (Unit {0}) RoundFault) → Grows (F.faults old) (F.faults mid) → (F.counts_exactly → (c : ℕ) → F.faults mid c ≡ F.faults old c)
      → TellsCounts F mid new result → TellsCounts F old new result
  counts_later (Ok done) grows clean later = record { cause = tt; clean = λ exact c. later.clean exact c ∙ clean exact c }
  counts_later {old} {mid} {new} (Err fault) grows clean later = record {
    cause = cause_later F.counts_exactly (F.faults old) (F.faults mid) (F.faults new) grows clean fault later.cause;
    clean = λ exact. tt;
  }

  -- nothing was done
  keep_none : {old new : A} (result : Result (Unit {0}) RoundFault) → new ≡ old → result ≡ Ok tt → RoundsKeep F old new result
  keep_none {old} result same is =
      subst (λ (e : A). RoundsKeep F old e result) (sym same)
      (subst (λ (r : Result (Unit {0}) RoundFault). RoundsKeep F old old r) (sym is)
      (record { counts = record { cause = tt; clean = λ exact c. refl }; clouds = refl; grows = λ c. omega arith; slips = refl; gets = refl; time = goes_none old }))

  of_round : {ps : List Write} {ended : List Job} {old mid : A} {answer : Result (Unit {0}) RoundFault} → Wrote F ps ended old mid answer → RoundsKeep F old mid answer
  of_round w = record { counts = w.counts; clouds = w.clouds; grows = w.grows; slips = w.slips; gets = w.gets; time = w.time }

  -- one round, and the rest by its answer
  keep_first : {old mid new : A} (rest : Type 0) (result answer : Result (Unit {0}) RoundFault) → RoundsKeep F old mid answer → AfterRound answer rest mid new result
      → (rest → RoundsKeep F mid new result) → RoundsKeep F old new result
  keep_first {old} {mid} {new} rest result (Ok done) first then rests =
      let later : RoundsKeep F mid new result = rests then in
      record {
        counts = counts_later result first.grows first.counts.clean later.counts;
        clouds = later.clouds ∙ first.clouds;
        grows = λ c. let low : F.faults old c ≤ F.faults mid c = first.grows c in let high : F.faults mid c ≤ F.faults new c = later.grows c in omega (arith, low, high);
        slips = later.slips ∙ first.slips;
        gets = later.gets ∙ first.gets;
        time = goes_then first.time later.time;
      }
  keep_first {old} {mid} {new} rest result (Err fault) first then rests =
      subst (λ (e : A). RoundsKeep F old e result) (sym then.0) (subst (λ (r : Result (Unit {0}) RoundFault). RoundsKeep F old mid r) (sym then.1) first)

  pub rounds_keep : (rounds : List (List Write)) (old new : A) (result : Result (Unit {0}) RoundFault) → WroteInTurn F rounds old new result → RoundsKeep F old new result
  rounds_keep [] old new result turn = keep_none result turn.0 turn.1
  rounds_keep (ps ∷ rounds) old new result turn =
      keep_first (WroteInTurn F rounds turn.mid new result) result turn.answer (of_round turn.wrote) turn.then (λ rest. rounds_keep rounds turn.mid new result rest)

-- ---- one round

one_after : {A : Type 0} {F : FleetGhosts A} {ps : List Write} {ended : List Job} {old mid new : A} (result answer : Result (Unit {0}) RoundFault) → Wrote F ps ended old mid answer
    → AfterRound answer ((new ≡ mid) × (result ≡ Ok tt)) mid new result → Wrote F ps ended old new result
one_after {F = F} {ps = ps} {ended = ended} {old = old} {mid = mid} {new = new} result (Ok done) wrote then =
    subst (λ e. Wrote F ps ended old e result) (sym then.0) (subst (λ (r : Result (Unit {0}) RoundFault). Wrote F ps ended old mid r) (sym then.1) wrote)
one_after {F = F} {ps = ps} {ended = ended} {old = old} {mid = mid} {new = new} result (Err fault) wrote then =
    subst (λ e. Wrote F ps ended old e result) (sym then.0) (subst (λ (r : Result (Unit {0}) RoundFault). Wrote F ps ended old mid r) (sym then.1) wrote)

-- a run of one round is that round
pub one_round : {A : Type 0} {F : FleetGhosts A} (ps : List Write) (old new : A) (result : Result (Unit {0}) RoundFault) → WroteInTurn F (ps ∷ []) old new result → (ended : List Job) × Wrote F ps ended old new result
one_round ps old new result turn = (turn.ended, one_after result turn.answer turn.wrote turn.then)

-- ---- objects of other names

-- all entries of the rounds are of the name
abbrev pub AllOfName : List ℕ → List (List Write) → Type 0
AllOfName name [] = Unit {0}
AllOfName name (ps ∷ rounds) = AreOfName name ps × AllOfName name rounds

module _ {A : Type 0} (F : FleetGhosts A) (name : List ℕ) where
  alone_first : {old mid new : A} (rest : Type 0) (result answer : Result (Unit {0}) RoundFault) → Keeps F old mid (ChangesOnlyName name (F.held old)) → AfterRound answer rest mid new result
      → (rest → Keeps F mid new (ChangesOnlyName name (F.held mid))) → Keeps F old new (ChangesOnlyName name (F.held old))
  alone_first rest result (Ok done) first then rests = alone_then F name first (rests then)
  alone_first {old} rest result (Err fault) first then rests = subst (λ (e : A). Keeps F old e (ChangesOnlyName name (F.held old))) (sym then.0) first

  -- rounds of the name alone change nothing else
  pub rounds_alone : F.tells → (rounds : List (List Write)) (old new : A) (result : Result (Unit {0}) RoundFault) → AllOfName name rounds → WroteInTurn F rounds old new result
      → Keeps F old new (ChangesOnlyName name (F.held old))
  rounds_alone told [] old new result of turn = subst (λ (e : A). Keeps F old e (ChangesOnlyName name (F.held old))) (sym turn.0) (alone_none F name old)
  rounds_alone told (ps ∷ rounds) old new result of turn =
      alone_first (WroteInTurn F rounds turn.mid new result) result turn.answer (alone_round F name ps of.0 (turn.wrote.keeps told)) turn.then
      (λ rest. rounds_alone told rounds turn.mid new result of.1 rest)
