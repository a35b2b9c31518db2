-- How a run is answered, from what its words ask for.
use Rattle.std.proofs.Common.{◌≡◌, ◌≤◌, ◌⊎◌, ◌↔◌, Option, None, Some, IfSome, List, Result, Ok, Err, ℕ, refl, sym, ap, subst, arith, inl, inr}
use Rattle.nc_cloud.specs.declared.fleet.Fleet.{Ghosts as FleetGhosts}
use Rattle.nc_name.specs.Counts.{Rose}
use Rattle.nc_name.specs.Names.{IsName, RefusesName}
use Rattle.nc_name.specs.declared.name.NameFault.{NameFault}
use Rattle.nc_stream.specs.Input.{FailsBy}
use Rattle.nc_stream.specs.declared.sink.Sink.{Ghosts as SinkGhosts}
use Rattle.nc_stream.specs.declared.source.Source.{Ghosts as SourceGhosts}
use Rattle.nc_words.specs.declared.act.Request.{Request}
use Rattle.nc_vault.specs.declared.fault.Fault.TheVariants as fault
use Rattle.nc_words.specs.declared.words.WordFault.{WordFault}
use Rattle.nc_words.specs.declared.words.WordFault.TheVariants as word
use Rattle.nc_words.specs.Words.{Asks, AsksFor, AsksNothing, HasBadName, RefusesWords, target}
use Rattle.nc_words.proofs.OneMeaning.{no_name, one_bad, one_request}
use Rattle.nc_run.specs.declared.ending.Ending.{Ending}
use Rattle.nc_run.specs.declared.status.Status.{Status}
use Rattle.nc_run.specs.declared.status.Status.TheVariants as st
use Rattle.nc_run.specs.Ending.{CountsStream, IsEarly, IsRefused, plain, refusal}
use Rattle.nc_run.specs.Running.{IsAnswered}
use Rattle.nc_run.specs.Sides.{IsWide, Sides}
use Rattle.nc_run.specs.Watching.{ShownIn}
use Rattle.nc_run.specs.declared.watching.Watch.{Ghosts as WatchGhosts}

-- ---- what words ask for

-- words that ask for something don't ask for nothing
not_nothing : (n : ℕ) (words : List (List ℕ)) (r : Request) → Asks n words r → AsksNothing n words → ⊥
not_nothing n words r asks nothing = nothing.none r (record { taken = asks.taken; setting = asks.setting; means = asks.command.means })

no_such : (given : Option (List ℕ)) (text : List ℕ) (cause : NameFault) → given ≡ Some text → RefusesName text cause → IfSome given IsName → ⊥
no_such None text cause is refuses name = absurd cc
no_such (Some other) text cause is refuses name =
    let same : other ≡ text = cc in
    no_name text cause refuses (subst IsName same name)

-- nor is their name a bad one
not_bad : (n : ℕ) (words : List (List ℕ)) (r : Request) (cause : NameFault) → Asks n words r → HasBadName n words cause → ⊥
not_bad n words r cause asks bad =
    let says : AsksFor n words r = record { taken = asks.taken; setting = asks.setting; means = asks.command.means } in
    let same : r ≡ bad.request = one_request n words r bad.request says bad.says in
    let names : target r.command ≡ Some bad.text = subst (λ (x : Request). target x.command ≡ Some bad.text) (sym same) bad.names in
    no_such (target r.command) bad.text cause names bad.refuses asks.command.name

-- ---- counts

-- a run that isn't answered so: its stream's count is as before
still : (fault status : Status) (exact : Type 0) (count : ℕ) → (status ≡ fault → ⊥) → CountsStream fault exact count count status
still fault status exact count not = record { later = omega arith; failed = λ is. absurd (not is); same = λ e n. refl }

-- acts were begun, so the input was read
pub read_whole : {T : Type 0} (exact : Type 0) (before now : ℕ) (x : T) (result : Option Ending) → FailsBy exact before now (Ok x)
    → IfSome result (λ e. IsEarly e.status → ⊥) → IfSome result (λ e. CountsStream st.ReadFault exact before now e.status)
read_whole exact before now x None fails late = tt
read_whole exact before now x (Some e) fails late = record {
  later = fails.later;
  failed = λ is. absurd (late (subst IsEarly (sym is) tt));
  same = λ exactly not. fails.same exactly;
}

pub never_early : (P : Type 0) (result : Option Ending) → IfSome result (λ e. IsEarly e.status → ⊥) → IfSome result (λ e. IsEarly e.status → P)
never_early P None late = tt
never_early P (Some e) late = λ early. absurd (late early)

-- ---- answers

module _ {A B C : Type 0} (F : FleetGhosts A) (S : SourceGhosts B) (K : SinkGhosts C) (words : List (List ℕ)) (old new : Sides A B C) (wide : IsWide (F.clouds old.fleet)) where
  is_wide : (w : ℕ) → (w ≡ F.clouds old.fleet) × (IsWide w → ⊥) → ⊥
  is_wide w not = not.1 (subst IsWide (sym not.0) wide)

  -- something was asked for
  pub answered_asked : (r : Request) (result : Option Ending) → Asks (F.clouds old.fleet) words r → IfSome result (λ e. IsRefused e.status → ⊥)
      → IfSome result (λ e. IsEarly e.status → new.fleet ≡ old.fleet)
      → IfSome result (λ e. CountsStream st.ReadFault S.counts_exactly (S.faults old.source) (S.faults new.source) e.status)
      → IfSome result (λ e. CountsStream st.WriteFault K.counts_exactly (K.faults old.out) (K.faults new.out) e.status)
      → IfSome result (λ e. IsAnswered F S K words old new e.status)
  answered_asked r None asks begun early read write = tt
  answered_asked r (Some e) asks begun early read write = record {
    width = λ w. (λ is. absurd (begun (subst IsRefused (sym is) tt)), λ not. absurd (is_wide w not));
    usage = record {
      only = λ is. absurd (begun (subst IsRefused (sym is) tt));
      always = λ nothing. absurd (not_nothing (F.clouds old.fleet) words r asks nothing.1);
    };
    name = λ cause. record {
      only = λ is. absurd (begun (subst IsRefused (sym is) tt));
      always = λ bad. absurd (not_bad (F.clouds old.fleet) words r cause asks bad.1);
    };
    early = early;
    refused = λ refused. absurd (begun refused);
    read = read;
    write = write;
  }

-- nothing was asked for
answered_usage : {A B C : Type 0} (F : FleetGhosts A) (S : SourceGhosts B) (K : SinkGhosts C) (words : List (List ℕ)) (old : Sides A B C) → IsWide (F.clouds old.fleet)
    → AsksNothing (F.clouds old.fleet) words → IsAnswered F S K words old old st.Usage
answered_usage F S K words old wide nothing = record {
  width = λ w. (λ is. absurd cc, λ not. absurd (not.1 (subst IsWide (sym not.0) wide)));
  usage = record { only = λ is. (wide, nothing); always = λ both. inl refl };
  name = λ cause. record { only = λ is. absurd cc; always = λ bad. absurd (nothing.none bad.1.request bad.1.says) };
  early = λ early. refl;
  refused = λ refused. (refl, refl);
  read = still st.ReadFault st.Usage S.counts_exactly (S.faults old.source) (λ is. absurd cc);
  write = still st.WriteFault st.Usage K.counts_exactly (K.faults old.out) (λ is. absurd cc);
}

-- a command was asked for, of a name that is none
answered_name : {A B C : Type 0} (F : FleetGhosts A) (S : SourceGhosts B) (K : SinkGhosts C) (words : List (List ℕ)) (old : Sides A B C) (given : NameFault) → IsWide (F.clouds old.fleet)
    → HasBadName (F.clouds old.fleet) words given → IsAnswered F S K words old old (st.Name given)
answered_name F S K words old given wide has = record {
  width = λ w. (λ is. absurd cc, λ not. absurd (not.1 (subst IsWide (sym not.0) wide)));
  usage = record { only = λ is. absurd cc; always = λ nothing. absurd (nothing.1.none has.request has.says) };
  name = λ cause. record {
    only = λ is. let same : given ≡ cause = cc in (wide, subst (HasBadName (F.clouds old.fleet) words) same has);
    always = λ bad. inl (ap st.Name (one_bad (F.clouds old.fleet) words given cause has bad.1));
  };
  early = λ early. refl;
  refused = λ refused. (refl, refl);
  read = still st.ReadFault (st.Name given) S.counts_exactly (S.faults old.source) (λ is. absurd cc);
  write = still st.WriteFault (st.Name given) K.counts_exactly (K.faults old.out) (λ is. absurd cc);
}

-- memory ran out while the words were read
answered_memory : {A B C : Type 0} (F : FleetGhosts A) (S : SourceGhosts B) (K : SinkGhosts C) (words : List (List ℕ)) (old : Sides A B C) → IsWide (F.clouds old.fleet)
    → IsAnswered F S K words old old (st.Vault fault.Memory)
answered_memory F S K words old wide = record {
  width = λ w. (λ is. absurd cc, λ not. absurd (not.1 (subst IsWide (sym not.0) wide)));
  usage = record { only = λ is. absurd cc; always = λ nothing. inr refl };
  name = λ cause. record { only = λ is. absurd cc; always = λ bad. inr refl };
  early = λ early. refl;
  refused = λ refused. (refl, refl);
  read = still st.ReadFault (st.Vault fault.Memory) S.counts_exactly (S.faults old.source) (λ is. absurd cc);
  write = still st.WriteFault (st.Vault fault.Memory) K.counts_exactly (K.faults old.out) (λ is. absurd cc);
}

-- the words ask for nothing that can be done
pub answered_refused : {A B C : Type 0} (F : FleetGhosts A) (S : SourceGhosts B) (K : SinkGhosts C) (words : List (List ℕ)) (old : Sides A B C) (why : WordFault) (e : Ending) → e ≡ plain (refusal why)
    → IsWide (F.clouds old.fleet) → RefusesWords (F.clouds old.fleet) words why → IsAnswered F S K words old old e.status
answered_refused F S K words old why e is wide refuses = subst (λ (x : Ending). IsAnswered F S K words old old x.status) (sym is) (answered_by why refuses)
  where
    answered_by : (why : WordFault) → RefusesWords (F.clouds old.fleet) words why → IsAnswered F S K words old old (refusal why)
    answered_by word.Usage nothing = answered_usage F S K words old wide nothing
    answered_by (word.Name cause) bad = answered_name F S K words old cause wide bad
    answered_by word.Memory free = answered_memory F S K words old wide

-- and that is all that happened
pub shown_refused : {A B C W : Type 0} (F : FleetGhosts A) (S : SourceGhosts B) (K : SinkGhosts C) (V : WatchGhosts W A) (words : List (List ℕ)) (old : Sides A B C) (watch : W) (why : WordFault) (e : Ending)
    → e ≡ plain (refusal why) → ShownIn F S K V words old old watch watch (Some e)
shown_refused F S K V words old watch why e is = subst (λ (x : Ending). ShownIn F S K V words old old watch watch (Some x)) (sym is) (shown_by why)
  where
    shown_by : (why : WordFault) → ShownIn F S K V words old old watch watch (Some (plain (refusal why)))
    shown_by word.Usage = (record { line = refl; after = refl }, refl)
    shown_by (word.Name cause) = (record { line = refl; after = refl }, refl)
    shown_by word.Memory = inl (record { same = refl; plain = record { line = refl; after = refl } }, refl)
