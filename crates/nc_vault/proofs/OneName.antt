-- An act that writes a version of one name: its parts put together.
use Rattle.std.proofs.Common.{◌≡◌, ◌≢◌, ◌<◌, ◌≤◌, ◌+◌, ◌-◌, ◌^◌, ◌||◌, ℕ, min, nat_le, Bool, true, false, Option, None, Some, List, [], ◌∷◌, Contains, IfSome, inl, inr, refl, sym, ap, ◌∙◌, subst, arith}
use Rattle.std.proofs.lemmas.Bool.Decides.{leb_tells}
use Rattle.nc_name.specs.Counts.{Rose}
use Rattle.nc_name.specs.Names.{IsName}
use Rattle.nc_meta.specs.declared.meta.Meta.{Meta}
use Rattle.nc_cloud.specs.Contents.{Contents, Grows}
use Rattle.nc_cloud.specs.Stopping.{GoesOn, Keeps}
use Rattle.nc_cloud.specs.declared.fleet.Fleet.{Ghosts as FleetGhosts}
use Rattle.nc_cloud.proofs.Counts.{rose_more}
use Rattle.nc_cloud.proofs.Time.{goes_none, goes_then, keeps_by, keeps_then}
use Rattle.nc_state.specs.Clouds.{Clouds}
use Rattle.nc_state.specs.Commands.{IsNext, RestsAt}
use Rattle.nc_state.specs.Holding.{HoldsIfAny}
use Rattle.nc_state.specs.Right.{RightOn}
use Rattle.nc_state.specs.Standing.{Entries, Stands}
use Rattle.nc_state.specs.Tidy.{IsTidy}
use Rattle.nc_state.specs.Vaults.{BeginsMaking, ChangesOnlyName, DoesMaking, ForEachVault, Vault, version_in}
use Rattle.nc_state.specs.Versions.{Version, meta_of}
use Rattle.nc_state.proofs.Alone.{alone_then}
use Rattle.nc_state.proofs.CommandLaws.{rests_after}
use Rattle.nc_state.proofs.MisplacedLaw.{none_misplaced}
use Rattle.nc_state.proofs.TopLaws.{none_disputed}
use Rattle.nc_settle.specs.declared.settled.SettleFault.{SettleFault}
use Rattle.nc_settle.specs.declared.settled.SettleFault.TheVariants as settle
use Rattle.nc_settle.specs.Settling.{HasSettleCause, IsSeenFault, SettleRefuses}
use Rattle.nc_write.specs.Doing.{HasWriteCause}
use Rattle.nc_write.specs.Tidying.{NoneSlipped}
use Rattle.nc_write.specs.declared.fault.WriteFault.{WriteFault}
use Rattle.nc_write.specs.declared.fault.WriteFault.TheVariants as write
use Rattle.nc_words.specs.declared.act.Act.{Act}
use Rattle.nc_words.specs.Acts.{FitsWidth, Task}
use Rattle.nc_words.specs.declared.setting.Setting.{Setting}
use Rattle.nc_vault.specs.declared.fault.Fault.{Fault}
use Rattle.nc_vault.specs.declared.fault.Fault.TheVariants as fault
use Rattle.nc_vault.specs.declared.reply.Reply.{Reply}
use Rattle.nc_vault.specs.declared.reply.Reply.TheVariants as reply
use Rattle.nc_vault.specs.Acting.{Acted, Changes, IfDone, IsReplyTo, IsTidied, LeavesTidy, StaysBefore}
use Rattle.nc_vault.specs.Counting.{CostsBy, CountsFor, CountsSay, CountsTell, NamesCloud, NamesNone, ReadsFor, TookBy, bears_failures, failing_in, may_read_chunks, restores, rose}
use Rattle.nc_vault.specs.Faults.{fault_of_settle, fault_of_write}
use Rattle.nc_vault.specs.Makings.{Brings, Makes}
use Rattle.nc_vault.specs.Replies.{RepliesWith, StopsFor}
use Rattle.nc_vault.specs.Saying.{SaysBy, WriteRefuses}
use Rattle.nc_vault.specs.Seeing.{SeesFor, only_reads}
use Rattle.nc_vault.specs.Vaults.{DoesName, StandsAtEnd, StandsDone, TellsDone, WorksOn, fills}
use Rattle.nc_vault.specs.Writing.{IsSettled, IsUnsettled, IsWritten, Proceeds, Settles, Tidies, Writes}
use Rattle.nc_vault.proofs.Members.{in_one}
use Rattle.nc_vault.proofs.NameParts.{made_nothing, one_done, one_stopped, one_stops}
use Rattle.nc_vault.proofs.TidyLaws.{settled_of_tidy}

-- ---- what such an act is

-- what the definitions say of an act by cases, of one that writes versions of this name alone
pub record WritesOne (a : Act) (name : List ℕ) : Type 0 where
  pub works : (n : ℕ) (G : Contents) → WorksOn n G a (name ∷ [])
  pub tells : TellsDone a None 0
  pub stopped : (f : Fault) → IsReplyTo a (reply.Stopped f None)
  pub changes : (F G : Contents) → ChangesOnlyName name F G → Changes a F G
  pub bears : bears_failures a ≡ false
  pub restores_none : restores a ≡ false
  pub unread : (answer : Reply) → may_read_chunks a answer ≡ false
  pub took : (n : ℕ) (answer : Reply) (before now : ℕ → ℕ) → TookBy n a answer before now
  pub fits : (n : ℕ) → FitsWidth n a
  pub writes : only_reads a ≡ false
  pub only : (n : ℕ) (G : Contents) (names : List (List ℕ)) → WorksOn n G a names → names ≡ name ∷ []
  pub says : (n : ℕ) (task : Task) (F G : Contents) (f : Fault) → WriteRefuses n task.setting name F f → SaysBy n task F G a (reply.Stopped f None)

-- it tells of nothing that it saw, and reads no chunk
unseen : {A : Type 0} (F : FleetGhosts A) (a : Act) (old new : A) (answer : Reply) → only_reads a ≡ false → SeesFor (only_reads a) F old new a answer
unseen F a old new answer writes = subst (λ (b : Bool). SeesFor b F old new a answer) (sym writes) tt

unread_by : {A : Type 0} (F : FleetGhosts A) (a : Act) (old new : A) (answer : Reply) (n : ℕ) (G : Contents) → only_reads a ≡ false → ForEachVault n G (ReadsFor (only_reads a) F old new a answer)
unread_by F a old new answer n G writes = record { each = λ S D stands. subst (λ (b : Bool). ReadsFor b F old new a answer (record { contents = G; entries = S; damaged = D })) (sym writes) tt }

said : {A : Type 0} (F : FleetGhosts A) (a : Act) (old new : A) (answer : Reply) → restores a ≡ false → CountsTell F a old new answer → CountsSay F a old new answer
said F a old new answer none = subst (λ (b : Bool). CountsTell F a old new answer → CountsFor b F a old new answer) (sym none) (λ counts. counts)

-- ---- states

pub grows_then : (a b c : ℕ → ℕ) → Grows a b → Grows b c → Grows a c
grows_then a b c first second k = let x = first k in let y = second k in omega (arith, x, y)

module _ {A : Type 0} {F : FleetGhosts A} where
  pub proceeds_none : (old : A) → Proceeds F old old
  proceeds_none old = record { clouds = refl; grows = record { faults = λ c. omega arith; slips = λ c. omega arith }; gets = λ c. refl; time = goes_none old }

  -- by the clauses of a call that deletes and lists nothing
  pub proceeds_of : {old new : A} → F.clouds new ≡ F.clouds old → Grows (F.faults old) (F.faults new) → F.slips new ≡ F.slips old → F.chunk_gets new ≡ F.chunk_gets old → GoesOn F old new → Proceeds F old new
  proceeds_of clouds grows slips gets time = record {
    clouds = clouds;
    grows = record { faults = grows; slips = λ c. let same = ap (λ (f : ℕ → ℕ). f c) slips in omega (arith, same) };
    gets = λ c. ap (λ (f : ℕ → ℕ). f c) gets;
    time = time;
  }

  pub proceeds_then : {old mid new : A} → Proceeds F old mid → Proceeds F mid new → Proceeds F old new
  proceeds_then {old} {mid} {new} a b = record {
    clouds = b.clouds ∙ a.clouds;
    grows = record {
      faults = grows_then (F.faults old) (F.faults mid) (F.faults new) a.grows.faults b.grows.faults;
      slips = grows_then (F.slips old) (F.slips mid) (F.slips new) a.grows.slips b.grows.slips;
    };
    gets = λ c. b.gets c ∙ a.gets c;
    time = goes_then a.time b.time;
  }

-- ---- faults

le_is : (x y : ℕ) (b : Bool) → x ≤ y → (nat_le x y || b) ≡ true
le_is x y b le =
    elim (leb_tells x y) [
      | inl t ↦ ap (λ (r : Bool). r || b) t.0
      | inr f ↦ absurd (let low = f.1 in omega (arith, le, low))
    ]

pub rose_is : (before now : ℕ) (b : Bool) → Rose before now → (rose before now || b) ≡ true
rose_is before now b is = le_is (min (before + 1) (2 ^ 64 - 1)) now b is

named : {A : Type 0} (F : FleetGhosts A) (a : Act) (old new : A) (c : ℕ) (b : Bool) → b ≡ false → Rose (F.faults old c) (F.faults new c)
    → (F.counts_exactly → (d : ℕ) → d < c → F.faults new d ≡ F.faults old d) → NamesCloud b F a old new c None
named F a old new c true not is least = absurd cc
named F a old new c false not is least = inl (record { rose_here = is; least = λ exact d low within. least exact d low })

unnamed : {A : Type 0} (F : FleetGhosts A) (a : Act) (old new : A) (b : Bool) → b ≡ false → (F.counts_exactly → (c : ℕ) → F.faults new c ≡ F.faults old c) → NamesNone b F a old new
unnamed F a old new true not clean = absurd cc
unnamed F a old new false not clean = λ exact c within. clean exact c

settle_counts : {A : Type 0} (F : FleetGhosts A) (a : Act) (old new : A) (f : SettleFault) → bears_failures a ≡ false → HasSettleCause F.counts_exactly (F.faults old) (F.faults new) f
    → CountsTell F a old new (reply.Stopped (fault_of_settle f) None)
settle_counts F a old new (settle.Cloud c) bears is = named F a old new c (bears_failures a) bears is.0 is.1
settle_counts F a old new (settle.Misplaced c x y) bears is = unnamed F a old new (bears_failures a) bears is
settle_counts F a old new (settle.Conflict g x y) bears is = unnamed F a old new (bears_failures a) bears is
settle_counts F a old new settle.Memory bears is = tt

pub settle_refuses : (n : ℕ) (s : Setting) (name : List ℕ) (G : Contents) (f : SettleFault) → SettleRefuses n name G f → WriteRefuses n s name G (fault_of_settle f)
settle_refuses n s name G (settle.Cloud c) is = tt
settle_refuses n s name G (settle.Misplaced c x y) is = is
settle_refuses n s name G (settle.Conflict g x y) is = is
settle_refuses n s name G settle.Memory is = tt

settle_before : (G H : Contents) (f : SettleFault) → (IsSeenFault f → H ≡ G) → StaysBefore G H (reply.Stopped (fault_of_settle f) None)
settle_before G H (settle.Cloud c) kept = tt
settle_before G H (settle.Misplaced c x y) kept = λ first. kept tt
settle_before G H (settle.Conflict g x y) kept = λ first. kept tt
settle_before G H settle.Memory kept = tt

-- on contents that stand nothing is misplaced or disputed
pub settle_stops : {A : Type 0} (F : FleetGhosts A) (n : ℕ) (task : Task) (name : List ℕ) (old new : A) (S : Entries) (D : Clouds) (f : SettleFault) → IsName name → Stands n (F.held old) S D
    → SettleRefuses n name (F.held old) f → HasSettleCause F.counts_exactly (F.faults old) (F.faults new) f
    → StopsFor n task (record { contents = F.held old; entries = S; damaged = D }) (failing_in F task.act old new) (fault_of_settle f)
settle_stops F n task name old new S D (settle.Cloud c) is stands refuses cause = rose_is (F.faults old c) (F.faults new c) _ cause.0
settle_stops F n task name old new S D (settle.Misplaced c x y) is stands refuses cause =
    let at = refuses.here in
    let other = at.is_of_elsewhere in
    let here = none_misplaced n (F.held old) S D name c refuses.slot x y at.bytes other.key other.payload is stands refuses.in_width at.stands other.is_sealed in
    elim other.elsewhere [
      | inl cloud ↦ cloud here.0
      | inr width ↦ width here.1
    ]
settle_stops F n task name old new S D (settle.Conflict g x y) is stands refuses cause = absurd (none_disputed n (F.held old) S D name g x y is stands refuses.1)
settle_stops F n task name old new S D settle.Memory is stands refuses cause = tt

write_refuses : (n : ℕ) (s : Setting) (name : List ℕ) (G : Contents) (f : WriteFault) → f ≢ write.Worn → WriteRefuses n s name G (fault_of_write f)
write_refuses n s name G (write.Cloud c) fine = tt
write_refuses n s name G write.Worn fine = absurd (fine refl)
write_refuses n s name G write.Memory fine = tt

write_before : (G H : Contents) (f : WriteFault) → StaysBefore G H (reply.Stopped (fault_of_write f) None)
write_before G H (write.Cloud c) = tt
write_before G H write.Worn = tt
write_before G H write.Memory = tt

-- its cause is that of the act, where no count changed before
write_counts : {A : Type 0} (F : FleetGhosts A) (a : Act) (old mid new : A) (f : WriteFault) → bears_failures a ≡ false → Grows (F.faults old) (F.faults mid)
    → (F.counts_exactly → (c : ℕ) → F.faults mid c ≡ F.faults old c) → f ≢ write.Worn → HasWriteCause F.counts_exactly (F.faults mid) (F.faults new) f
    → CountsTell F a old new (reply.Stopped (fault_of_write f) None)
write_counts F a old mid new (write.Cloud c) bears grows clean fine is =
    named F a old new c (bears_failures a) bears (rose_more (F.faults old c) (F.faults mid c) (F.faults new c) (grows c) is.0) (λ exact d low. is.1 exact d low ∙ clean exact d)
write_counts F a old mid new write.Worn bears grows clean fine is = absurd (fine refl)
write_counts F a old mid new write.Memory bears grows clean fine is = tt

write_stops : {A : Type 0} (F : FleetGhosts A) (n : ℕ) (task : Task) (old mid new : A) (V : Vault) (f : WriteFault) → Grows (F.faults old) (F.faults mid) → f ≢ write.Worn
    → HasWriteCause F.counts_exactly (F.faults mid) (F.faults new) f → StopsFor n task V (failing_in F task.act old new) (fault_of_write f)
write_stops F n task old mid new V (write.Cloud c) grows fine is =
    rose_is (F.faults old c) (F.faults new c) _ (rose_more (F.faults old c) (F.faults mid c) (F.faults new c) (grows c) is.0)
write_stops F n task old mid new V write.Worn grows fine is = absurd (fine refl)
write_stops F n task old mid new V write.Memory grows fine is = tt

costs_by : (b : Bool) (before now : ℕ → ℕ) → b ≡ false → ((c : ℕ) → now c ≡ before c) → CostsBy b before now
costs_by true before now not same = tt
costs_by false before now not same = same

-- ---- the act

-- the vault that the contents of a state stand for
abbrev pub vault_of : Contents → Entries → Clouds → Vault
vault_of G S D = record { contents = G; entries = S; damaged = D }

module _ {A : Type 0} (F : FleetGhosts A) (task : Task) (name : List ℕ) (one : WritesOne task.act name) (is : IsName name) (old : A) where
  abbrev n : ℕ
  n = F.clouds old

  abbrev makes : Version → Version → Type 0
  makes = Makes n task name

  -- what each stop up to a state leaves
  pub record Until (new : A) : Type 0 where
    pub begins : F.tells → (S : Entries) (D : Clouds) → Stands n (F.held old) S D → Keeps F old new (BeginsMaking n name makes (vault_of (F.held old) S D))
    pub alone : F.tells → Keeps F old new (ChangesOnlyName name (F.held old))
    pub proceeds : Proceeds F old new

  -- it was stopped
  stopped : {new : A} (u : Until new) (f : Fault) → CountsTell F task.act old new (reply.Stopped f None) → StaysBefore (F.held old) (F.held new) (reply.Stopped f None)
      → (F.tells → WriteRefuses n task.setting name (F.held old) f)
      → (F.tells → (S : Entries) (D : Clouds) → Stands n (F.held old) S D → StopsFor n task (vault_of (F.held old) S D) (failing_in F task.act old new) f)
      → Acted F task old new (reply.Stopped f None)
  stopped {new} u f counts before refuses stops = record {
    clouds = u.proceeds.clouds;
    grows = u.proceeds.grows;
    time = u.proceeds.time;
    kind = one.stopped f;
    counts = said F task.act old new (reply.Stopped f None) one.restores_none counts;
    costs = costs_by (may_read_chunks task.act (reply.Stopped f None)) (F.chunk_gets old) (F.chunk_gets new) (one.unread (reply.Stopped f None)) u.proceeds.gets;
    took = one.took n (reply.Stopped f None) (F.chunk_gets old) (F.chunk_gets new);
    before = before;
    only = λ told. keeps_by (Changes task.act (F.held old)) (u.alone told) (λ G only. one.changes (F.held old) G only);
    says = λ told. one.says n task (F.held old) (F.held new) f (refuses told);
    sees = unseen F task.act old new (reply.Stopped f None) one.writes;
    reads = λ told. unread_by F task.act old new (reply.Stopped f None) (F.clouds old) (F.held old) one.writes;
    stands = λ told. record {
      each = λ S D stands. record {
        stops = one_stops F n task name (one.works n) (u.alone told) S D stands (u.begins told S D stands);
        end = one_stopped F n task name (one.works n) (u.alone told) S D stands (u.begins told S D stands) None one.tells;
      };
    };
    replies = λ told. record { each = λ S D stands. stops told S D stands };
    tidy = λ told sure none. tt;
  }

  -- ---- settling

  until_settled : {mid : A} → Settles F name old mid → Until mid
  until_settled {mid} s = record {
    begins = λ told S D stands. made_nothing F n name makes (vault_of (F.held old) S D) ((s.begins told).each S D stands);
    alone = s.alone;
    proceeds = s.proceeds;
  }

  pub unsettled : {mid : A} (f : SettleFault) → IsUnsettled F name old mid f → Acted F task old mid (reply.Stopped (fault_of_settle f) None)
  unsettled {mid} f u =
      stopped (until_settled u.settles) (fault_of_settle f) (settle_counts F task.act old mid f one.bears u.counts) (settle_before (F.held old) (F.held mid) f u.kept)
      (λ told. settle_refuses n task.setting name (F.held old) f (u.refuses told))
      (λ told S D stands. settle_stops F n task name old mid S D f is stands (u.refuses told) u.counts)

  -- settled on this metadata
  module _ {mid : A} (top : Option Meta) (s : IsSettled F name old mid top) where
    -- nothing is written
    pub unwritten : (f : Fault) → CountsTell F task.act old mid (reply.Stopped f None) → StaysBefore (F.held old) (F.held mid) (reply.Stopped f None)
        → (F.tells → WriteRefuses n task.setting name (F.held old) f)
        → (F.tells → (S : Entries) (D : Clouds) → Stands n (F.held old) S D → meta_of (version_in n (vault_of (F.held old) S D) name) ≡ top
        → StopsFor n task (vault_of (F.held old) S D) (failing_in F task.act old mid) f)
        → Acted F task old mid (reply.Stopped f None)
    unwritten f counts before refuses stops =
        stopped (until_settled s.settles) f counts before refuses (λ told S D stands. stops told S D stands ((s.comes told).each S D stands).is_top)

    -- and no count of failed gets and puts changed
    pub unnamed_yet : NamesNone (bears_failures task.act) F task.act old mid
    unnamed_yet = unnamed F task.act old mid (bears_failures task.act) one.bears s.clean

    -- versions are made so, which the act makes of a version of this metadata
    module _ (writes : Version → Version → Type 0) (makes_of : (x y : Version) → meta_of x ≡ top → writes x y → makes x y) where
      made_of : (x : Version) → meta_of x ≡ top → (o : Option Version) → IfSome o (writes x) → IfSome o (makes x)
      made_of x of None made = tt
      made_of x of (Some y) made = makes_of x y of made

      until_written : {end : A} → Writes F n name top writes mid end → Until end
      until_written {end} w = record {
        begins = λ told S D stands.
            let V : Vault = vault_of (F.held old) S D in
            let came = (s.comes told).each S D stands in
            keeps_then ((until_settled s.settles).begins told S D stands)
            (keeps_by (BeginsMaking n name makes V) ((w.begins told).each V came)
            (λ G b. record { made = b.made; makes_it = made_of (version_in n V name) came.is_top b.made b.makes_it; stands = b.stands }));
        alone = λ told. alone_then F name (s.settles.alone told) (w.alone told);
        proceeds = proceeds_then s.settles.proceeds w.proceeds;
      }

      -- a cloud failed, or no memory was found
      pub unfinished : {end : A} (f : WriteFault) → Writes F n name top writes mid end → f ≢ write.Worn → HasWriteCause F.counts_exactly (F.faults mid) (F.faults end) f
          → Acted F task old end (reply.Stopped (fault_of_write f) None)
      unfinished {end} f w fine cause =
          stopped (until_written w) (fault_of_write f) (write_counts F task.act old mid end f one.bears s.settles.proceeds.grows.faults s.clean fine cause) (write_before (F.held old) (F.held end) f)
          (λ told. write_refuses n task.setting name (F.held old) f fine)
          (λ told S D stands. write_stops F n task old mid end (vault_of (F.held old) S D) f s.settles.proceeds.grows.faults fine cause)

      -- the version is written, and the name is tidied
      module _ {end new : A} (next : Option Meta) (w : IsWritten F n name top writes mid end next) (t : Tidies F n name next end new)
          (next_of : (x y : Version) → makes x y → IsNext n x (Some y)) where
        made_at : F.tells → (S : Entries) (D : Clouds) → Stands n (F.held old) S D → DoesMaking n name writes (vault_of (F.held old) S D) next (F.held end)
        made_at told S D stands = (w.does told).each (vault_of (F.held old) S D) ((s.comes told).each S D stands)

        makes_at : (told : F.tells) (S : Entries) (D : Clouds) (stands : Stands n (F.held old) S D)
            → makes (version_in n (vault_of (F.held old) S D) name) (made_at told S D stands).version
        makes_at told S D stands =
            makes_of (version_in n (vault_of (F.held old) S D) name) (made_at told S D stands).version ((s.comes told).each S D stands).is_top (made_at told S D stands).made

        rests_on : (told : F.tells) (S : Entries) (D : Clouds) (stands : Stands n (F.held old) S D) → Keeps F end new (λ G. RestsAt n G S D name (made_at told S D stands).version)
        rests_on told S D stands =
            let d : DoesMaking n name writes (vault_of (F.held old) S D) next (F.held end) = made_at told S D stands in
            keeps_by (λ G. RestsAt n G S D name d.version) (t.keeps told) (λ G leaves. leaves.rests S D d.version d.is_top d.rests)

        until_tidied : Until new
        until_tidied = record {
          begins = λ told S D stands.
              let d : DoesMaking n name writes (vault_of (F.held old) S D) next (F.held end) = made_at told S D stands in
              let made : makes (version_in n (vault_of (F.held old) S D) name) d.version = makes_at told S D stands in
              keeps_then ((until_written w.writes).begins told S D stands)
              (keeps_by (BeginsMaking n name makes (vault_of (F.held old) S D)) (rests_on told S D stands)
              (λ G rests. record {
                made = Some d.version;
                makes_it = made;
                stands = rests_after n (F.held old) G S D name d.version (Some d.version) is stands rests (next_of (version_in n (vault_of (F.held old) S D) name) d.version made) (inr refl);
              }));
          alone = λ told. alone_then F name ((until_written w.writes).alone told) (t.alone told);
          proceeds = proceeds_then (until_written w.writes).proceeds t.proceeds;
        }

        all_clean : F.counts_exactly → (c : ℕ) → F.faults new c ≡ F.faults old c
        all_clean exact c = ap (λ (f : ℕ → ℕ). f c) t.faults ∙ w.clean exact c ∙ s.clean exact c

        -- no memory was found for tidying
        pub untidied : Acted F task old new (reply.Stopped fault.Memory None)
        untidied = stopped until_tidied fault.Memory tt tt (λ told. tt) (λ told S D stands. tt)

        -- it was
        module _ (brings : (x y : Version) → makes x y → Brings n task name x y)
            (filled : F.tells → (x y : Version) → meta_of x ≡ top → writes x y → (c : ℕ) → c < n → fills task.act c ≡ true → RightOn n (F.held new) name y c) where
          does_name : F.tells → (S : Entries) (D : Clouds) → Stands n (F.held old) S D → DoesName n task name (vault_of (F.held old) S D) (F.held new)
          does_name told S D stands =
              let d : DoesMaking n name writes (vault_of (F.held old) S D) next (F.held end) = made_at told S D stands in
              let x : Version = version_in n (vault_of (F.held old) S D) name in
              record {
                version = d.version;
                brought = brings x d.version (makes_at told S D stands);
                rests = (rests_on told S D stands).here;
                filled = filled told x d.version ((s.comes told).each S D stands).is_top d.made;
              }

          slips_before : NoneSlipped F old new → NoneSlipped F end new
          slips_before none = record {
            none = λ c l rose_after.
                none.none c (subst (λ (k : ℕ). c < k) (until_written w.writes).proceeds.clouds l)
                (rose_more (F.slips old c) (F.slips end c) (F.slips new c) ((until_written w.writes).proceeds.grows.slips c) rose_after);
          }

          -- every cloud holds the metadata, and nothing that doesn't count is left
          pub leaves_tidy : 4 ≤ n → n ≤ 10 → ((c : ℕ) → c < n → HoldsIfAny n (F.held new) name c next) → (NoneSlipped F end new → IsTidy n (F.held new) name next)
              → NoneSlipped F old new → LeavesTidy n task.act (F.held old) (F.held new)
          leaves_tidy wide narrow held tidy none = record {
            each = λ names other plain works among.
                let here : other ≡ name = in_one name other (subst (λ (ns : List (List ℕ)). Contains ns other) (one.only n (F.held old) names works) among) in
                let left : IsTidy n (F.held new) name next = tidy (slips_before none) in
                subst (IsTidied n (F.held new)) (sym here) (record { top = next; settled = settled_of_tidy n (F.held new) name next wide narrow is held left; tidy = left });
          }

          pub finished : (answer : Reply) → IsReplyTo task.act answer → (NamesNone (bears_failures task.act) F task.act old new → CountsTell F task.act old new answer)
              → StaysBefore (F.held old) (F.held new) answer → (F.tells → SaysBy n task (F.held old) (F.held new) task.act answer)
              → ((V : Vault) → StandsDone n task V (F.held new) → StandsAtEnd n task V (F.held new) answer)
              → ((V : Vault) → meta_of (version_in n V name) ≡ top → RepliesWith n task V (failing_in F task.act old new) answer)
              → (F.tells → F.sure_deletes → NoneSlipped F old new → IfDone answer (LeavesTidy n task.act (F.held old) (F.held new)))
              → Acted F task old new answer
          finished answer kind counts before says ends replies tidy = record {
            clouds = until_tidied.proceeds.clouds;
            grows = until_tidied.proceeds.grows;
            time = until_tidied.proceeds.time;
            kind = kind;
            counts = said F task.act old new answer one.restores_none (counts (unnamed F task.act old new (bears_failures task.act) one.bears all_clean));
            costs = costs_by (may_read_chunks task.act answer) (F.chunk_gets old) (F.chunk_gets new) (one.unread answer) until_tidied.proceeds.gets;
            took = one.took n answer (F.chunk_gets old) (F.chunk_gets new);
            before = before;
            only = λ told. keeps_by (Changes task.act (F.held old)) (until_tidied.alone told) (λ G only. one.changes (F.held old) G only);
            says = says;
            sees = unseen F task.act old new answer one.writes;
            reads = λ told. unread_by F task.act old new answer (F.clouds old) (F.held old) one.writes;
            stands = λ told. record {
              each = λ S D stands. record {
                stops = one_stops F n task name (one.works n) (until_tidied.alone told) S D stands (until_tidied.begins told S D stands);
                end = ends (vault_of (F.held old) S D) (one_done F n task name (one.works n) (until_tidied.alone told) S D stands (one.fits n) (does_name told S D stands));
              };
            };
            replies = λ told. record { each = λ S D stands. replies (vault_of (F.held old) S D) ((s.comes told).each S D stands).is_top };
            tidy = tidy;
          }
