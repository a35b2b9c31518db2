-- What the repair of a cloud does with one name: its parts put together.
use Rattle.std.proofs.Common.{◌≡◌, ◌<◌, ◌≤◌, ◌-◌, ◌^◌, ◌==◌, ℕ, Bool, true, false, if◌then◌else◌, Option, None, Some, List, [], IfSome, inl, inr, refl, sym, ap, ◌∙◌, subst, arith}
use Rattle.std.proofs.lemmas.Bool.Decides.{eqb_tells}
use Rattle.nc_name.specs.Names.{IsName}
use Rattle.nc_code.specs.Parts.{PlanParts}
use Rattle.nc_meta.specs.declared.meta.Live.{Live}
use Rattle.nc_meta.specs.declared.meta.Meta.{Meta}
use Rattle.nc_meta.specs.declared.meta.Meta.TheVariants as meta
use Rattle.nc_meta.specs.Metas.{IsLive}
use Rattle.nc_nextloss.specs.GoodCodes.{GoodParts}
use Rattle.nc_cloud.specs.Contents.{Contents, Grows}
use Rattle.nc_cloud.specs.Fleet.{got_count}
use Rattle.nc_cloud.specs.Stopping.{GoesOn, Keeps}
use Rattle.nc_cloud.specs.declared.fleet.Fleet.{Ghosts as FleetGhosts}
use Rattle.nc_cloud.proofs.Counts.{rose_more}
use Rattle.nc_cloud.proofs.Time.{goes_then, keeps_by, keeps_then}
use Rattle.nc_state.specs.Clouds.{Clouds}
use Rattle.nc_state.specs.Commands.{RestsAt}
use Rattle.nc_state.specs.Entries.{Rests}
use Rattle.nc_state.specs.Holding.{HoldsIfAny, IsLiveTop, IsSettledOn}
use Rattle.nc_state.specs.Right.{RightOn}
use Rattle.nc_state.specs.Standing.{Entries, Stands}
use Rattle.nc_state.specs.Tidy.{IsTidy}
use Rattle.nc_state.specs.Vaults.{BeginsMaking, ChangesOnlyName, ComesTo, DoesMaking, Vault, version_in}
use Rattle.nc_state.specs.Versions.{Version, is_stored, meta_of}
use Rattle.nc_state.specs.Versions.Version.{Stored}
use Rattle.nc_state.proofs.Alone.{alone_then}
use Rattle.nc_state.proofs.CommandLaws.{rests_after}
use Rattle.nc_download.specs.declared.short.How.{How}
use Rattle.nc_settle.specs.declared.settled.SettleFault.{SettleFault}
use Rattle.nc_settle.specs.declared.settled.SettleFault.TheVariants as settle
use Rattle.nc_settle.specs.Settling.{SettleRefuses}
use Rattle.nc_write.specs.Tidying.{NoneSlipped}
use Rattle.nc_repair.specs.declared.fault.RepairFault.{RepairFault}
use Rattle.nc_repair.specs.declared.fault.RepairFault.TheVariants as repair
use Rattle.nc_repair.specs.Mending.{IsRepaired, mended_by, mended_meta}
use Rattle.nc_repair.specs.Repairing.{IsLeastDamaged, fetched_of}
use Rattle.nc_repair.proofs.ChosenLaws.{version_is}
use Rattle.nc_words.specs.declared.act.Act.TheVariants as act
use Rattle.nc_words.specs.declared.setting.Setting.{Setting}
use Rattle.nc_words.specs.Acts.{Task, task_of}
use Rattle.nc_vault.specs.declared.fault.Fault.{Fault}
use Rattle.nc_vault.specs.declared.fault.Fault.TheVariants as fault
use Rattle.nc_vault.specs.Acting.{IsTidied}
use Rattle.nc_vault.specs.Drawing.{IsRepairDrawn, RefusesRepair}
use Rattle.nc_vault.specs.Faults.{fault_of_repair, fault_of_settle}
use Rattle.nc_vault.specs.Makings.{IsRepair, Makes, Prevents}
use Rattle.nc_vault.specs.Parts.{BeginsPart, DoesPart, IsSeenCause, PartCounts, PartDone, PartStopped, PartStops}
use Rattle.nc_vault.specs.Repairing.{Advances, IsFileMended, IsFileUnmended, IsUnmendedBy, Mends}
use Rattle.nc_vault.specs.Repairing.IsFileUnmended.{undrawn, stopped}
use Rattle.nc_vault.specs.Saying.{RepairRefuses}
use Rattle.nc_vault.specs.Saying.RepairsName.{mends, passes}
use Rattle.nc_vault.specs.Writing.{IsSettled, IsUnsettled, Proceeds, Settles, Tidies}
use Rattle.nc_vault.proofs.OneName.{grows_then, vault_of}
use Rattle.nc_vault.proofs.RecoverPart.{recover_alone, recover_begins, recover_proceeds, seen_fault, settle_counts, settle_part, settle_stops}
use Rattle.nc_vault.proofs.RepairLaws.{another_damaged, brings_stored, brings_unstored, files_stored, files_unstored, is_repair, mended_version, right_unstored, unstored}
use Rattle.nc_vault.proofs.TidyLaws.{settled_of_tidy}

-- why it wasn't settled is why it isn't repaired
settle_refuses : (n : ℕ) (s : Setting) (i : ℕ) (name : List ℕ) (G H : Contents) (f : SettleFault) → SettleRefuses n name G f → RepairRefuses n s i name G H (fault_of_settle f)
settle_refuses n s i name G H (settle.Cloud c) is = tt
settle_refuses n s i name G H (settle.Misplaced c a b) is = is
settle_refuses n s i name G H (settle.Conflict g a b) is = is
settle_refuses n s i name G H settle.Memory is = tt

-- ---- counts

no_more : (b : Bool) → ◌≡◌ {A = ℕ} (if b then 0 else 0) 0
no_more true = refl
no_more false = refl

got_nothing : (b : ℕ) → got_count b 0 ≡ b
got_nothing b = omega arith

last_generation : (n : ℕ) (m : Live) → IsLive n m → 2 ^ 64 - 2 ≤ m.generation → m.generation ≡ 2 ^ 64 - 2
last_generation n m fits last = let high = fits.generation.1 in omega (arith, last, high)

-- ---- states

module _ {A : Type 0} (F : FleetGhosts A) where
  pub advances_of : {old new : A} → Proceeds F old new → Advances F old new
  advances_of p = record { clouds = p.clouds; grows = p.grows; time = p.time }

  -- by the clauses of a call that deletes and lists nothing
  pub advances_by : {old new : A} → F.clouds new ≡ F.clouds old → Grows (F.faults old) (F.faults new) → F.slips new ≡ F.slips old → GoesOn F old new → Advances F old new
  advances_by clouds grows slips time = record {
    clouds = clouds;
    grows = record { faults = grows; slips = λ c. let same = ap (λ (f : ℕ → ℕ). f c) slips in omega (arith, same) };
    time = time;
  }

  pub advances_then : {old mid new : A} → Advances F old mid → Advances F mid new → Advances F old new
  advances_then {old} {mid} {new} a b = record {
    clouds = b.clouds ∙ a.clouds;
    grows = record {
      faults = grows_then (F.faults old) (F.faults mid) (F.faults new) a.grows.faults b.grows.faults;
      slips = grows_then (F.slips old) (F.slips mid) (F.slips new) a.grows.slips b.grows.slips;
    };
    time = goes_then a.time b.time;
  }

  -- where no delete failed, none did from a later state on
  slips_after : {old mid new : A} → Advances F old mid → NoneSlipped F old new → NoneSlipped F mid new
  slips_after {old} {mid} {new} a none = record {
    none = λ c l rose_after. none.none c (subst (λ (k : ℕ). c < k) a.clouds l) (rose_more (F.slips old c) (F.slips mid c) (F.slips new c) (a.grows.slips c) rose_after);
  }

-- ---- the part

module _ {A : Type 0} (F : FleetGhosts A) (s : Setting) (i : ℕ) (bytes name : List ℕ) (is : IsName name) where
  abbrev task : Task
  task = task_of s (act.Repair i) bytes

  -- what each stop up to a state leaves
  pub record Until (old new : A) : Type 0 where
    pub begins : F.tells → BeginsPart F task name old new
    pub alone : F.tells → Keeps F old new (ChangesOnlyName name (F.held old))
    pub advances : Advances F old new

  -- it was stopped
  stopped_by : {old new : A} (u : Until old new) (cause : Fault) → (IsSeenCause cause → F.held new ≡ F.held old) → PartCounts F.counts_exactly (F.faults old) (F.faults new) cause
      → (F.tells → RepairRefuses (F.clouds old) s i name (F.held old) (F.held new) cause)
      → (F.tells → (S : Entries) (D : Clouds) → Stands (F.clouds old) (F.held old) S D → PartStops F task name old new cause (vault_of (F.held old) S D))
      → PartStopped F task name cause old new
  stopped_by u cause kept counts refuses stops = record {
    clouds = u.advances.clouds;
    grows = u.advances.grows;
    time = u.advances.time;
    reads = tt;
    kept = kept;
    counts = counts;
    alone = u.alone;
    begins = u.begins;
    refuses = refuses;
    stops = λ told. record { each = stops told };
  }

  until_settled : {old mid : A} → Settles F name old mid → Until old mid
  until_settled p = record { begins = settle_part F task name p; alone = p.alone; advances = advances_of F p.proceeds }

  -- the name wasn't settled
  pub repair_unsettled : {old new : A} (f : SettleFault) → IsUnsettled F name old new f → PartStopped F task name (fault_of_settle f) old new
  repair_unsettled {old} {new} f u =
      stopped_by (until_settled u.settles) (fault_of_settle f) (λ seen. u.kept (seen_fault f seen)) (settle_counts F.counts_exactly (F.faults old) (F.faults new) f u.counts)
      (λ told. settle_refuses (F.clouds old) s i name (F.held old) (F.held new) f (u.refuses told))
      (λ told S D stands. settle_stops F task name new (vault_of (F.held old) S D) f is stands (u.refuses told))

  -- ---- it has no file

  module _ {old mid new : A} (top : Option Meta) (came : IsSettled F name old mid top) (none : IsLiveTop top → ⊥) {k : ℕ} (k_is : k ≡ F.clouds old) (t : Tidies F k name top mid new) where
    abbrev width : ℕ
    width = F.clouds old

    tidies_here : Tidies F width name top mid new
    tidies_here = subst (λ (h : ℕ). Tidies F h name top mid new) k_is t

    until_passed : Until old new
    until_passed = record {
      begins = recover_begins F task name is top came tidies_here;
      alone = recover_alone F task name is top came tidies_here;
      advances = advances_of F (recover_proceeds F task name is top came tidies_here);
    }

    pub pass_untidied : PartStopped F task name fault.Memory old new
    pass_untidied = stopped_by until_passed fault.Memory (λ seen. absurd seen) tt (λ told. tt) (λ told S D stands. tt)

    comes : F.tells → (S : Entries) (D : Clouds) → Stands width (F.held old) S D → ComesTo width name (vault_of (F.held old) S D) (F.held mid) top
    comes told S D stands = (came.comes told).each S D stands

    without : F.tells → (S : Entries) (D : Clouds) → Stands width (F.held old) S D → is_stored (version_in width (vault_of (F.held old) S D) name) ≡ false
    without told S D stands =
        unstored (version_in width (vault_of (F.held old) S D) name) (λ live. none (subst (λ (o : Option Meta). IsLiveTop o) (comes told S D stands).is_top live))

    passed_does : F.tells → DoesPart F task name old new
    passed_does told = record {
      each = λ S D stands.
          let x : Version = version_in width (vault_of (F.held old) S D) name in
          record {
            version = x;
            brought = brings_unstored width task i name x (without told S D stands);
            rests = (tidies_here.keeps told).here.rests S D x (comes told S D stands).is_top (comes told S D stands).rests;
            filled = λ c l fill. right_unstored width (F.held new) name x c (without told S D stands);
          };
    }

    module _ (wide : 4 ≤ width) (narrow : width ≤ 10) (tidy : F.tells → F.sure_deletes → NoneSlipped F mid new → IsTidy k (F.held new) name top) where
      settled_still : F.tells → IsSettledOn width (F.held new) name top
      settled_still told = (tidies_here.keeps told).here.settled wide narrow (came.settled told)

      pub passed : PartDone F task name 0 old new
      passed = record {
        clouds = until_passed.advances.clouds;
        grows = until_passed.advances.grows;
        time = until_passed.advances.time;
        few = omega arith;
        one = omega arith;
        took = λ c l. (recover_proceeds F task name is top came tidies_here).gets c ∙ sym (ap (got_count (F.chunk_gets old c)) (no_more (c == i)) ∙ got_nothing (F.chunk_gets old c));
        clean = λ exact c. ap (λ (f : ℕ → ℕ). f c) tidies_here.faults ∙ came.clean exact c;
        alone = until_passed.alone;
        begins = until_passed.begins;
        does = passed_does;
        counts = λ told. record { each = λ S D stands. files_unstored i (version_in width (vault_of (F.held old) S D) name) (without told S D stands) };
        leaves = λ told. passes (record { top = top; agreed = came.agreed told; not_live = none; settled = settled_still told });
        tidy = λ told sure plain slipped. record {
          top = top;
          settled = settled_still told;
          tidy = subst (λ (h : ℕ). IsTidy h (F.held new) name top) k_is (tidy told sure (slips_after F (advances_of F came.settles.proceeds) slipped));
        };
      }

  -- ---- it has one

  module _ {old mid : A} (m : Live) (came : IsSettled F name old mid (Some (meta.Live m))) where
    abbrev n : ℕ
    n = F.clouds old

    at : F.tells → (S : Entries) (D : Clouds) → Stands n (F.held old) S D → ComesTo n name (vault_of (F.held old) S D) (F.held mid) (Some (meta.Live m))
    at told S D stands = (came.comes told).each S D stands

    file_in : F.tells → (S : Entries) (D : Clouds) → Stands n (F.held old) S D → (v : List ℕ) × (version_in n (vault_of (F.held old) S D) name ≡ Stored m v)
    file_in told S D stands = version_is (version_in n (vault_of (F.held old) S D) name) m (at told S D stands).is_top

    -- it rests at it
    rests_file : (told : F.tells) (S : Entries) (D : Clouds) (stands : Stands n (F.held old) S D) → Rests n (F.held mid) D name (Stored m (file_in told S D stands).0)
    rests_file told S D stands = subst (λ (x : Version). Rests n (F.held mid) D name x) (file_in told S D stands).1 (at told S D stands).rests.rests

    -- ---- no code was drawn

    refused_worn : 2 ^ 64 - 2 ≤ m.generation → PartStopped F task name fault.Worn old mid
    refused_worn last =
        stopped_by (until_settled came.settles) fault.Worn (λ seen. absurd seen) came.clean
        (λ told. record { old = m; top = (came.agreed told).is_top; last = last_generation n m came.fits last })
        (λ told S D stands.
        subst (λ (x : Version). Prevents n task name x fault.Worn) (sym (file_in told S D stands).1) (refl, last))

    refused_spent : (tried : ℕ) → RefusesRepair s i name m (fault.Spent tried) → PartStopped F task name (fault.Spent tried) old mid
    refused_spent tried why =
        stopped_by (until_settled came.settles) (fault.Spent tried) (λ seen. absurd seen) came.clean
        (λ told. record { all = why.0; old = m; top = (came.agreed told).is_top; has_next = why.1; none = why.2 })
        (λ told S D stands.
        subst (λ (x : Version). Prevents n task name x (fault.Spent tried)) (sym (file_in told S D stands).1) (why.0, why.1, why.2))

    refused : (cause : Fault) → RefusesRepair s i name m cause → PartStopped F task name cause old mid
    refused fault.Worn why = refused_worn why
    refused (fault.Spent tried) why = refused_spent tried why
    refused fault.NoFile why = absurd why
    refused (fault.Cloud c) why = absurd why
    refused (fault.Damaged c r how) why = absurd why
    refused (fault.Short list) why = absurd why
    refused (fault.Conflict g a b) why = absurd why
    refused (fault.Misplaced c a b) why = absurd why
    refused (fault.Unsound a b) why = absurd why
    refused fault.Memory why = absurd why

    -- ---- the repair by it stopped

    module _ {plan : PlanParts} {good : GoodParts} (drawn : IsRepairDrawn s i name m plan good) where
      made_of : (x : Version) → meta_of x ≡ Some (meta.Live m) → (o : Option Version) → IfSome o (IsRepaired n i good x) → IfSome o (Makes n task name x)
      made_of x of None made = tt
      made_of x of (Some y) made = is_repair n s i name m plan good drawn x y of made

      until_mended : {end : A} → Mends F n name m i good mid end → Until old end
      until_mended w = record {
        begins = λ told. record {
          each = λ S D stands.
              let V : Vault = vault_of (F.held old) S D in
              keeps_then (((until_settled came.settles).begins told).each S D stands)
              (keeps_by (BeginsMaking n name (Makes n task name) V) ((w.begins told).each V (at told S D stands))
              (λ G b. record { made = b.made; makes_it = made_of (version_in n V name) (at told S D stands).is_top b.made b.makes_it; stands = b.stands }));
        };
        alone = λ told. alone_then F name (came.settles.alone told) (w.alone told);
        advances = advances_then F (advances_of F came.settles.proceeds) w.advances;
      }

    -- the chunk that a survivor gives isn't good
    finds_damaged : {end : A} (c r : ℕ) (how : How) → IsUnmendedBy F n s i name m mid end (repair.Damaged c r how) → PartStopped F task name (fault.Damaged c r how) old end
    finds_damaged {end} c r how u =
        stopped_by (until_mended u.drawn u.mends) (fault.Damaged c r how) (λ seen. absurd seen) (λ exact d low. u.cause exact d low ∙ came.clean exact d)
        (λ told. record {
          draws = record { old = m; agreed = came.agreed told; index = u.drawn.index; plan = u.plan; good = u.good; drawn = u.drawn.drawn };
          here = subst (λ (G : Contents). IsLeastDamaged n name m u.plan i G c r how) (sym u.kept) (u.stops told);
        })
        (λ told S D stands.
        another_damaged n name m (file_in told S D stands).0 (F.held mid) D (rests_file told S D stands).valid (rests_file told S D stands).places i u.plan u.is_plan c r how (u.stops told))

    unmended : {end : A} (why : RepairFault) → IsUnmendedBy F n s i name m mid end why → PartStopped F task name (fault_of_repair why) old end
    unmended {end} (repair.Cloud c) u =
        stopped_by (until_mended u.drawn u.mends) (fault.Cloud c) (λ seen. absurd seen)
        (rose_more (F.faults old c) (F.faults mid c) (F.faults end c) (came.settles.proceeds.grows.faults c) u.cause.0, λ exact d low. u.cause.1 exact d low ∙ came.clean exact d) (λ told. tt) (λ told S D stands. tt)
    unmended (repair.Damaged c r how) u = finds_damaged c r how u
    unmended repair.Worn u = absurd (u.not_worn refl)
    unmended repair.Memory u = stopped_by (until_mended u.drawn u.mends) fault.Memory (λ seen. absurd seen) tt (λ told. tt) (λ told S D stands. tt)

    file_unmended : {end : A} (cause : Fault) → IsFileUnmended F n s i name m mid end cause → PartStopped F task name cause old end
    file_unmended {end} cause (undrawn same why) = subst (λ (e : A). PartStopped F task name cause old e) (sym same) (refused cause why)
    file_unmended {end} cause (stopped why e u) = subst (λ (f : Fault). PartStopped F task name f old end) (sym e) (unmended why u)

    pub repair_unmended : {end : A} {k : ℕ} → k ≡ n → (cause : Fault) → IsFileUnmended F k s i name m mid end cause → PartStopped F task name cause old end
    repair_unmended {end} k_is cause u = file_unmended cause (subst (λ (h : ℕ). IsFileUnmended F h s i name m mid end cause) k_is u)

    -- ---- it is repaired, and tidied

    module _ {end new : A} (next : Option Meta) {k : ℕ} (k_is : k ≡ n) (mended_at : IsFileMended F k s i name m mid end next) {j : ℕ} (j_is : j ≡ n) (tidies : Tidies F j name next end new) where
      w : IsFileMended F n s i name m mid end next
      w = subst (λ (h : ℕ). IsFileMended F h s i name m mid end next) k_is mended_at

      t : Tidies F n name next end new
      t = subst (λ (h : ℕ). Tidies F h name next end new) j_is tidies

      made_at : F.tells → (S : Entries) (D : Clouds) → Stands n (F.held old) S D → DoesMaking n name (IsRepaired n i w.good) (vault_of (F.held old) S D) next (F.held end)
      made_at told S D stands = (w.does told).each (vault_of (F.held old) S D) (at told S D stands)

      makes_at : (told : F.tells) (S : Entries) (D : Clouds) (stands : Stands n (F.held old) S D) → IsRepair n s i name (version_in n (vault_of (F.held old) S D) name) (made_at told S D stands).version
      makes_at told S D stands =
          is_repair n s i name m w.plan w.good w.drawn (version_in n (vault_of (F.held old) S D) name) (made_at told S D stands).version (at told S D stands).is_top (made_at told S D stands).made

      rests_on : (told : F.tells) (S : Entries) (D : Clouds) (stands : Stands n (F.held old) S D) → Keeps F end new (λ G. RestsAt n G S D name (made_at told S D stands).version)
      rests_on told S D stands =
          let d : DoesMaking n name (IsRepaired n i w.good) (vault_of (F.held old) S D) next (F.held end) = made_at told S D stands in
          keeps_by (λ G. RestsAt n G S D name d.version) (t.keeps told) (λ G leaves. leaves.rests S D d.version d.is_top d.rests)

      until_tidied : Until old new
      until_tidied = record {
        begins = λ told. record {
          each = λ S D stands.
              let V : Vault = vault_of (F.held old) S D in
              let y : Version = (made_at told S D stands).version in
              keeps_then (((until_mended w.drawn w.mends).begins told).each S D stands)
              (keeps_by (BeginsMaking n name (Makes n task name) V) (rests_on told S D stands)
              (λ G rests. record {
                made = Some y;
                makes_it = makes_at told S D stands;
                stands = rests_after n (F.held old) G S D name y (Some y) is stands rests (makes_at told S D stands).made.next (inr refl);
              }));
        };
        alone = λ told. alone_then F name ((until_mended w.drawn w.mends).alone told) (t.alone told);
        advances = advances_then F (until_mended w.drawn w.mends).advances (advances_of F t.proceeds);
      }

      pub mend_untidied : PartStopped F task name fault.Memory old new
      mend_untidied = stopped_by until_tidied fault.Memory (λ seen. absurd seen) tt (λ told. tt) (λ told S D stands. tt)

      -- the repaired cloud has its chunks
      right_there : (told : F.tells) (S : Entries) (D : Clouds) (stands : Stands n (F.held old) S D) → RightOn n (F.held new) name (made_at told S D stands).version i
      right_there told S D stands =
          let x : Version = version_in n (vault_of (F.held old) S D) name in
          let v : List ℕ = (file_in told S D stands).0 in
          let d : DoesMaking n name (IsRepaired n i w.good) (vault_of (F.held old) S D) next (F.held end) = made_at told S D stands in
          let same : d.version ≡ Stored (mended_meta n i m w.good v) v = mended_version n i w.good x d.version m v (file_in told S D stands).1 d.made in
          let rests : Rests n (F.held mid) D name (Stored m v) = rests_file told S D stands in
          (t.keeps told).here.right d.version i d.is_top (subst (λ (y : Version). RightOn n (F.held end) name y i) (sym same) ((w.right told).each D v rests.valid rests.places).1)

      filled : (told : F.tells) (S : Entries) (D : Clouds) (stands : Stands n (F.held old) S D) (c : ℕ) → (c == i) ≡ true → RightOn n (F.held new) name (made_at told S D stands).version c
      filled told S D stands c fill =
          elim (eqb_tells c i) [
            | inl same ↦ subst (λ (k : ℕ). RightOn n (F.held new) name (made_at told S D stands).version k) (sym same.1) (right_there told S D stands)
            | inr differs ↦ absurd (let e : true ≡ false = sym fill ∙ differs.0 in cc)
          ]

      mended_does : F.tells → DoesPart F task name old new
      mended_does told = record {
        each = λ S D stands. record {
          version = (made_at told S D stands).version;
          brought = brings_stored n task i name (version_in n (vault_of (F.held old) S D) name) (made_at told S D stands).version m (file_in told S D stands).0 (file_in told S D stands).1 (makes_at told S D stands);
          rests = (rests_on told S D stands).here;
          filled = λ c l fill. filled told S D stands c fill;
        };
      }

      -- every cloud still holds its metadata
      held_still : F.tells → (c : ℕ) → c < n → HoldsIfAny n (F.held new) name c (Some (meta.Live (mended_by i m w.good w.made.zero w.made.one)))
      held_still told =
          (t.keeps told).here.held (Stored (mended_by i m w.good w.made.zero w.made.one) []) (sym w.made.is) (λ c l. subst (HoldsIfAny n (F.held end) name c) w.made.is (w.held told c l))

      module _ (wide : 4 ≤ n) (narrow : n ≤ 10) (tidy : F.tells → F.sure_deletes → NoneSlipped F end new → IsTidy j (F.held new) name next) where
        tidied : F.tells → F.sure_deletes → NoneSlipped F old new → IsTidied n (F.held new) name
        tidied told sure slipped =
            let left : IsTidy n (F.held new) name next = subst (λ (h : ℕ). IsTidy h (F.held new) name next) j_is (tidy told sure (slips_after F (until_mended w.drawn w.mends).advances slipped)) in
            record {
              top = next;
              settled = settled_of_tidy n (F.held new) name next wide narrow is (λ c l. subst (HoldsIfAny n (F.held new) name c) (sym w.made.is) (held_still told c l)) left;
              tidy = left;
            }

        pub mended : PartDone F task name 1 old new
        mended = record {
          clouds = until_tidied.advances.clouds;
          grows = until_tidied.advances.grows;
          time = until_tidied.advances.time;
          few = omega arith;
          one = omega arith;
          took = λ c l. t.proceeds.gets c ∙ w.gets c l ∙ ap (λ (b : ℕ). got_count b (fetched_of i c)) (came.settles.proceeds.gets c);
          clean = λ exact c. ap (λ (f : ℕ → ℕ). f c) t.faults ∙ w.clean exact c ∙ came.clean exact c;
          alone = until_tidied.alone;
          begins = until_tidied.begins;
          does = mended_does;
          counts = λ told. record { each = λ S D stands. files_stored i (version_in n (vault_of (F.held old) S D) name) m (file_in told S D stands).0 (file_in told S D stands).1 };
          leaves = λ told. mends (record {
            draws = record { old = m; agreed = came.agreed told; index = w.drawn.index; plan = w.plan; good = w.good; drawn = w.drawn.drawn };
            is_good = w.drawn.is_good;
            zero = w.made.zero;
            one = w.made.one;
            held = held_still told;
          });
          tidy = λ told sure plain. tidied told sure;
        }
