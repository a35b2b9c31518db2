-- What a restore does with one name: its parts put together.
use Rattle.std.proofs.Common.{◌≡◌, ◌<◌, ◌+◌, ℕ, true, false, Option, None, Some, List, length, inl, refl, sym, ap, ◌∙◌, subst, arith}
use Rattle.nc_name.specs.Names.{IsName}
use Rattle.nc_name.specs.declared.key.Key.TheVariants as key
use Rattle.nc_code.specs.Codes.{IsMds}
use Rattle.nc_mds.proofs.Shown.{first_not_mds}
use Rattle.nc_meta.specs.declared.meta.Live.{Live}
use Rattle.nc_meta.specs.declared.meta.Meta.{Meta}
use Rattle.nc_meta.specs.declared.meta.Meta.TheVariants as meta
use Rattle.nc_cloud.specs.Contents.{Contents, Rose}
use Rattle.nc_cloud.specs.Stopping.{Keeps}
use Rattle.nc_cloud.specs.declared.fleet.Fleet.{Ghosts as FleetGhosts}
use Rattle.nc_cloud.proofs.Counts.{rose_more}
use Rattle.nc_cloud.proofs.Time.{keeps_by, keeps_then}
use Rattle.nc_state.specs.Clouds.{Clouds}
use Rattle.nc_state.specs.Entries.{Rests}
use Rattle.nc_state.specs.Holding.{IsLiveTop}
use Rattle.nc_state.specs.Right.{PlacesStand, RightOn}
use Rattle.nc_state.specs.Showing.{AreBearable, together}
use Rattle.nc_state.specs.Standing.{Entries, Stands}
use Rattle.nc_state.specs.Vaults.{BeginsMaking, ChangesOnlyName, ComesTo, Vault, version_in}
use Rattle.nc_state.specs.Versions.{IsValid, Version, is_stored}
use Rattle.nc_state.specs.Versions.Version.{Never, Removed, Stored}
use Rattle.nc_state.proofs.Alone.{alone_then}
use Rattle.nc_state.proofs.CommandLaws.{rests_after}
use Rattle.nc_download.specs.declared.short.Bad.{Bad}
use Rattle.nc_download.specs.declared.short.Why.{Why}
use Rattle.nc_download.specs.declared.short.Why.TheVariants.{Failed, Row}
use Rattle.nc_download.proofs.ChunkLaws.{bad_row_is_damaged}
use Rattle.nc_settle.specs.declared.settled.SettleFault.{SettleFault}
use Rattle.nc_settle.specs.declared.settled.SettleFault.TheVariants as settle
use Rattle.nc_settle.specs.Settling.{HasSettleCause, SettleRefuses}
use Rattle.nc_settle.proofs.OnlyMetas.{chunk_stays}
use Rattle.nc_fetch.specs.Trying.{Outcome}
use Rattle.nc_fetch.specs.Whys.{free, why_at}
use Rattle.nc_repair.proofs.ChosenLaws.{version_is}
use Rattle.nc_restore.specs.declared.fault.RestoreFault.{RestoreFault}
use Rattle.nc_restore.specs.declared.fault.RestoreFault.TheVariants as restore
use Rattle.nc_restore.specs.Restored.{IsBadPlace}
use Rattle.nc_restore.specs.Restoring.{bads_outside}
use Rattle.nc_words.specs.declared.act.Act.{Act}
use Rattle.nc_words.specs.declared.act.Act.TheVariants as act
use Rattle.nc_words.specs.declared.setting.Setting.{Setting}
use Rattle.nc_words.specs.Acts.{Task, heals, task_of}
use Rattle.nc_vault.specs.declared.fault.Fault.{Fault}
use Rattle.nc_vault.specs.declared.fault.Fault.TheVariants as fault
use Rattle.nc_vault.specs.Counting.{HaveFailed, StayHealed}
use Rattle.nc_vault.specs.Faults.{fault_of_restore, fault_of_settle}
use Rattle.nc_vault.specs.Makings.{Makes}
use Rattle.nc_vault.specs.Parts.{BeginsPart, DoesPart, IsSeenCause, PartDone, PartStopped, PartStops, RestoreCounts, TooFewShow}
use Rattle.nc_vault.specs.Repairing.{Advances}
use Rattle.nc_vault.specs.Replies.{wrong_in}
use Rattle.nc_vault.specs.Restoring.{IsFileRestored, IsFileUnrestored, Restores}
use Rattle.nc_vault.specs.Saying.{IsShortFile, RestoreRefuses, RestoresName, TellsWhy}
use Rattle.nc_vault.specs.Writing.{IsSettled, IsUnsettled, Settles}
use Rattle.nc_vault.proofs.ChunksStay.{bad_there, settled_still, tells_there, wrong_there}
use Rattle.nc_vault.proofs.OneName.{vault_of}
use Rattle.nc_vault.proofs.RecoverPart.{seen_fault, settle_part, settle_stops}
use Rattle.nc_vault.proofs.RepairLaws.{right_unstored, unstored}
use Rattle.nc_vault.proofs.RepairPart.{advances_of, advances_then}
use Rattle.nc_vault.proofs.RestoreLaws.{few_good, have_failed, outcome_outside}

-- why it wasn't settled is why it isn't restored
settle_refuses : (n : ℕ) (P : Clouds) (name : List ℕ) (G : Contents) (f : SettleFault) → SettleRefuses n name G f → RestoreRefuses n P name G (fault_of_settle f)
settle_refuses n P name G (settle.Cloud c) is = tt
settle_refuses n P name G (settle.Misplaced c a b) is = is
settle_refuses n P name G (settle.Conflict g a b) is = is
settle_refuses n P name G settle.Memory is = tt

settle_heals : (exact : Type 0) (a : Act) (before now : ℕ → ℕ) (f : SettleFault) → HasSettleCause exact before now f → RestoreCounts exact a before now (fault_of_settle f)
settle_heals exact a before now (settle.Cloud c) cause = record { rose_here = cause.0; least = λ told d low heal. cause.1 told d low }
settle_heals exact a before now (settle.Misplaced c x y) cause = λ told c heal. cause told c
settle_heals exact a before now (settle.Conflict g x y) cause = λ told c heal. cause told c
settle_heals exact a before now settle.Memory cause = tt

-- a name without a file has no chunk that isn't right
wrong_unstored : (n : ℕ) (P : Clouds) (G : Contents) (name : List ℕ) (x : Version) → is_stored x ≡ false → ◌≡◌ {A = ℕ} 0 (wrong_in n P G name x)
wrong_unstored n P G name Never none = refl
wrong_unstored n P G name (Removed generation) none = refl
wrong_unstored n P G name (Stored m v) none = absurd cc

-- nor a code
sound_none : (t : Option Meta) → (IsLiveTop t → ⊥) → (m : Live) → t ≡ Some (meta.Live m) → IsMds m.code
sound_none None none m e = absurd cc
sound_none (Some (meta.Live k)) none m e = absurd (none tt)
sound_none (Some (meta.Gone generation)) none m e = absurd cc

-- what was found of a cloud that was tried
told_outcome : {A : Type 0} (F : FleetGhosts A) (name : List ℕ) (m : Live) (old new : A) (told : F.tells) (c : ℕ) (w : Option Why) → Outcome F name m old new c w → TellsWhy (F.clouds old) name m (F.held old) c w
told_outcome F name m old new told c None outcome = outcome.0 told
told_outcome F name m old new told c (Some Failed) outcome = tt
told_outcome F name m old new told c (Some (Row r how)) outcome = outcome.0 told

module _ {A : Type 0} (F : FleetGhosts A) (s : Setting) (first : ℕ) (second : Option ℕ) (bytes name : List ℕ) (is : IsName name) where
  abbrev task : Task
  task = task_of s (act.Restore first second) bytes

  -- the clouds that it makes whole
  abbrev healed : Clouds
  healed = heals (act.Restore first second)

  -- what each stop up to a state leaves
  pub record Until (old new : A) : Type 0 where
    pub begins : F.tells → BeginsPart F task name old new
    pub alone : F.tells → Keeps F old new (ChangesOnlyName name (F.held old))
    pub advances : Advances F old new

  -- it was stopped
  stopped_by : {old new : A} (u : Until old new) (cause : Fault) → (IsSeenCause cause → F.held new ≡ F.held old) → RestoreCounts F.counts_exactly (act.Restore first second) (F.faults old) (F.faults new) cause
      → (F.tells → RestoreRefuses (F.clouds old) healed name (F.held old) cause)
      → (F.tells → (S : Entries) (D : Clouds) → Stands (F.clouds old) (F.held old) S D → PartStops F task name old new cause (vault_of (F.held old) S D))
      → PartStopped F task name cause old new
  stopped_by u cause kept counts refuses stops = record {
    clouds = u.advances.clouds;
    grows = u.advances.grows;
    time = u.advances.time;
    reads = tt;
    kept = kept;
    counts = counts;
    alone = u.alone;
    begins = u.begins;
    refuses = refuses;
    stops = λ told. record { each = stops told };
  }

  until_settled : {old mid : A} → Settles F name old mid → Until old mid
  until_settled p = record { begins = settle_part F task name p; alone = p.alone; advances = advances_of F p.proceeds }

  -- the name wasn't settled
  pub restore_unsettled : {old new : A} (f : SettleFault) → IsUnsettled F name old new f → PartStopped F task name (fault_of_settle f) old new
  restore_unsettled {old} {new} f u =
      stopped_by (until_settled u.settles) (fault_of_settle f) (λ seen. u.kept (seen_fault f seen)) (settle_heals F.counts_exactly (act.Restore first second) (F.faults old) (F.faults new) f u.counts)
      (λ told. settle_refuses (F.clouds old) healed name (F.held old) f (u.refuses told))
      (λ told S D stands. settle_stops F task name new (vault_of (F.held old) S D) f is stands (u.refuses told))

  -- ---- it has no file

  module _ {old new : A} (top : Option Meta) (came : IsSettled F name old new top) (none : IsLiveTop top → ⊥) where
    without : F.tells → (S : Entries) (D : Clouds) → Stands (F.clouds old) (F.held old) S D → is_stored (version_in (F.clouds old) (vault_of (F.held old) S D) name) ≡ false
    without told S D stands =
        unstored (version_in (F.clouds old) (vault_of (F.held old) S D) name) (λ live. none (subst (λ (o : Option Meta). IsLiveTop o) ((came.comes told).each S D stands).is_top live))

    passed_does : F.tells → DoesPart F task name old new
    passed_does told = record {
      each = λ S D stands. record {
        version = version_in (F.clouds old) (vault_of (F.held old) S D) name;
        brought = refl;
        rests = ((came.comes told).each S D stands).rests;
        filled = λ c l fill. right_unstored (F.clouds old) (F.held new) name (version_in (F.clouds old) (vault_of (F.held old) S D) name) c (without told S D stands);
      };
    }

    pub restore_passed : PartDone F task name 0 old new
    restore_passed = record {
      clouds = came.settles.proceeds.clouds;
      grows = came.settles.proceeds.grows;
      time = came.settles.proceeds.time;
      few = omega arith;
      one = tt;
      took = tt;
      clean = λ exact c heal. came.clean exact c;
      alone = came.settles.alone;
      begins = settle_part F task name came.settles;
      does = passed_does;
      counts = λ told. record {
        each = λ S D stands. wrong_unstored (F.clouds old) healed (F.held old) name (version_in (F.clouds old) (vault_of (F.held old) S D) name) (without told S D stands);
      };
      leaves = λ told. record {
        top = top;
        agreed = came.agreed told;
        settled = came.settled told;
        sound = sound_none top none;
        kept = λ c slot row fine. chunk_stays name (F.held old) (F.held new) (came.chunks told) c name slot row;
      };
      tidy = λ told sure other slipped. absurd cc;
    }

  -- ---- it has one

  module _ {old mid : A} (m : Live) (came : IsSettled F name old mid (Some (meta.Live m))) where
    abbrev n : ℕ
    n = F.clouds old

    same_width : F.clouds mid ≡ n
    same_width = came.settles.proceeds.clouds

    at : F.tells → (S : Entries) (D : Clouds) → Stands n (F.held old) S D → ComesTo n name (vault_of (F.held old) S D) (F.held mid) (Some (meta.Live m))
    at told S D stands = (came.comes told).each S D stands

    file_in : F.tells → (S : Entries) (D : Clouds) → Stands n (F.held old) S D → (v : List ℕ) × (version_in n (vault_of (F.held old) S D) name ≡ Stored m v)
    file_in told S D stands = version_is (version_in n (vault_of (F.held old) S D) name) m (at told S D stands).is_top

    -- it rests at it
    rests_file : (told : F.tells) (S : Entries) (D : Clouds) (stands : Stands n (F.held old) S D) → Rests n (F.held mid) D name (Stored m (file_in told S D stands).0)
    rests_file told S D stands = subst (λ (x : Version). Rests n (F.held mid) D name x) (file_in told S D stands).1 (at told S D stands).rests.rests

    -- settling left its chunks
    stay : F.tells → (c slot row : ℕ) → F.held mid c (key.Chunk name slot row) ≡ F.held old c (key.Chunk name slot row)
    stay told c slot row = chunk_stays name (F.held old) (F.held mid) (came.chunks told) c name slot row

    until_restored : {end : A} → Restores F n name m healed mid end → Until old end
    until_restored w = record {
      begins = λ told. record {
        each = λ S D stands.
            let V : Vault = vault_of (F.held old) S D in
            keeps_then (((until_settled came.settles).begins told).each S D stands)
            (keeps_by (BeginsMaking n name (Makes n task name) V) ((w.rests told).each V (at told S D stands))
            (λ G rests. record {
              made = None;
              makes_it = tt;
              stands = rests_after n (F.held old) G S D name (version_in n V name) None is stands rests tt (inl refl);
            }));
      };
      alone = λ told. alone_then F name (came.settles.alone told) (w.alone told);
      advances = advances_then F (advances_of F came.settles.proceeds) w.advances;
    }

    -- ---- it is restored

    module _ {end : A} (count : ℕ) (w : IsFileRestored F n name m healed mid end count) where
      restored_does : F.tells → DoesPart F task name old end
      restored_does told = record {
        each = λ S D stands.
            let V : Vault = vault_of (F.held old) S D in
            let v : List ℕ = (file_in told S D stands).0 in
            let rests : Rests n (F.held mid) D name (Stored m v) = rests_file told S D stands in
            record {
              version = version_in n V name;
              brought = refl;
              rests = ((w.restores.rests told).each V (at told S D stands)).here;
              filled = λ c l fill. subst (λ (x : Version). RightOn n (F.held end) name x c) (sym (file_in told S D stands).1) ((w.right told).each D v rests.valid rests.places c l fill);
            };
      }

      counted : (told : F.tells) (S : Entries) (D : Clouds) → Stands n (F.held old) S D → count ≡ wrong_in n healed (F.held old) name (version_in n (vault_of (F.held old) S D) name)
      counted told S D stands =
          let v : List ℕ = (file_in told S D stands).0 in
          let rests : Rests n (F.held mid) D name (Stored m v) = rests_file told S D stands in
          (w.counts told).each D v rests.valid rests.places ∙ wrong_there n name m (F.held old) (F.held mid) (stay told) v healed
          ∙ sym (ap (λ (x : Version). wrong_in n healed (F.held old) name x) (file_in told S D stands).1)

      restored_leaves : F.tells → RestoresName n healed name (F.held old) (F.held end)
      restored_leaves told = record {
        top = Some (meta.Live m);
        agreed = came.agreed told;
        settled = settled_still n name m healed (F.held mid) (F.held end) (w.restores.healthy told).here (Some (meta.Live m)) (came.settled told);
        sound = λ k e. let same : m ≡ k = cc in subst (λ (l : Live). IsMds l.code) same w.sound;
        kept = λ c slot row fine.
            (w.restores.healthy told).here.others c (key.Chunk name slot row) (λ bad. fine (bad_there n name m (F.held old) (F.held mid) (stay told) healed c (key.Chunk name slot row) bad))
            ∙ stay told c slot row;
      }

      file_restored : PartDone F task name count old end
      file_restored = record {
        clouds = (until_restored w.restores).advances.clouds;
        grows = (until_restored w.restores).advances.grows;
        time = (until_restored w.restores).advances.time;
        few = w.few;
        one = tt;
        took = tt;
        clean = λ exact c heal. w.clean exact c heal ∙ came.clean exact c;
        alone = (until_restored w.restores).alone;
        begins = (until_restored w.restores).begins;
        does = restored_does;
        counts = λ told. record { each = counted told };
        leaves = restored_leaves;
        tidy = λ told sure other slipped. absurd cc;
      }

    pub restored : {end : A} (count : ℕ) → IsFileRestored F (F.clouds mid) name m healed mid end count → PartDone F task name count old end
    restored {end} count w = file_restored count (subst (λ (k : ℕ). IsFileRestored F k name m healed mid end count) same_width w)

    -- ---- it isn't

    -- no cloud that it makes whole failed before
    clean_then : {end : A} → (F.counts_exactly → (c : ℕ) → healed c ≡ true → F.faults end c ≡ F.faults mid c) → F.counts_exactly → StayHealed (act.Restore first second) (F.faults old) (F.faults end)
    clean_then clean exact c heal = clean exact c heal ∙ came.clean exact c

    rose_then : {end : A} (c : ℕ) → Rose (F.faults mid c) (F.faults end c) → Rose (F.faults old c) (F.faults end c)
    rose_then {end} c rose = rose_more (F.faults old c) (F.faults mid c) (F.faults end c) (came.settles.proceeds.grows.faults c) rose

    -- too few other clouds are good
    module _ {end : A} (list : List Bad) (u : IsFileUnrestored F n name m healed mid end (restore.Short list)) where
      failed_short : HaveFailed list (F.faults old) (F.faults end)
      failed_short = record {
        each = λ b among failed.
            rose_then b.cloud
            (rose_more (F.faults mid b.cloud) (F.faults u.short.mid b.cloud) (F.faults end b.cloud) (u.short.looked.grows b.cloud)
            ((have_failed F name m healed u.short.mid end list u.short.lacks).each b among failed));
      }

      -- of as many clouds
      tried_width : F.clouds u.short.mid ≡ n
      tried_width = u.short.looked.clouds ∙ same_width

      tells_outside : F.tells → (c : ℕ) → c < n → healed c ≡ false → TellsWhy n name m (F.held old) c (why_at u.short.lacks.whys c)
      tells_outside told c l out =
          let w : Option Why = why_at u.short.lacks.whys c in
          let outcome : Outcome F name m u.short.mid end c w =
          outcome_outside F name m healed u.short.mid end list u.short.lacks c (subst (λ (k : ℕ). c < k) (sym tried_width) l) out in
          tells_there n name m (F.held old) (F.held mid) (stay told) c w
          (subst (λ (H : Contents). TellsWhy n name m H c w) u.short.looked.held
          (subst (λ (k : ℕ). TellsWhy k name m (F.held u.short.mid) c w) tried_width (told_outcome F name m u.short.mid end told c w outcome)))

      -- a chunk on a cloud that it makes whole isn't good
      bad_chunk : (told : F.tells) → IsBadPlace n name m healed (F.held mid) (u.short.bad told).0 (u.short.bad told).1
      bad_chunk told = subst (λ (k : ℕ). IsBadPlace k name m healed (F.held mid) (u.short.bad told).0 (u.short.bad told).1) same_width (u.short.bad told).2

      short_file : F.tells → IsShortFile n healed name (F.held old) list
      short_file told = record {
        old = m;
        agreed = came.agreed told;
        sound = u.sound;
        cloud = (u.short.bad told).0;
        place = (u.short.bad told).1;
        bad = bad_there n name m (F.held old) (F.held mid) (stay told) healed (u.short.bad told).0 (u.short.bad told).1 (bad_chunk told);
        whys = u.short.lacks.whys;
        tells = tells_outside told;
        few = few_good n healed u.short.lacks.whys (subst (λ (k : ℕ). length (free u.short.lacks.whys 0 k) + 2 < k) tried_width u.short.lacks.few);
        listed = subst (λ (k : ℕ). list ≡ bads_outside healed u.short.lacks.whys k) tried_width u.short.lacks.listed;
      }

      few_show : (told : F.tells) (S : Entries) (D : Clouds) → Stands n (F.held old) S D → TooFewShow F (act.Restore first second) old end (vault_of (F.held old) S D)
      few_show told S D stands =
          let v : List ℕ = (file_in told S D stands).0 in
          let rests : Rests n (F.held mid) D name (Stored m v) = rests_file told S D stands in
          let c : ℕ = (u.short.bad told).0 in
          let bad : IsBadPlace n name m healed (F.held mid) c (u.short.bad told).1 = bad_chunk told in
          record {
            heals_one = record {
              cloud = c;
              in_width = bad.within;
              healed = bad.one;
              damaged = bad_row_is_damaged n name m v (F.held mid) D rests.valid rests.places c bad.row bad.how bad.within bad.pair bad.bad;
            };
            each = λ X risen bearable.
                (u.shows told).each D v (subst (λ (k : ℕ). IsValid k (Stored m v)) (sym same_width) rests.valid)
                (subst (λ (k : ℕ). PlacesStand k (F.held mid) D name (Stored m v)) (sym same_width) rests.places) X
                (record { each = λ c l rose. risen.each c (subst (λ (k : ℕ). c < k) same_width l) (rose_then c rose) })
                (subst (λ (k : ℕ). AreBearable k (together D healed) X) (sym same_width) bearable);
          }

      unrestored_short : PartStopped F task name (fault.Short list) old end
      unrestored_short = stopped_by (until_restored u.restores) (fault.Short list) (λ seen. absurd seen) (clean_then u.cause, failed_short) short_file few_show

    file_unrestored : {end : A} (why : RestoreFault) → IsFileUnrestored F n name m healed mid end why → PartStopped F task name (fault_of_restore why) old end
    file_unrestored {end} (restore.Cloud c) u =
        stopped_by (until_restored u.restores) (fault.Cloud c) (λ seen. absurd seen)
        (record { rose_here = rose_then c u.cause.rose; least = λ exact d low heal. u.cause.lower exact d low heal ∙ came.clean exact d }) (λ told. tt) (λ told S D stands. tt)
    file_unrestored (restore.Short list) u = unrestored_short list u
    file_unrestored {end} (restore.Unsound a b) u =
        stopped_by (until_restored u.restores) (fault.Unsound a b) (λ seen. absurd seen) (clean_then (λ exact c heal. u.cause c))
        (λ told. record { old = m; agreed = came.agreed told; kernel = u.sound.0; first = u.sound.1 })
        (λ told S D stands. first_not_mds m.code a b u.sound.0 u.sound.1 (rests_file told S D stands).valid.mds)
    file_unrestored restore.Memory u = stopped_by (until_restored u.restores) fault.Memory (λ seen. absurd seen) tt (λ told. tt) (λ told S D stands. tt)

    pub unrestored : {end : A} (why : RestoreFault) → IsFileUnrestored F (F.clouds mid) name m healed mid end why → PartStopped F task name (fault_of_restore why) old end
    unrestored {end} why u = file_unrestored why (subst (λ (k : ℕ). IsFileUnrestored F k name m healed mid end why) same_width u)
