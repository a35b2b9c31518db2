-- How far an act on all names has come, between two names.
use Rattle.std.proofs.Common.{◌≡◌, ◌<◌, ◌≤◌, ◌+◌, ◌*◌, ℕ, true, false, Some, List, [], Contains, take, slice_get, inl, inr, refl, sym, ap, ◌∙◌, subst, arith}
use Rattle.nc_name.specs.Counts.{Rose}
use Rattle.nc_cloud.specs.Contents.{Contents}
use Rattle.nc_cloud.specs.Stopping.{GoesOn}
use Rattle.nc_cloud.specs.declared.fleet.Fleet.{Ghosts as FleetGhosts}
use Rattle.nc_cloud.proofs.Counts.{rose_more}
use Rattle.nc_cloud.proofs.Time.{goes_then, stops_more}
use Rattle.nc_state.specs.Clouds.{Clouds}
use Rattle.nc_state.specs.Standing.{AreNames, Entries, Stands}
use Rattle.nc_state.specs.Vaults.{ForEachVault, Vault}
use Rattle.nc_names.specs.Listing.{OnlyListed}
use Rattle.nc_write.specs.Tidying.{NoneSlipped}
use Rattle.nc_words.specs.declared.act.Act.{Act}
use Rattle.nc_words.specs.declared.setting.Setting.{Setting}
use Rattle.nc_words.specs.Acts.{Task, sweeps, task_of}
use Rattle.nc_vault.specs.Acting.{IsTidied}
use Rattle.nc_vault.specs.Counting.{CountsGrow, may_read_chunks, restores}
use Rattle.nc_vault.specs.Parts.{AtMost, CleanPart, NamesKept, PartDone, TookPart, counted_in}
use Rattle.nc_vault.specs.Saying.{LeavesName}
use Rattle.nc_vault.specs.Sweeping.{PartReads, files_among}
use Rattle.nc_vault.specs.Vaults.{StandsBegun, StandsFinished}
use Rattle.nc_vault.specs.Vaults.Begins.{not_yet}
use Rattle.nc_vault.specs.declared.reply.Reply.TheVariants as reply
use Rattle.nc_vault.proofs.Members.{in_none, more_cases, more_in, next_in, one_more}
use Rattle.nc_vault.proofs.NameLaws.{name_untouched, names_begin, version_is}
use Rattle.nc_vault.proofs.NameParts.{kept_more, of_here}
use Rattle.nc_vault.proofs.OneName.{grows_then, vault_of}
use Rattle.nc_vault.proofs.SameAct.{leaves_from, leaves_to}
use Rattle.nc_vault.proofs.SameName.{SameObjects, tidied_there}
use Rattle.nc_vault.proofs.SweepActs.{clean_none, clean_then, costs_none, costs_then, counted_same, files_more, most_more, most_none, sweep_works, took_more, took_none}

-- It began at `old`, is done with so many of these names, and counted so much of them.
pub record SweptSoFar {A : Type 0} (F : FleetGhosts A) (task : Task) (names : List (List ℕ)) (done files : ℕ) (old now : A) : Type 0 where
  pub clouds : F.clouds now ≡ F.clouds old
  pub grows : CountsGrow F old now
  pub time : GoesOn F old now
  pub took : TookPart (F.clouds old) task.act files (F.chunk_gets old) (F.chunk_gets now)
  pub reads : PartReads F task.act old now
  pub clean : F.counts_exactly → CleanPart task.act (F.faults old) (F.faults now)
  pub unchanged : done ≡ 0 → F.held now ≡ F.held old
  pub others : F.tells → (name : List ℕ) → (Contains (take done names) name → ⊥) → SameObjects (F.held old) (F.held now) name
  pub leaves : F.tells → (name : List ℕ) → Contains (take done names) name → LeavesName (F.clouds old) task.setting task.act name (F.held old) (F.held now)
  pub tidied : F.tells → F.sure_deletes → restores task.act ≡ false → NoneSlipped F old now → (name : List ℕ) → Contains (take done names) name → IsTidied (F.clouds old) (F.held now) name
  pub kept : F.tells → ForEachVault (F.clouds old) (F.held old) (NamesKept F (F.clouds old) task names done old now)
  pub counts : F.tells → ForEachVault (F.clouds old) (F.held old) (λ V. files ≡ files_among (F.clouds old) task.act V (take done names))

-- the same whatever the bytes of the task; a repair counts no more files than names, a restore at most four chunks of each
pub record Sweeping {A : Type 0} (F : FleetGhosts A) (s : Setting) (a : Act) (names : List (List ℕ)) (done files : ℕ) (old now : A) : Type 0 where
  pub few : files ≤ 4 * done
  pub most : AtMost a files done
  pub clouds : F.clouds now ≡ F.clouds old
  pub so : (bytes : List ℕ) → SweptSoFar F (task_of s a bytes) names done files old now

-- contents that stand do so for an act that has done nothing
begun_none : (n : ℕ) (task : Task) (V : Vault) → Stands n V.contents V.entries V.damaged → StandsBegun n task V V.contents
begun_none n task V stands = record { vault = V; contents = refl; stands = stands; done = 0; begun = not_yet refl refl }

rose_later : (a b c : ℕ) → Rose a b → b ≤ c → Rose a c
rose_later a b c rose low = omega (arith, rose, low)

module _ {A : Type 0} (F : FleetGhosts A) where
  pub listed_grows : {old new : A} → OnlyListed F old new → CountsGrow F old new
  listed_grows listed = record { faults = λ c. let same = ap (λ (f : ℕ → ℕ). f c) listed.faults in omega (arith, same); slips = listed.grows }

  pub grows_both : {old mid new : A} → CountsGrow F old mid → CountsGrow F mid new → CountsGrow F old new
  grows_both {old} {mid} {new} first second = record {
    faults = grows_then (F.faults old) (F.faults mid) (F.faults new) first.faults second.faults;
    slips = grows_then (F.slips old) (F.slips mid) (F.slips new) first.slips second.slips;
  }

  module _ (s : Setting) (a : Act) (act_is : sweeps a ≡ true) (bytes : List ℕ) where
    abbrev task : Task
    task = task_of s a bytes

    -- the clouds were listed, and no name was worked on
    pub so_far_none : (names : List (List ℕ)) {old now : A} → OnlyListed F old now → SweptSoFar F task names 0 0 old now
    so_far_none names {old} {now} listed = record {
      clouds = listed.clouds;
      grows = listed_grows listed;
      time = listed.stops.time;
      took = took_none a act_is (F.clouds old) (F.chunk_gets old) (F.chunk_gets now) (λ c. ap (λ (f : ℕ → ℕ). f c) listed.gets);
      reads = costs_none (may_read_chunks a (reply.Settled 0)) (F.chunk_gets old) (F.chunk_gets now) (λ c. ap (λ (f : ℕ → ℕ). f c) listed.gets);
      clean = λ exact. clean_none a act_is (F.faults old) (F.faults now) (λ c. ap (λ (f : ℕ → ℕ). f c) listed.faults);
      unchanged = λ none. listed.held;
      others = λ told name out c place of. ap (λ (G : Contents). G c place) listed.held;
      leaves = λ told name among. absurd (in_none name among);
      tidied = λ told sure plain none name among. absurd (in_none name among);
      kept = λ told. record {
        each = λ S D stands. record {
          stops = stops_more listed.stops (λ G is. subst (StandsBegun (F.clouds old) task (vault_of (F.held old) S D)) (sym is) (begun_none (F.clouds old) task (vault_of (F.held old) S D) stands));
          reached = subst (StandsFinished (F.clouds old) task (vault_of (F.held old) S D) names 0) (sym listed.held) (names_begin (F.clouds old) task (vault_of (F.held old) S D) names stands);
        };
      };
      counts = λ told. record { each = λ S D stands. refl };
    }

    -- it is done with the next of the names
    module _ (names : List (List ℕ)) {old mid new : A} (done files more : ℕ) (name : List ℕ) (next : slice_get names done ≡ Some name) (is_new : Contains (take done names) name → ⊥)
        (so : SweptSoFar F task names done files old mid) (p : PartDone F task name more mid new) (reads : PartReads F a mid new) where
      abbrev n : ℕ
      n = F.clouds old

      same_later : F.tells → (other : List ℕ) → (other ≡ name → ⊥) → SameObjects (F.held mid) (F.held new) other
      same_later told other differ c place of = (p.alone told).here.others c place (λ e. differ (sym of ∙ e))

      early_differs : (other : List ℕ) → Contains (take done names) other → other ≡ name → ⊥
      early_differs other early e = is_new (subst (Contains (take done names)) e early)

      late_differs : (other : List ℕ) → (Contains (take (done + 1) names) other → ⊥) → other ≡ name → ⊥
      late_differs other out e = out (subst (Contains (take (done + 1) names)) (sym e) (next_in names done name next))

      same_before : F.tells → SameObjects (F.held mid) (F.held old) name
      same_before told c place of = sym (so.others told name is_new c place of)

      leaves_each : F.tells → (other : List ℕ) → Contains (take (done + 1) names) other → LeavesName n s a other (F.held old) (F.held new)
      leaves_each told other among =
          elim (more_cases names done name next other among) [
            | inl early ↦ leaves_to n (F.held mid) (F.held new) other (same_later told other (early_differs other early)) s a (F.held old) (so.leaves told other early)
            | inr e ↦
                subst (λ (k : List ℕ). LeavesName n s a k (F.held old) (F.held new)) e
                (leaves_from n (F.held mid) (F.held old) name (same_before told) s a (F.held new) (subst (λ (k : ℕ). LeavesName k s a name (F.held mid) (F.held new)) so.clouds (p.leaves told)))
          ]

      -- no count rose up to the name, nor in its part
      slipped_before : NoneSlipped F old new → NoneSlipped F old mid
      slipped_before none = record { none = λ c l rose. none.none c l (rose_later (F.slips old c) (F.slips mid c) (F.slips new c) rose (p.grows.slips c)) }

      slipped_here : NoneSlipped F old new → NoneSlipped F mid new
      slipped_here none = record {
        none = λ c l rose. none.none c (subst (λ (k : ℕ). c < k) so.clouds l) (rose_more (F.slips old c) (F.slips mid c) (F.slips new c) (so.grows.slips c) rose);
      }

      tidied_each : F.tells → F.sure_deletes → restores a ≡ false → NoneSlipped F old new → (other : List ℕ) → Contains (take (done + 1) names) other → IsTidied n (F.held new) other
      tidied_each told sure plain none other among =
          elim (more_cases names done name next other among) [
            | inl early ↦ tidied_there n (F.held mid) (F.held new) other (same_later told other (early_differs other early)) (so.tidied told sure plain (slipped_before none) other early)
            | inr e ↦ subst (IsTidied n (F.held new)) e (subst (λ (k : ℕ). IsTidied k (F.held new) name) so.clouds (p.tidy told sure plain (slipped_here none)))
          ]

      module _ (told : F.tells) (S : Entries) (D : Clouds) (stands : Stands n (F.held old) S D) where
        abbrev from : Vault
        from = vault_of (F.held old) S D

        kept_here : NamesKept F n task names done old mid from
        kept_here = (so.kept told).each S D stands

        -- what it counts of the name is what it would have counted of it at the beginning
        more_is : more ≡ counted_in n a from name
        more_is =
            of_here (λ W. more ≡ counted_in n a W name) kept_here.reached
            (subst (λ (k : ℕ). ForEachVault k (F.held mid) (λ W. more ≡ counted_in k a W name)) so.clouds (p.counts told))
            ∙ counted_same a act_is n from kept_here.reached.vault name (version_is n task from names done (F.held mid) name next is_new kept_here.reached)
            (name_untouched n task from names done (F.held mid) name next is_new kept_here.reached).objects

        counts_more : files + more ≡ files_among n a from (take (done + 1) names)
        counts_more =
            ap (λ (k : ℕ). k + more) ((so.counts told).each S D stands) ∙ ap (λ (k : ℕ). files_among n a from (take done names) + k) more_is
            ∙ sym (files_more n a from (take done names) name) ∙ ap (λ (ns : List (List ℕ)). files_among n a from ns) (sym (one_more names done name next))

      so_far_more : (F.tells → AreNames n (F.held old) names) → SweptSoFar F task names (done + 1) (files + more) old new
      so_far_more are = record {
        clouds = p.clouds ∙ so.clouds;
        grows = grows_both so.grows p.grows;
        time = goes_then so.time p.time;
        took = took_more a act_is n (F.chunk_gets old) (F.chunk_gets mid) (F.chunk_gets new) files more so.took
            (subst (λ (k : ℕ). TookPart k a more (F.chunk_gets mid) (F.chunk_gets new)) so.clouds p.took);
        reads = costs_then (may_read_chunks a (reply.Settled 0)) (F.chunk_gets old) (F.chunk_gets mid) (F.chunk_gets new) so.reads reads;
        clean = λ exact. clean_then a act_is (F.faults old) (F.faults mid) (F.faults new) (so.clean exact) (p.clean exact);
        unchanged = λ none. absurd (omega (arith, none));
        others = λ told other out c place of. same_later told other (late_differs other out) c place of ∙ so.others told other (λ early. out (more_in names done name next other early)) c place of;
        leaves = leaves_each;
        tidied = tidied_each;
        kept = λ told. record {
          each = λ S D stands.
              kept_more F n task (vault_of (F.held old) S D) names (sweep_works a act_is n (F.held old) names (are told)) done (kept_here told S D stands) name next is_new so.clouds
              (p.begins told) (p.alone told) (p.does told);
        };
        counts = λ told. record { each = λ S D stands. counts_more told S D stands };
      }

  module _ (s : Setting) (a : Act) (act_is : sweeps a ≡ true) (names : List (List ℕ)) {old now : A} where
    pub sweeping_none : OnlyListed F old now → Sweeping F s a names 0 0 old now
    sweeping_none listed = record { few = omega arith; most = most_none a act_is; clouds = listed.clouds; so = λ bytes. so_far_none s a act_is bytes names listed }

    pub sweeping_more : {new : A} (done files more : ℕ) (name : List ℕ) → slice_get names done ≡ Some name → (Contains (take done names) name → ⊥) → Sweeping F s a names done files old now
        → ((bytes : List ℕ) → PartDone F (task_of s a bytes) name more now new) → PartReads F a now new → (F.tells → AreNames (F.clouds old) (F.held old) names)
        → Sweeping F s a names (done + 1) (files + more) old new
    sweeping_more done files more name next is_new is parts reads are = record {
      few = let low = is.few in let four = (parts []).few in omega (arith, low, four);
      most = most_more a act_is files more done is.most (parts []).one;
      clouds = (parts []).clouds ∙ is.clouds;
      so = λ bytes. so_far_more s a act_is bytes names done files more name next is_new (is.so bytes) (parts bytes) reads are;
    }
