-- How an act on all names is answered, where it is stopped and where it is done.
use Rattle.std.proofs.Common.{◌≡◌, ◌||◌, ◌&&◌, ℕ, Bool, true, false, Some, List, [], Contains, length, take, slice_get, inr, refl, sym, ap, ◌∙◌, subst}
use Rattle.std.proofs.lemmas.List.Elements.{Contains-get_or}
use Rattle.std.proofs.lemmas.Option.{get_or_from_slice_get}
use Rattle.nc_cloud.specs.Contents.{Contents}
use Rattle.nc_cloud.specs.Deciding.{HasCause}
use Rattle.nc_cloud.specs.Stopping.{GoesOn, Keeps}
use Rattle.nc_cloud.specs.declared.deciding.RoundFault.{RoundFault}
use Rattle.nc_cloud.specs.declared.deciding.RoundFault.TheVariants as round
use Rattle.nc_cloud.specs.declared.fleet.Fleet.{Ghosts as FleetGhosts}
use Rattle.nc_cloud.proofs.Time.{goes_then}
use Rattle.nc_state.specs.Clouds.{Clouds}
use Rattle.nc_state.specs.Standing.{AreNames, Entries, Stands}
use Rattle.nc_state.specs.Vaults.{ForEachVault, Vault}
use Rattle.nc_names.specs.Listing.{IsOfCloud, OnlyListed}
use Rattle.nc_words.specs.declared.act.Act.{Act}
use Rattle.nc_words.specs.declared.setting.Setting.{Setting}
use Rattle.nc_words.specs.Acts.{FitsWidth, Task, sweeps, task_of}
use Rattle.nc_vault.specs.declared.fault.Fault.{Fault}
use Rattle.nc_vault.specs.declared.reply.Reply.{Reply}
use Rattle.nc_vault.specs.declared.reply.Reply.TheVariants as reply
use Rattle.nc_vault.specs.Acting.{Acted, Changes, LeavesTidy, StaysBefore}
use Rattle.nc_vault.specs.Counting.{CostsBy, CountsSay, failing_in, may_read_chunks, rose}
use Rattle.nc_vault.specs.Faults.{fault_of_round}
use Rattle.nc_vault.specs.Parts.{AtMost, NamesKept, PartStopped, PartStops}
use Rattle.nc_vault.specs.Replies.{StopsFor}
use Rattle.nc_vault.specs.Saying.{LeavesName, NameRefuses}
use Rattle.nc_vault.specs.Sweeping.{PartReads, files_among, sweep_reply}
use Rattle.nc_vault.specs.Vaults.{StandsBegunAt, TellsDone}
use Rattle.nc_vault.specs.Vaults.Begins.{not_yet}
use Rattle.nc_vault.proofs.Members.{next_within, take_whole}
use Rattle.nc_vault.proofs.NameLaws.{version_is}
use Rattle.nc_vault.proofs.NameParts.{kept_end, kept_stopped, of_here, stopped_at}
use Rattle.nc_vault.proofs.OneName.{rose_is, vault_of}
use Rattle.nc_vault.proofs.SameAct.{refuses_from}
use Rattle.nc_vault.proofs.SameName.{SameObjects}
use Rattle.nc_vault.proofs.SweepActs.{costs_none, costs_then, done_before, done_counts, done_end, done_kind, done_replies, done_says, done_tidy, done_took, list_memory, list_names, list_refuses, name_refuses, part_before, part_counts, part_stops, sweep_changes, sweep_lists, sweep_only, sweep_reads, sweep_says, sweep_sees, sweep_stopped, sweep_tells, sweep_unread, sweep_untold, sweep_works}
use Rattle.nc_vault.proofs.SweepStates.{SweptSoFar, grows_both, listed_grows, so_far_none}

-- one of two did
second_did : (a b : Bool) → (b || false) ≡ true → (a || b) ≡ true
second_did true b is = refl
second_did false true is = refl
second_did false false is = is

-- a name of the clouds is among all of them
among_names : (n : ℕ) (G : Contents) (names others : List (List ℕ)) (name : List ℕ) → AreNames n G names → AreNames n G others → Contains others name → Contains names name
among_names n G names others name are these among = let at = these.only name among in subst (Contains names) at.3 (are.all at.0 at.2 at.1 at.4)

module _ {A : Type 0} (F : FleetGhosts A) (s : Setting) (a : Act) (act_is : sweeps a ≡ true) (bytes : List ℕ) where
  abbrev task : Task
  task = task_of s a bytes

  -- whatever is held, it may be
  any_change : {old new : A} → GoesOn F old new → Keeps F old new (Changes a (F.held old))
  any_change {old} {new} time = record { here = sweep_changes a act_is (F.held old) (F.held new); stops = record { time = time; each = λ t G le is. inr (sweep_changes a act_is (F.held old) G) } }

  costs_of : (old new : A) (answer : Reply) → PartReads F a old new → CostsBy (may_read_chunks a answer) (F.chunk_gets old) (F.chunk_gets new)
  costs_of old new answer reads = subst (λ (b : Bool). CostsBy b (F.chunk_gets old) (F.chunk_gets new)) (sym (sweep_reads a act_is answer)) reads

  -- ---- a list failed

  module _ {old new : A} (listed : OnlyListed F old new) where
    list_counts : (f : RoundFault) → HasCause F.counts_exactly (F.slips old) (F.slips new) f → IsOfCloud (F.clouds old) f
        → CountsSay F a old new (reply.Stopped (fault_of_round f) (Some 0))
    list_counts (round.Cloud c) is below =
        list_names a act_is F old new c
        (record {
          listing = sweep_lists a act_is;
          first = refl;
          in_width = below;
          least = record { rose_here = is.0; least = λ exact d low within. is.1 exact d low };
          faults = λ exact d within. ap (λ (f : ℕ → ℕ). f d) listed.faults;
          held = listed.held;
        })
    list_counts round.Memory is below = list_memory a act_is F old new

    list_before : (f : RoundFault) → StaysBefore (F.held old) (F.held new) (reply.Stopped (fault_of_round f) (Some 0))
    list_before (round.Cloud c) = tt
    list_before round.Memory = tt

    list_stops : (f : RoundFault) (V : Vault) → HasCause F.counts_exactly (F.slips old) (F.slips new) f → StopsFor (F.clouds old) task V (failing_in F a old new) (fault_of_round f)
    list_stops (round.Cloud c) V is =
        subst (λ (b : Bool). (rose (F.faults old c) (F.faults new c) || (b && rose (F.slips old c) (F.slips new c))) ≡ true) (sym (sweep_lists a act_is))
        (second_did (rose (F.faults old c) (F.faults new c)) (rose (F.slips old c) (F.slips new c)) (rose_is (F.slips old c) (F.slips new c) false is.0))
    list_stops round.Memory V is = tt

    pub list_acted : (f : RoundFault) → HasCause F.counts_exactly (F.slips old) (F.slips new) f → IsOfCloud (F.clouds old) f → Acted F task old new (reply.Stopped (fault_of_round f) (Some 0))
    list_acted f is below =
        let answer : Reply = reply.Stopped (fault_of_round f) (Some 0) in
        record {
          clouds = listed.clouds;
          grows = listed_grows F listed;
          time = listed.stops.time;
          kind = sweep_stopped a act_is (fault_of_round f) 0;
          counts = list_counts f is below;
          costs = costs_none (may_read_chunks a answer) (F.chunk_gets old) (F.chunk_gets new) (λ c. ap (λ (g : ℕ → ℕ). g c) listed.gets);
          took = sweep_untold a act_is (F.clouds old) (fault_of_round f) (Some 0) (F.chunk_gets old) (F.chunk_gets new);
          before = list_before f;
          only = λ told. any_change listed.stops.time;
          says = λ told. sweep_says a act_is (F.clouds old) s bytes (F.held old) (F.held new) (fault_of_round f) (Some 0)
              (list_refuses (F.clouds old) s a (F.held old) (F.held new) f (Some 0));
          sees = sweep_sees a act_is F old new answer;
          reads = λ told. record { each = λ S D stands. sweep_unread a act_is F old new answer (vault_of (F.held old) S D) };
          stands = λ told. record {
            each = λ S D stands. record {
              stops = (((so_far_none F s a act_is bytes [] listed).kept told).each S D stands).stops;
              end = record {
                left = record { vault = vault_of (F.held old) S D; contents = sym listed.held; stands = stands; done = 0; begun = not_yet refl refl };
                tells = sweep_tells a act_is 0;
              };
            };
          };
          replies = λ told. record { each = λ S D stands. list_stops f (vault_of (F.held old) S D) is };
          tidy = λ told sure none. tt;
        }

  -- ---- it can't be done with a name

  module _ (names : List (List ℕ)) {old mid new : A} (done files : ℕ) (name : List ℕ) (next : slice_get names done ≡ Some name) (is_new : Contains (take done names) name → ⊥)
      (so : SweptSoFar F task names done files old mid) (are : F.tells → AreNames (F.clouds old) (F.held old) names) (f : Fault)
      (p : PartStopped F task name f mid new) where
    abbrev n : ℕ
    n = F.clouds old

    abbrev answer : Reply
    answer = reply.Stopped f (Some done)

    among : Contains names name
    among = subst (Contains names) (get_or_from_slice_get names done name name next) (Contains-get_or names done name (next_within names done name next))

    same_before : F.tells → SameObjects (F.held mid) (F.held old) name
    same_before told c place of = sym (so.others told name is_new c place of)

    refuses_here : F.tells → NameRefuses n s a name (F.held old) (F.held new) f
    refuses_here told =
        refuses_from n (F.held mid) (F.held old) name (same_before told) s a (F.held new) f
        (subst (λ (k : ℕ). NameRefuses k s a name (F.held mid) (F.held new) f) so.clouds (p.refuses told))

    reads_all : PartReads F a old new
    reads_all =
        costs_then (may_read_chunks a (reply.Settled 0)) (F.chunk_gets old) (F.chunk_gets mid) (F.chunk_gets new) so.reads
        (subst (λ (b : Bool). CostsBy b (F.chunk_gets mid) (F.chunk_gets new)) (sweep_reads a act_is (reply.Stopped f (Some 0))) p.reads)

    module _ (told : F.tells) (S : Entries) (D : Clouds) (stands : Stands n (F.held old) S D) where
      abbrev from : Vault
      from = vault_of (F.held old) S D

      kept_here : NamesKept F n task names done old mid from
      kept_here = (so.kept told).each S D stands

      stops_here : StopsFor n task from (failing_in F a old new) f
      stops_here =
          part_stops F n task names name among from kept_here.reached.vault (sweep_works a act_is n (F.held old) names (are told)) act_is
          (version_is n task from names done (F.held mid) name next is_new kept_here.reached) kept_here.reached.damaged old mid new so.clouds so.grows.faults f p.counts
          (of_here (λ W. PartStops F task name mid new f W) kept_here.reached (subst (λ (k : ℕ). ForEachVault k (F.held mid) (PartStops F task name mid new f)) so.clouds (p.stops told)))

      begun_here : StandsBegunAt n task from done (F.held new)
      begun_here = stopped_at F n task from names (sweep_works a act_is n (F.held old) names (are told)) done kept_here name next is_new so.clouds (p.begins told) (p.alone told)

    pub name_acted : Acted F task old new answer
    name_acted = record {
      clouds = p.clouds ∙ so.clouds;
      grows = grows_both F so.grows p.grows;
      time = goes_then so.time p.time;
      kind = sweep_stopped a act_is f done;
      counts = part_counts a act_is F old mid new done f so.grows.faults so.clean p.counts;
      costs = costs_of old new answer reads_all;
      took = sweep_untold a act_is n f (Some done) (F.chunk_gets old) (F.chunk_gets new);
      before = part_before (F.held old) (F.held mid) (F.held new) done f p.kept so.unchanged;
      only = λ told. any_change (goes_then so.time p.time);
      says = λ told. sweep_says a act_is n s bytes (F.held old) (F.held new) f (Some done)
          (name_refuses n s a (F.held old) (F.held new) f (Some done)
          (record { names = names; are_names = are told; done = done; tells = refl; name = name; next = next; refuses = refuses_here told }));
      sees = sweep_sees a act_is F old new answer;
      reads = λ told. record { each = λ S D stands. sweep_unread a act_is F old new answer (vault_of (F.held old) S D) };
      stands = λ told. record {
        each = λ S D stands.
            let V : Vault = vault_of (F.held old) S D in
            let at : StandsBegunAt n task V done (F.held new) = begun_here told S D stands in
            record {
              stops = (kept_stopped F n task V names (sweep_works a act_is n (F.held old) names (are told)) done (kept_here told S D stands) name next is_new so.clouds (p.begins told) (p.alone told)).stops;
              end = record { left = at.left; tells = subst (TellsDone a (Some done)) (sym at.tells) (sweep_tells a act_is done) };
            };
      };
      replies = λ told. record { each = stops_here told };
      tidy = λ told sure none. tt;
    }

  -- ---- it is done with all names

  module _ (names : List (List ℕ)) (files : ℕ) {old new : A} (fits : FitsWidth (F.clouds old) a) (few : AtMost a files (length names)) (so : SweptSoFar F task names (length names) files old new)
      (are : F.tells → AreNames (F.clouds old) (F.held old) names) where
    abbrev all_reply : Reply
    all_reply = sweep_reply a (length names) files

    each_left : F.tells → (name : List ℕ) → Contains names name → LeavesName (F.clouds old) s a name (F.held old) (F.held new)
    each_left told name among = so.leaves told name (subst (λ (ns : List (List ℕ)). Contains ns name) (sym (take_whole names)) among)

    pub all_acted : Acted F task old new all_reply
    all_acted = record {
      clouds = so.clouds;
      grows = so.grows;
      time = so.time;
      kind = done_kind a act_is (length names) files;
      counts = done_counts a act_is (length names) files F old new so.clean;
      costs = costs_of old new all_reply so.reads;
      took = done_took a act_is (length names) files (F.clouds old) (F.chunk_gets old) (F.chunk_gets new) so.took;
      before = done_before a act_is (length names) files (F.held old) (F.held new);
      only = λ told. any_change so.time;
      says = λ told. done_says a act_is (F.clouds old) s bytes names files (F.held old) (F.held new) (are told) few (each_left told);
      sees = sweep_sees a act_is F old new all_reply;
      reads = λ told. record { each = λ S D stands. sweep_unread a act_is F old new all_reply (vault_of (F.held old) S D) };
      stands = λ told. record {
        each = λ S D stands.
            let V : Vault = vault_of (F.held old) S D in
            let kept : NamesKept F (F.clouds old) task names (length names) old new V = (so.kept told).each S D stands in
            record {
              stops = kept.stops;
              end = done_end a act_is (length names) files (F.clouds old) s bytes V (F.held new)
                  (kept_end F (F.clouds old) task V names (sweep_works a act_is (F.clouds old) (F.held old) names (are told)) (length names) kept refl stands fits);
            };
      };
      replies = λ told. record {
        each = λ S D stands.
            done_replies a act_is (F.clouds old) s bytes names files (vault_of (F.held old) S D) (failing_in F a old new) (are told)
            ((so.counts told).each S D stands ∙ ap (λ (ns : List (List ℕ)). files_among (F.clouds old) a (vault_of (F.held old) S D) ns) (take_whole names));
      };
      tidy = λ told sure none. done_tidy a act_is (length names) files (LeavesTidy (F.clouds old) a (F.held old) (F.held new)) (record {
        each = λ others name plain works among.
            so.tidied told sure plain none name
            (subst (λ (ns : List (List ℕ)). Contains ns name) (sym (take_whole names)) (among_names (F.clouds old) (F.held old) names others name (are told) (sweep_only a act_is (F.clouds old) (F.held old) others works) among));
      });
    }
