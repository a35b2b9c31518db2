-- What a finding says of a stat.
use Rattle.std.proofs.Common.{◌≡◌, ◌≤◌, ℕ, false, None, List, Contains, inl, inr, is_some, refl, ap, subst, arith, Ok, Err}
use Rattle.nc_cloud.specs.Deciding.{OnlyLooked}
use Rattle.nc_cloud.specs.Stopping.{Stops}
use Rattle.nc_cloud.specs.declared.fleet.Fleet.{Ghosts as FleetGhosts}
use Rattle.nc_meta.specs.declared.meta.Live.{Live}
use Rattle.nc_state.specs.Clouds.{Clouds}
use Rattle.nc_state.specs.Vaults.{Vault}
use Rattle.nc_download.specs.Finding.{FindShows, Finds, HasRisen}
use Rattle.nc_download.specs.FindingOnVaults.{IsShownFile, IsShownNone, LookShows}
use Rattle.nc_download.specs.declared.fault.FetchFault.{FetchFault}
use Rattle.nc_download.specs.declared.fault.FetchFault.TheVariants as fetch
use Rattle.nc_words.specs.declared.act.Act.TheVariants as act
use Rattle.nc_words.specs.declared.setting.Setting.{Setting}
use Rattle.nc_words.specs.Acts.{Task, task_of}
use Rattle.nc_vault.specs.declared.reply.Reply.TheVariants as reply
use Rattle.nc_vault.specs.Acting.{Acted}
use Rattle.nc_vault.specs.Counting.{CostsBy, CountsSay, failing_in, may_read_chunks}
use Rattle.nc_vault.specs.Faults.{fault_of_fetch}
use Rattle.nc_vault.specs.Replies.{RepliesTo}
use Rattle.nc_vault.specs.Showing.{ReadsAbout, ReadsNone}
use Rattle.nc_vault.specs.Vaults.{WorksOn}
use Rattle.nc_vault.proofs.GetLaws.{get_before}
use Rattle.nc_vault.proofs.Members.{in_none}
use Rattle.nc_vault.proofs.OneName.{rose_is}
use Rattle.nc_vault.proofs.ReadLaws.{OnlyReads, reads_done, reads_only, reads_stopped}
use Rattle.nc_vault.proofs.SeenLaws.{few_failed, many_failed}

-- ---- all of it

module _ {A : Type 0} (F : FleetGhosts A) (s : Setting) (name bytes : List ℕ) {old new : A} (looked : OnlyLooked F old new) (stops : Stops F old new (λ G. G ≡ F.held old))
    (gets : (c : ℕ) → F.chunk_gets new c ≡ F.chunk_gets old c) where
  abbrev task : Task
  task = task_of s (act.Stat name) bytes

  abbrev failing : Clouds
  failing = failing_in F (act.Stat name) old new

  reads : OnlyReads (act.Stat name)
  reads = record { works = λ n G. refl; changes = λ G H is. is; damaged = λ D. refl }

  risen : HasRisen F old new failing
  risen = record { each = λ c within is. rose_is (F.faults old c) (F.faults new c) false is }

  none_among : (names : List (List ℕ)) (of : List ℕ) → WorksOn (F.clouds old) (F.held old) (act.Stat name) names → Contains names of → ⊥
  none_among names of works among = in_none of (subst (λ (ns : List (List ℕ)). Contains ns of) works among)

  slips_grow : (c : ℕ) → F.slips old c ≤ F.slips new c
  slips_grow c = let same : F.slips new c ≡ F.slips old c = ap (λ (k : ℕ → ℕ). k c) looked.slips in omega (arith, same)

  about : (V : Vault) (m : Live) → IsShownFile (F.clouds old) V failing name m → ReadsAbout (F.clouds old) V failing name m.generation m.len (is_some m.witnesses)
  about V m shown = record { meta = m; v = shown.bytes; shown = shown.shown; generation_is = refl; len_is = refl; witnessed_is = refl }

  none : (V : Vault) → IsShownNone (F.clouds old) V failing name → ReadsNone (F.clouds old) V failing name
  none V shown = record { version = shown.version; shown = shown.shown; no_file = shown.no_file }

  pub told_about : (m : Live) → Finds F name old new (Ok m) → (F.tells → FindShows F name old new (Ok m)) → Acted F task old new (reply.About m.generation m.len (is_some m.witnesses))
  told_about m finds shows = record {
    clouds = looked.clouds;
    grows = record { faults = looked.grows; slips = slips_grow };
    time = stops.time;
    kind = tt;
    counts = few_failed F (act.Stat name) refl old new name finds finds.shown.few;
    costs = gets;
    took = tt;
    before = tt;
    only = λ told. reads_only F task reads looked.held stops;
    says = λ told. tt;
    sees = record { meta = m; finds = finds; generation_is = refl; len_is = refl; witnessed_is = refl };
    reads = λ told. record { each = λ S D stands. tt };
    stands = reads_done F task reads looked.held stops (reply.About m.generation m.len (is_some m.witnesses)) (λ V done. done);
    replies = λ told. record {
      each = λ S D stands.
          let V : Vault = record { contents = F.held old; entries = S; damaged = D } in
          λ few. about V m (((shows told).each failing risen).each S D stands few);
    };
    tidy = λ told sure not. record { each = λ names of plain works among. absurd (none_among names of works among) };
  }

  refused_counts : (f : FetchFault) → Finds F name old new (Err f) → CountsSay F (act.Stat name) old new (reply.Stopped (fault_of_fetch f) None)
  refused_counts fetch.NoFile finds =
      few_failed F (act.Stat name) refl old new name finds (elim finds.shown [
        | inl nothing ↦ nothing.0.few
        | inr gone ↦ gone.few
      ])
  refused_counts (fetch.Cloud c) finds = many_failed F (act.Stat name) refl old new name finds c finds.shown
  refused_counts (fetch.Short bads) finds = absurd finds.shown
  refused_counts (fetch.Conflict g a b) finds = few_failed F (act.Stat name) refl old new name finds finds.shown.0
  refused_counts (fetch.Misplaced c a b) finds = few_failed F (act.Stat name) refl old new name finds finds.shown.0.few
  refused_counts (fetch.Unsound a b) finds = absurd finds.shown
  refused_counts fetch.Memory finds = tt

  refused_stops : (V : Vault) (f : FetchFault) → LookShows (F.clouds old) failing name (Err f) V → RepliesTo F task old new (reply.Stopped (fault_of_fetch f) None) V
  refused_stops V fetch.NoFile shows = λ few. none V (shows few)
  refused_stops V (fetch.Cloud c) shows = shows.one
  refused_stops V (fetch.Short bads) shows = absurd shows
  refused_stops V (fetch.Conflict g a b) shows = shows
  refused_stops V (fetch.Misplaced c a b) shows = shows
  refused_stops V (fetch.Unsound a b) shows = absurd shows
  refused_stops V fetch.Memory shows = tt

  refused_costs : (f : FetchFault) → CostsBy (may_read_chunks (act.Stat name) (reply.Stopped (fault_of_fetch f) None)) (F.chunk_gets old) (F.chunk_gets new)
  refused_costs fetch.NoFile = gets
  refused_costs (fetch.Cloud c) = gets
  refused_costs (fetch.Short bads) = gets
  refused_costs (fetch.Conflict g a b) = gets
  refused_costs (fetch.Misplaced c a b) = gets
  refused_costs (fetch.Unsound a b) = gets
  refused_costs fetch.Memory = gets

  pub told_none : (f : FetchFault) → Finds F name old new (Err f) → (F.tells → FindShows F name old new (Err f)) → Acted F task old new (reply.Stopped (fault_of_fetch f) None)
  told_none f finds shows = record {
    clouds = looked.clouds;
    grows = record { faults = looked.grows; slips = slips_grow };
    time = stops.time;
    kind = refl;
    counts = refused_counts f finds;
    costs = refused_costs f;
    took = tt;
    before = get_before (F.held old) (F.held new) f looked.held;
    only = λ told. reads_only F task reads looked.held stops;
    says = λ told. tt;
    sees = record { fault = f; finds = finds; is = refl };
    reads = λ told. record { each = λ S D stands. tt };
    stands = λ told. reads_stopped F task reads looked.held stops None refl (fault_of_fetch f) told;
    replies = λ told. record { each = λ S D stands. refused_stops (record { contents = F.held old; entries = S; damaged = D }) f (((shows told).each failing risen).each S D stands) };
    tidy = λ told sure not. tt;
  }
