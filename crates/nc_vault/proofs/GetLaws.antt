-- What a fetch says of a get.
use Rattle.std.proofs.Common.{◌≡◌, ◌≤◌, ℕ, false, None, List, Contains, inl, inr, refl, ap, subst, arith, Ok, Err}
use Rattle.nc_cloud.specs.Contents.{Contents}
use Rattle.nc_cloud.specs.Deciding.{OnlyLooked}
use Rattle.nc_cloud.specs.Stopping.{Stops}
use Rattle.nc_cloud.specs.declared.fleet.Fleet.{Ghosts as FleetGhosts}
use Rattle.nc_download.specs.declared.fault.FetchFault.{FetchFault}
use Rattle.nc_download.specs.declared.fault.FetchFault.TheVariants as fetch
use Rattle.nc_download.specs.Finding.{HasRisen}
use Rattle.nc_download.specs.FindingOnVaults.{IsShownNone}
use Rattle.nc_fetch.specs.Costs.{EachReadsWhole, ReadsNone}
use Rattle.nc_fetch.specs.Fetching.{Fetches}
use Rattle.nc_fetch.specs.FetchingOnVaults.{EachFetchShows, FetchShows, IsShownBytes}
use Rattle.nc_state.specs.Clouds.{Clouds}
use Rattle.nc_state.specs.Vaults.{Vault}
use Rattle.nc_words.specs.declared.act.Act.TheVariants as act
use Rattle.nc_words.specs.declared.setting.Setting.{Setting}
use Rattle.nc_words.specs.Acts.{Task, task_of}
use Rattle.nc_vault.specs.declared.reply.Reply.TheVariants as reply
use Rattle.nc_vault.specs.Acting.{Acted, StaysBefore}
use Rattle.nc_vault.specs.Counting.{CostsBy, CountsSay, failing_in, may_read_chunks}
use Rattle.nc_vault.specs.Faults.{fault_of_fetch}
use Rattle.nc_vault.specs.Replies.{RepliesTo}
use Rattle.nc_vault.specs.Showing.{ReadsFile, ReadsNone as ReadsNoFile}
use Rattle.nc_vault.specs.Vaults.{WorksOn}
use Rattle.nc_vault.proofs.GetCounts.{came_few}
use Rattle.nc_vault.proofs.Members.{in_none}
use Rattle.nc_vault.proofs.OneName.{rose_is}
use Rattle.nc_vault.proofs.ReadLaws.{OnlyReads, reads_done, reads_only, reads_stopped}
use Rattle.nc_vault.proofs.SeenLaws.{few_failed, many_failed}

-- ---- faults

pub get_before : (F G : Contents) (f : FetchFault) → G ≡ F → StaysBefore F G (reply.Stopped (fault_of_fetch f) None)
get_before F G fetch.NoFile same = tt
get_before F G (fetch.Cloud c) same = tt
get_before F G (fetch.Short bads) same = tt
get_before F G (fetch.Conflict g a b) same = λ first. same
get_before F G (fetch.Misplaced c a b) same = λ first. same
get_before F G (fetch.Unsound a b) same = tt
get_before F G fetch.Memory same = tt

get_costs : (name : List ℕ) (before now : ℕ → ℕ) (f : FetchFault) → ReadsNone before now f → CostsBy (may_read_chunks (act.Get name) (reply.Stopped (fault_of_fetch f) None)) before now
get_costs name before now fetch.NoFile same = same
get_costs name before now (fetch.Cloud c) same = same
get_costs name before now (fetch.Short bads) same = tt
get_costs name before now (fetch.Conflict g a b) same = same
get_costs name before now (fetch.Misplaced c a b) same = same
get_costs name before now (fetch.Unsound a b) same = same
get_costs name before now fetch.Memory same = tt

get_counts : {A : Type 0} (F : FleetGhosts A) (name : List ℕ) (old new : A) (f : FetchFault) → Fetches F name old new (Err f) → CountsSay F (act.Get name) old new (reply.Stopped (fault_of_fetch f) None)
get_counts F name old new fetch.NoFile seen =
    few_failed F (act.Get name) refl old new name seen (elim seen.shown [
      | inl nothing ↦ nothing.0.few
      | inr gone ↦ gone.few
    ])
get_counts F name old new (fetch.Cloud c) seen = many_failed F (act.Get name) refl old new name seen c seen.shown
get_counts F name old new (fetch.Short bads) short = tt
get_counts F name old new (fetch.Conflict g a b) seen = few_failed F (act.Get name) refl old new name seen seen.shown.0
get_counts F name old new (fetch.Misplaced c a b) seen = few_failed F (act.Get name) refl old new name seen seen.shown.0.few
get_counts F name old new (fetch.Unsound a b) seen = few_failed F (act.Get name) refl old new name seen seen.shown.shown.few
get_counts F name old new fetch.Memory is = tt

-- ---- all of it

module _ {A : Type 0} (F : FleetGhosts A) (s : Setting) (name bytes : List ℕ) {old new : A} (looked : OnlyLooked F old new) (stops : Stops F old new (λ G. G ≡ F.held old)) where
  abbrev task : Task
  task = task_of s (act.Get name) bytes

  abbrev failing : Clouds
  failing = failing_in F (act.Get name) old new

  reads : OnlyReads (act.Get name)
  reads = record { works = λ n G. refl; changes = λ G H is. is; damaged = λ D. refl }

  risen : HasRisen F old new failing
  risen = record { each = λ c within is. rose_is (F.faults old c) (F.faults new c) false is }

  slips_grow : (c : ℕ) → F.slips old c ≤ F.slips new c
  slips_grow c = let same : F.slips new c ≡ F.slips old c = ap (λ (k : ℕ → ℕ). k c) looked.slips in omega (arith, same)

  file : (V : Vault) (v : List ℕ) → IsShownBytes (F.clouds old) V failing name v → ReadsFile (F.clouds old) V failing name v
  file V v shown = record { meta = shown.meta; shown = shown.shown }

  none : (V : Vault) → IsShownNone (F.clouds old) V failing name → ReadsNoFile (F.clouds old) V failing name
  none V shown = record { version = shown.version; shown = shown.shown; no_file = shown.no_file }

  get_stops : (V : Vault) (f : FetchFault) → FetchShows (F.clouds old) failing name (Err f) V → RepliesTo F task old new (reply.Stopped (fault_of_fetch f) None) V
  get_stops V fetch.NoFile shows = λ few. none V (shows few)
  get_stops V (fetch.Cloud c) shows = shows.one
  get_stops V (fetch.Short bads) shows = shows
  get_stops V (fetch.Conflict g a b) shows = shows
  get_stops V (fetch.Misplaced c a b) shows = shows
  get_stops V (fetch.Unsound a b) shows = shows
  get_stops V fetch.Memory shows = tt

  none_among : (names : List (List ℕ)) (of : List ℕ) → WorksOn (F.clouds old) (F.held old) (act.Get name) names → Contains names of → ⊥
  none_among names of works among = in_none of (subst (λ (ns : List (List ℕ)). Contains ns of) works among)

  pub got_file : (v : List ℕ) → Fetches F name old new (Ok v) → (F.tells → EachFetchShows F name old new (Ok v)) → (F.tells → EachReadsWhole F old new) → Acted F task old new (reply.Bytes v)
  got_file v fetches shows whole = record {
    clouds = looked.clouds;
    grows = record { faults = looked.grows; slips = slips_grow };
    time = stops.time;
    kind = tt;
    counts = λ exact. came_few F (act.Get name) refl name old new v fetches exact;
    costs = tt;
    took = tt;
    before = tt;
    only = λ told. reads_only F task reads looked.held stops;
    says = λ told. tt;
    sees = fetches;
    stands = reads_done F task reads looked.held stops (reply.Bytes v) (λ V done. done);
    replies = λ told. record {
      each = λ S D stands.
          let V : Vault = record { contents = F.held old; entries = S; damaged = D } in
          λ few. file V v (((shows told).each failing risen).each S D stands few);
    };
    reads = λ told. (whole told).each failing risen;
    tidy = λ told sure not. record { each = λ names of plain works among. absurd (none_among names of works among) };
  }

  pub got_none : (f : FetchFault) → Fetches F name old new (Err f) → (F.tells → EachFetchShows F name old new (Err f)) → ReadsNone (F.chunk_gets old) (F.chunk_gets new) f
      → Acted F task old new (reply.Stopped (fault_of_fetch f) None)
  got_none f fetches shows unread = record {
    clouds = looked.clouds;
    grows = record { faults = looked.grows; slips = slips_grow };
    time = stops.time;
    kind = refl;
    counts = get_counts F name old new f fetches;
    costs = get_costs name (F.chunk_gets old) (F.chunk_gets new) f unread;
    took = tt;
    before = get_before (F.held old) (F.held new) f looked.held;
    only = λ told. reads_only F task reads looked.held stops;
    says = λ told. tt;
    sees = record { fault = f; fetches = fetches; is = refl };
    stands = λ told. reads_stopped F task reads looked.held stops None refl (fault_of_fetch f) told;
    replies = λ told. record { each = λ S D stands. get_stops (record { contents = F.held old; entries = S; damaged = D }) f (((shows told).each failing risen).each S D stands) };
    reads = λ told. record { each = λ S D stands. tt };
    tidy = λ told sure not. tt;
  }
