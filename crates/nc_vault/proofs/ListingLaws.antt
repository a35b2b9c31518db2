-- What lists and looks say of a list of all files.
use Rattle.std.proofs.Common.{◌≡◌, ◌≤◌, ◌<◌, ◌||◌, ℕ, Bool, true, false, not, Option, Some, List, [], All, Contains, length, slice_index_or, inl, inr, refl, sym, ap, ◌∙◌, subst, arith}
use Rattle.std.proofs.lemmas.Bool.{cases_Bool}
use Rattle.nc_name.specs.Counts.{Rose}
use Rattle.nc_name.specs.Names.{IsName}
use Rattle.nc_cloud.specs.Contents.{Contents}
use Rattle.nc_cloud.specs.Deciding.{OnlyLooked}
use Rattle.nc_cloud.specs.Stopping.{Stops}
use Rattle.nc_cloud.specs.declared.fleet.Fleet.{Ghosts as FleetGhosts}
use Rattle.nc_cloud.proofs.Time.{stops_twice}
use Rattle.nc_state.specs.Clouds.{Clouds, count_of}
use Rattle.nc_state.specs.Vaults.{ForEachVault, Vault}
use Rattle.nc_settle.specs.Failing.{FewFail, TooManyFail, fails}
use Rattle.nc_settle.specs.Views.{Places}
use Rattle.nc_settle.proofs.Failures.{failing_has, failing_is}
use Rattle.nc_names.specs.Listing.{AreNamesOutside, AreSortedNames, HaveRisen, OnlyListed, StayOutside}
use Rattle.nc_download.specs.declared.fault.FetchFault.{FetchFault}
use Rattle.nc_download.specs.declared.fault.FetchFault.TheVariants as fetch
use Rattle.nc_download.specs.declared.listing.ListStop.{ListStop}
use Rattle.nc_download.specs.FindingOnVaults.{HasAll}
use Rattle.nc_download.specs.Listing.{AreListed, FailMore, FindRefuses, IsRefused, ListRefuses, OnlyMore, SeenOf, StayFew}
use Rattle.nc_download.specs.ListingOnVaults.{AllShow, ListStops, NamesShow, StopsFor}
use Rattle.nc_download.specs.Seeing.{Refuses}
use Rattle.nc_download.proofs.ListLaws.{seen_before}
use Rattle.nc_download.proofs.ViewLaws.{fewer}
use Rattle.nc_words.specs.declared.act.Act.TheVariants as act
use Rattle.nc_words.specs.declared.setting.Setting.{Setting}
use Rattle.nc_words.specs.Acts.{Task, task_of}
use Rattle.nc_vault.specs.declared.fault.Fault.{Fault}
use Rattle.nc_vault.specs.declared.fault.Fault.TheVariants as fault
use Rattle.nc_vault.specs.declared.reply.FileRow.{FileRow}
use Rattle.nc_vault.specs.declared.reply.Reply.TheVariants as reply
use Rattle.nc_vault.specs.Acting.{Acted, StaysBefore}
use Rattle.nc_vault.specs.Counting.{CountsGrow, CountsSay, IsLeastOfMany, failed_in, failing_in, moved, rose}
use Rattle.nc_vault.specs.Faults.{fault_of_fetch}
use Rattle.nc_vault.specs.Listing.{IsLeastOfThree, rows_of}
use Rattle.nc_vault.specs.Replies.{RepliesTo}
use Rattle.nc_vault.specs.Seeing.{ListsBut, ListsNone, LooksOn, RefusesName}
use Rattle.nc_vault.specs.Vaults.{WorksOn}
use Rattle.nc_vault.proofs.Members.{in_none}
use Rattle.nc_vault.proofs.OneName.{rose_is}
use Rattle.nc_vault.proofs.ReadLaws.{OnlyReads, reads_done, reads_only, reads_stopped}
use Rattle.nc_vault.proofs.RowLaws.{reads_list}
use Rattle.nc_vault.proofs.SeenLaws.{moved_not}

-- ---- the clouds of which a count rose

first_true : (a b : Bool) → a ≡ true → (a || b) ≡ true
first_true true b is = refl
first_true false b is = absurd cc

pub second_true : (a b : Bool) → b ≡ true → (a || b) ≡ true
second_true true b is = refl
second_true false b is = is

both_false : (a b : Bool) → a ≡ false → b ≡ false → (a || b) ≡ false
both_false true b is other = absurd cc
both_false false b is other = other

pub rose_true : (before now : ℕ) → Rose before now → rose before now ≡ true
rose_true before now is = without (rose before now) (rose_is before now false is)
  where
    without : (b : Bool) → (b || false) ≡ true → b ≡ true
    without true is = refl
    without false is = is

-- ---- clouds that were only listed and asked

pub record IsRead {A : Type 0} (F : FleetGhosts A) (old new : A) : Type 0 where
  pub clouds : F.clouds new ≡ F.clouds old
  pub held : F.held new ≡ F.held old
  pub grows : CountsGrow F old new
  pub gets : (c : ℕ) → F.chunk_gets new c ≡ F.chunk_gets old c
  pub stops : Stops F old new (λ G. G ≡ F.held old)

-- the clouds of Q failed, and where counts are exact no others did
pub record HaveFailed {A : Type 0} (F : FleetGhosts A) (old new : A) (Q : Clouds) : Type 0 where
  pub all : HasAll (F.clouds old) Q (failing_in F act.List old new)
  pub only : F.counts_exactly → HasAll (F.clouds old) (failed_in F act.List old new) Q

module _ {A : Type 0} (F : FleetGhosts A) (old new : A) where
  pub listed_read : OnlyListed F old new → IsRead F old new
  listed_read listed = record {
    clouds = listed.clouds;
    held = listed.held;
    grows = record { faults = λ c. let same : F.faults new c ≡ F.faults old c = ap (λ (k : ℕ → ℕ). k c) listed.faults in omega (arith, same); slips = listed.grows };
    gets = λ c. ap (λ (k : ℕ → ℕ). k c) listed.gets;
    stops = listed.stops;
  }

  pub listed_failed : (P : Clouds) → OnlyListed F old new → HaveRisen (F.clouds old) (F.slips old) (F.slips new) P → (F.counts_exactly → StayOutside (F.slips old) (F.slips new) P)
      → HaveFailed F old new P
  listed_failed P listed risen stay = record {
    all = record { each = λ c l within. second_true (rose (F.faults old c) (F.faults new c)) (rose (F.slips old c) (F.slips new c)) (rose_true (F.slips old c) (F.slips new c) (risen.each c within).1) };
    only = λ exact. record {
      each = λ c l did.
          elim (cases_Bool (P c)) [
            | inl within ↦ within
            | inr out ↦
                let faults : moved (F.faults old c) (F.faults new c) ≡ false = moved_not (F.faults old c) (F.faults new c) (ap (λ (k : ℕ → ℕ). k c) listed.faults) in
                let slips : moved (F.slips old c) (F.slips new c) ≡ false = moved_not (F.slips old c) (F.slips new c) ((stay exact).each c out) in
                let wrong : true ≡ false = sym did ∙ both_false (moved (F.faults old c) (F.faults new c)) (moved (F.slips old c) (F.slips new c)) faults slips in
                absurd cc
          ];
    };
  }

  pub least_many : (Q : Clouds) → HaveFailed F old new Q → (c : ℕ) → IsLeastOfThree (F.clouds old) Q c → IsLeastOfMany F act.List old new c
  least_many Q failed c least =
      let low : c < F.clouds old = least.in_width in
      record {
        in_width = low;
        failed = failed.all.each c low least.one;
        many =
            let more : count_of (F.clouds old) Q ≤ count_of (F.clouds old) (failing_in F act.List old new) = fewer (F.clouds old) Q (failing_in F act.List old new) failed.all.each in
            let three : 3 ≤ count_of (F.clouds old) Q = least.three in
            omega (arith, more, three);
        least = λ exact d before.
            elim (cases_Bool (failed_in F act.List old new d)) [
              | inl did ↦
                  let wrong : true ≡ false = sym ((failed.only exact).each d (omega (arith, before, low)) did) ∙ least.before d before in
                  absurd cc
              | inr fine ↦ fine
            ];
      }

  pub few_many : (Q : Clouds) → HaveFailed F old new Q → count_of (F.clouds old) Q ≤ 2 → F.counts_exactly → count_of (F.clouds old) (failed_in F act.List old new) ≤ 2
  few_many Q failed few exact =
      let less : count_of (F.clouds old) (failed_in F act.List old new) ≤ count_of (F.clouds old) Q = fewer (F.clouds old) (failed_in F act.List old new) Q (failed.only exact).each in
      omega (arith, few, less)

-- the lists, and then the looks
module _ {A : Type 0} (F : FleetGhosts A) (old mid new : A) (P Q : Clouds) (listed : OnlyListed F old mid) (looked : OnlyLooked F mid new) where
  same_faults : (c : ℕ) → F.faults mid c ≡ F.faults old c
  same_faults c = ap (λ (k : ℕ → ℕ). k c) listed.faults

  same_slips : (c : ℕ) → F.slips new c ≡ F.slips mid c
  same_slips c = ap (λ (k : ℕ → ℕ). k c) looked.slips

  pub looked_read : Stops F mid new (λ G. G ≡ F.held mid) → ((c : ℕ) → F.chunk_gets new c ≡ F.chunk_gets mid c) → IsRead F old new
  looked_read stops gets = record {
    clouds = looked.clouds ∙ listed.clouds;
    held = looked.held ∙ listed.held;
    grows = record {
      faults = λ c. let high : F.faults mid c ≤ F.faults new c = looked.grows c in omega (arith, high, same_faults c);
      slips = λ c. let high : F.slips old c ≤ F.slips mid c = listed.grows c in omega (arith, high, same_slips c);
    };
    gets = λ c. gets c ∙ ap (λ (k : ℕ → ℕ). k c) listed.gets;
    stops = stops_twice listed.held listed.stops stops;
  }

  at_mid : (c : ℕ) → c < F.clouds old → c < F.clouds mid
  at_mid c l = let same = listed.clouds in omega (arith, l, same)

  pub looked_failing : HaveRisen (F.clouds old) (F.slips old) (F.slips mid) P → FailMore F P Q mid new → HasAll (F.clouds old) Q (failing_in F act.List old new)
  looked_failing risen more = record {
    each = λ c l within.
        elim (cases_Bool (P c)) [
          | inl early ↦
              let is : Rose (F.slips old c) (F.slips new c) = subst (λ (k : ℕ). Rose (F.slips old c) k) (sym (same_slips c)) (risen.each c early).1 in
              second_true (rose (F.faults old c) (F.faults new c)) (rose (F.slips old c) (F.slips new c)) (rose_true (F.slips old c) (F.slips new c) is)
          | inr late ↦
              let is : Rose (F.faults old c) (F.faults new c) = subst (λ (k : ℕ). Rose k (F.faults new c)) (same_faults c) (more.rose c (at_mid c l) late within) in
              first_true (rose (F.faults old c) (F.faults new c)) (rose (F.slips old c) (F.slips new c)) (rose_true (F.faults old c) (F.faults new c) is)
        ];
  }

  looked_only : (F.counts_exactly → StayOutside (F.slips old) (F.slips mid) P) → FailMore F P Q mid new → (F.counts_exactly → OnlyMore F P Q mid new) → F.counts_exactly
      → HasAll (F.clouds old) (failed_in F act.List old new) Q
  looked_only stay more only exact = record {
    each = λ c l did.
        elim (cases_Bool (Q c)) [
          | inl within ↦ within
          | inr out ↦
              let before : P c ≡ false = elim (cases_Bool (P c)) [
                | inl is ↦ let wrong : true ≡ false = sym (more.kept.each c (at_mid c l) is) ∙ out in absurd cc
                | inr not ↦ not
              ] in
              let faults : moved (F.faults old c) (F.faults new c) ≡ false =
              moved_not (F.faults old c) (F.faults new c) ((only exact).each c (at_mid c l) (λ late is. let wrong : true ≡ false = sym is ∙ out in absurd cc) ∙ same_faults c) in
              let slips : moved (F.slips old c) (F.slips new c) ≡ false = moved_not (F.slips old c) (F.slips new c) (same_slips c ∙ (stay exact).each c before) in
              let wrong : true ≡ false = sym did ∙ both_false (moved (F.faults old c) (F.faults new c)) (moved (F.slips old c) (F.slips new c)) faults slips in
              absurd cc
        ];
  }

  pub looked_failed : HaveRisen (F.clouds old) (F.slips old) (F.slips mid) P → (F.counts_exactly → StayOutside (F.slips old) (F.slips mid) P) → FailMore F P Q mid new
      → (F.counts_exactly → OnlyMore F P Q mid new) → HaveFailed F old new Q
  looked_failed risen stay more only = record { all = looked_failing risen more; only = looked_only stay more only }

-- ---- a list that was stopped

least_seen : (n : ℕ) (v : Places) (Q : Clouds) → HasAll n Q (fails v) → HasAll n (fails v) Q → (c : ℕ) → c < n → 3 ≤ count_of n (fails v) → TooManyFail v c → IsLeastOfThree n Q c
least_seen n v Q skips among c low three many = record {
  in_width = low;
  one = among.each c low (failing_is v c many.least.failed);
  three = let more : count_of n (fails v) ≤ count_of n Q = fewer n (fails v) Q among.each in omega (arith, three, more);
  before = λ d before. elim (cases_Bool (Q d)) [
    | inl did ↦ absurd (many.least.before d before (failing_has v d (skips.each d (omega (arith, before, low)) did)))
    | inr fine ↦ fine
  ];
}

module _ {A : Type 0} (F : FleetGhosts A) (old new : A) (Q : Clouds) (failed : HaveFailed F old new Q) (name : List ℕ) where
  few_seen : {shows : Places → Type 0} (seen : SeenOf F old name Q Q shows) → FewFail seen.view → F.counts_exactly → count_of (F.clouds old) (failed_in F act.List old new) ≤ 2
  few_seen seen few =
      let counted : count_of (F.clouds old) (fails seen.view) ≤ 2 = subst (λ (k : ℕ). count_of k (fails seen.view) ≤ 2) seen.width.first few in
      let less : count_of (F.clouds old) Q ≤ count_of (F.clouds old) (fails seen.view) = fewer (F.clouds old) Q (fails seen.view) seen.skips.each in
      few_many F old new Q failed (omega (arith, counted, less))

  seen_counts : (f : FetchFault) (done : ℕ) → SeenOf F old name Q Q (λ v. Refuses v f) → CountsSay F act.List old new (reply.Stopped (fault_of_fetch f) (Some done))
  seen_counts fetch.NoFile done seen = few_seen seen (elim seen.shown [ inl nothing ↦ nothing.0.few | inr gone ↦ gone.few ])
  seen_counts (fetch.Cloud c) done seen =
      let many : TooManyFail seen.view c = seen.shown in
      let three : 3 ≤ count_of (F.clouds old) (fails seen.view) = subst (λ (k : ℕ). 3 ≤ count_of k (fails seen.view)) seen.width.first many.many in
      let low : c < F.clouds old = let within = many.least.in_width in omega (arith, within, seen.width.first) in
      least_many F old new Q failed c (least_seen (F.clouds old) seen.view Q seen.skips seen.among c low three many)
  seen_counts (fetch.Short bads) done seen = absurd seen.shown
  seen_counts (fetch.Conflict g a b) done seen = few_seen seen seen.shown.0
  seen_counts (fetch.Misplaced c a b) done seen = few_seen seen seen.shown.0.few
  seen_counts (fetch.Unsound a b) done seen = absurd seen.shown
  seen_counts fetch.Memory done seen = tt

module _ {A : Type 0} (F : FleetGhosts A) (old mid new : A) (P Q : Clouds) (name : List ℕ) (done : ℕ) (clouds : F.clouds mid ≡ F.clouds old) (held : F.held mid ≡ F.held old)
    (failed : (F.counts_exactly → OnlyMore F P Q mid new) → HaveFailed F old new Q) where
  by_refused : (f : FetchFault) → IsRefused F name P Q mid new f → CountsSay F act.List old new (reply.Stopped (fault_of_fetch f) (Some done))
  by_refused f is = seen_counts F old new Q (failed is.only) name f done (seen_before F old mid name Q Q (λ v. Refuses v f) clouds held is.seen)

  pub stopped_counts : (f : FetchFault) → FindRefuses F name P Q mid new f → CountsSay F act.List old new (reply.Stopped (fault_of_fetch f) (Some done))
  stopped_counts fetch.NoFile is = absurd is
  stopped_counts (fetch.Cloud c) is = by_refused (fetch.Cloud c) is
  stopped_counts (fetch.Short bads) is = by_refused (fetch.Short bads) is
  stopped_counts (fetch.Conflict g a b) is = by_refused (fetch.Conflict g a b) is
  stopped_counts (fetch.Misplaced c a b) is = by_refused (fetch.Misplaced c a b) is
  stopped_counts (fetch.Unsound a b) is = by_refused (fetch.Unsound a b) is
  stopped_counts fetch.Memory is = tt

-- on contents that stand
stops_at : {A : Type 0} (F : FleetGhosts A) (s : Setting) (bytes : List ℕ) (old new : A) (V : Vault) (f : FetchFault) (done : ℕ) → ListStops (F.clouds old) (failing_in F act.List old new) f V
    → RepliesTo F (task_of s act.List bytes) old new (reply.Stopped (fault_of_fetch f) (Some done)) V
stops_at F s bytes old new V fetch.NoFile done is = absurd is
stops_at F s bytes old new V (fetch.Cloud c) done is = is.one
stops_at F s bytes old new V (fetch.Short bads) done is = absurd is
stops_at F s bytes old new V (fetch.Conflict g a b) done is = is
stops_at F s bytes old new V (fetch.Misplaced c a b) done is = is
stops_at F s bytes old new V (fetch.Unsound a b) done is = absurd is
stops_at F s bytes old new V fetch.Memory done is = tt

stops_before : {A : Type 0} (F : FleetGhosts A) (old mid : A) (Q X : Clouds) (f : FetchFault) → F.clouds mid ≡ F.clouds old → F.held mid ≡ F.held old → HasAll (F.clouds old) Q X
    → StopsFor F mid Q f → ForEachVault (F.clouds old) (F.held old) (ListStops (F.clouds old) X f)
stops_before F old mid Q X f clouds held has stops =
    subst (λ (n : ℕ). ForEachVault n (F.held old) (ListStops n X f)) clouds
    (subst (λ (G : Contents). ForEachVault (F.clouds mid) G (ListStops (F.clouds mid) X f)) held (stops.each X (subst (λ (n : ℕ). HasAll n Q X) (sym clouds) has)))

shows_before : {A : Type 0} (F : FleetGhosts A) (old mid : A) (names : List (List ℕ)) (lens : List (Option ℕ)) (Q X : Clouds) → F.clouds mid ≡ F.clouds old → F.held mid ≡ F.held old
    → HasAll (F.clouds old) Q X → AllShow F mid names Q lens → ForEachVault (F.clouds old) (F.held old) (NamesShow (F.clouds old) X names lens)
shows_before F old mid names lens Q X clouds held has shows =
    subst (λ (n : ℕ). ForEachVault n (F.held old) (NamesShow n X names lens)) clouds
    (subst (λ (G : Contents). ForEachVault (F.clouds mid) G (NamesShow (F.clouds mid) X names lens)) held (shows.each X (subst (λ (n : ℕ). HasAll n Q X) (sym clouds) has)))

-- nothing was written
pub stays : (G H : Contents) (f : Fault) (after : Option ℕ) → H ≡ G → StaysBefore G H (reply.Stopped f after)
stays G H fault.NoFile after same = tt
stays G H (fault.Cloud c) after same = tt
stays G H (fault.Damaged c r how) after same = tt
stays G H (fault.Short bads) after same = tt
stays G H (fault.Conflict g a b) after same = λ first. same
stays G H (fault.Misplaced c a b) after same = λ first. same
stays G H (fault.Unsound a b) after same = tt
stays G H fault.Worn after same = tt
stays G H (fault.Spent tried) after same = tt
stays G H fault.Memory after same = tt

-- a name that wasn't told
refused_none : {A : Type 0} (F : FleetGhosts A) (old new : A) (cause : Fault) (after : Option ℕ) → RefusesName F old new cause after → ListsNone F old new cause after
refused_none F old new fault.NoFile after is = inr is
refused_none F old new (fault.Cloud c) after is = inr is
refused_none F old new (fault.Damaged c r how) after is = inr is
refused_none F old new (fault.Short bads) after is = inr is
refused_none F old new (fault.Conflict g a b) after is = inr is
refused_none F old new (fault.Misplaced c a b) after is = inr is
refused_none F old new (fault.Unsound a b) after is = inr is
refused_none F old new fault.Worn after is = inr is
refused_none F old new (fault.Spent tried) after is = inr is
refused_none F old new fault.Memory after is = tt

-- ---- all of it

module _ {A : Type 0} (F : FleetGhosts A) (s : Setting) (bytes : List ℕ) (old new : A) (read : IsRead F old new) where
  abbrev task : Task
  task = task_of s act.List bytes

  reads : OnlyReads act.List
  reads = record { works = λ n G. refl; changes = λ G H is. is; damaged = λ D. refl }

  none_among : (names : List (List ℕ)) (of : List ℕ) → WorksOn (F.clouds old) (F.held old) act.List names → Contains names of → ⊥
  none_among names of works among = in_none of (subst (λ (ns : List (List ℕ)). Contains ns of) works among)

  list_stopped : (f : Fault) (done : ℕ) → CountsSay F act.List old new (reply.Stopped f (Some done)) → ListsNone F old new f (Some done) → (F.tells → ForEachVault (F.clouds old) (F.held old) (RepliesTo F task old new (reply.Stopped f (Some done))))
      → Acted F task old new (reply.Stopped f (Some done))
  list_stopped f done counts sees replies = record {
    clouds = read.clouds;
    grows = read.grows;
    time = read.stops.time;
    kind = tt;
    counts = counts;
    costs = read.gets;
    took = tt;
    before = stays (F.held old) (F.held new) f (Some done) read.held;
    only = λ told. reads_only F task reads read.held read.stops;
    says = λ told. tt;
    sees = sees;
    reads = λ told. record { each = λ S D stands. tt };
    stands = λ told. reads_stopped F task reads read.held read.stops (Some done) refl f told;
    replies = replies;
    tidy = λ told sure not. tt;
  }

  -- no memory was found
  pub list_memory : (done : ℕ) → Acted F task old new (reply.Stopped fault.Memory (Some done))
  list_memory done = list_stopped fault.Memory done tt tt (λ told. record { each = λ S D stands. tt })

  -- three lists failed
  pub list_failed : (P : Clouds) (c : ℕ) → ListsBut F old new P → HaveFailed F old new P → IsLeastOfThree (F.clouds old) P c → Acted F task old new (reply.Stopped (fault.Cloud c) (Some 0))
  list_failed P c lists failed least =
      let many = least_many F old new P failed c least in
      list_stopped (fault.Cloud c) 0 many (inl (record { unlisted = P; lists = lists; cloud = c; least = least; is = refl; first = refl })) (λ told. record { each = λ S D stands. many.failed })

  -- a name wasn't told
  pub list_refused : (f : FetchFault) (done : ℕ) → CountsSay F act.List old new (reply.Stopped (fault_of_fetch f) (Some done)) → RefusesName F old new (fault_of_fetch f) (Some done)
      → (F.tells → ForEachVault (F.clouds old) (F.held old) (ListStops (F.clouds old) (failing_in F act.List old new) f)) → Acted F task old new (reply.Stopped (fault_of_fetch f) (Some done))
  list_refused f done counts refuses stops =
      list_stopped (fault_of_fetch f) done counts (refused_none F old new (fault_of_fetch f) (Some done) refuses) (λ told. record {
        each = λ S D stands. stops_at F s bytes old new (record { contents = F.held old; entries = S; damaged = D }) f done ((stops told).each S D stands);
      })

  -- all names are told
  pub list_told : (mid : A) (P Q : Clouds) (names : List (List ℕ)) (lens : List (Option ℕ)) (rows : List FileRow) → rows ≡ rows_of names lens → LooksOn F old mid new P Q
      → AreListed F mid names (length names) P Q lens → HaveFailed F old new Q → count_of (F.clouds old) Q ≤ 2
      → HasAll (F.clouds old) P Q → All IsName names → AreSortedNames names → length lens ≡ length names → (F.tells → AreNamesOutside (F.clouds old) (F.held old) P names)
      → (F.tells → ForEachVault (F.clouds old) (F.held old) (NamesShow (F.clouds old) (failing_in F act.List old new) names lens)) → Acted F task old new (reply.Listing rows)
  list_told mid P Q names lens rows are looks seen failed few within valid sorted long listed shows =
      subst (λ (r : List FileRow). Acted F task old new (reply.Listing r)) (sym are)
      (record {
        clouds = read.clouds;
        grows = read.grows;
        time = read.stops.time;
        kind = tt;
        counts = few_many F old new Q failed few;
        costs = read.gets;
        took = tt;
        before = tt;
        only = λ told. reads_only F task reads read.held read.stops;
        says = λ told. tt;
        sees = record { mid = mid; unlisted = P; failed = Q; looks = looks; few = few; names = names; sorted = sorted; are_names = listed; lens = lens; seen = seen; are = refl };
        reads = λ told. record { each = λ S D stands. tt };
        stands = reads_done F task reads read.held read.stops (reply.Listing (rows_of names lens)) (λ V done. done);
        replies = λ told. record {
          each = λ S D stands few_damaged.
              reads_list (F.clouds old) (F.held old) S D P (failing_in F act.List old new) names lens stands few_damaged
              (record { each = λ c l is. failed.all.each c l (within.each c l is) })
              (listed told) valid sorted long (λ i l. ((shows told).each S D stands).each i l few_damaged);
        };
        tidy = λ told sure not. record { each = λ names_of of plain works among. absurd (none_among names_of of works among) };
      })

-- the lists, the looks, and then the answer
module _ {A : Type 0} (F : FleetGhosts A) (s : Setting) (bytes : List ℕ) (old mid new : A) (P Q : Clouds) (listed : OnlyListed F old mid) (risen : HaveRisen (F.clouds old) (F.slips old) (F.slips mid) P)
    (stay : F.counts_exactly → StayOutside (F.slips old) (F.slips mid) P) (looked : OnlyLooked F mid new) (stops : Stops F mid new (λ G. G ≡ F.held mid))
    (gets : (c : ℕ) → F.chunk_gets new c ≡ F.chunk_gets mid c) (more : FailMore F P Q mid new) where
  read_by : IsRead F old new
  read_by = looked_read F old mid new P Q listed looked stops gets

  failing_by : HasAll (F.clouds old) Q (failing_in F act.List old new)
  failing_by = looked_failing F old mid new P Q listed looked risen more

  pub told_none : (done : ℕ) → Acted F (task_of s act.List bytes) old new (reply.Stopped fault.Memory (Some done))
  told_none done = list_memory F s bytes old new read_by done

  looks_on : count_of (F.clouds old) P ≤ 2 → LooksOn F old mid new P Q
  looks_on few = record { lists = record { only = listed; failed = risen; exact = stay }; few = few; more = more }

  pub told_stop : (names : List (List ℕ)) (stop : ListStop) → count_of (F.clouds old) P ≤ 2 → AreSortedNames names → (F.tells → AreNamesOutside (F.clouds old) (F.held old) P names)
      → ListRefuses F names P Q mid new stop → (F.tells → StopsFor F mid Q stop.fault)
      → Acted F (task_of s act.List bytes) old new (reply.Stopped (fault_of_fetch stop.fault) (Some stop.done))
  told_stop names stop few sorted outside is stops_for =
      list_refused F s bytes old new read_by stop.fault stop.done
      (stopped_counts F old mid new P Q (slice_index_or names stop.done []) stop.done listed.clouds listed.held (λ only. looked_failed F old mid new P Q listed looked risen stay more only) stop.fault is.refuses)
      (record { mid = mid; unlisted = P; failed = Q; looks = looks_on few; names = names; sorted = sorted; are_names = outside; stop = stop; refuses = is; is = refl; done = refl })
      (λ told. stops_before F old mid Q (failing_in F act.List old new) stop.fault listed.clouds listed.held failing_by (stops_for told))

  pub told_all : (names : List (List ℕ)) (lens : List (Option ℕ)) (rows : List FileRow) → rows ≡ rows_of names lens → AreListed F mid names (length names) P Q lens → (F.counts_exactly → OnlyMore F P Q mid new) → StayFew (F.clouds mid) P Q
      → count_of (F.clouds old) P ≤ 2 → All IsName names → AreSortedNames names → (F.tells → AreNamesOutside (F.clouds old) (F.held old) P names) → length lens ≡ length names
      → (F.tells → AllShow F mid names Q lens) → Acted F (task_of s act.List bytes) old new (reply.Listing rows)
  told_all names lens rows are seen only stays_few few valid sorted outside long shows =
      let still : StayFew (F.clouds old) P Q = subst (λ (n : ℕ). StayFew n P Q) listed.clouds stays_few in
      list_told F s bytes old new read_by mid P Q names lens rows are (looks_on few) seen (looked_failed F old mid new P Q listed looked risen stay more only) (still.few few)
      (subst (λ (n : ℕ). HasAll n P Q) listed.clouds more.kept) valid sorted long outside
      (λ told. shows_before F old mid names lens Q (failing_in F act.List old new) listed.clouds listed.held failing_by (shows told))
