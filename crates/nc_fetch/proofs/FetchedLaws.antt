-- What a fetch answers on contents that stand.
use Rattle.std.proofs.Common.{◌≡◌, ◌<◌, ◌≤◌, ℕ, Bool, List, Ok, Err, sym, ap, ◌∙◌, subst, arith}
use Rattle.nc_name.specs.Names.{IsName}
use Rattle.nc_cloud.specs.Contents.{Contents, Grows}
use Rattle.nc_cloud.specs.Deciding.{OnlyLooked}
use Rattle.nc_cloud.specs.Fleet.{got_count}
use Rattle.nc_cloud.specs.declared.fleet.Fleet.{Ghosts as FleetGhosts}
use Rattle.nc_cloud.proofs.Counts.{rose_more}
use Rattle.nc_mds.proofs.Shown.{first_not_mds}
use Rattle.nc_meta.specs.declared.meta.Live.{Live}
use Rattle.nc_state.specs.Clouds.{Clouds}
use Rattle.nc_state.specs.Right.{PlacesStand}
use Rattle.nc_state.specs.Showing.{AreBearable, NoneOf, ReadsAs, together}
use Rattle.nc_state.specs.Standing.{Entries, Stands}
use Rattle.nc_state.specs.Vaults.{Vault}
use Rattle.nc_state.specs.Versions.{IsValidFor}
use Rattle.nc_state.specs.Versions.Version.{Stored}
use Rattle.nc_code.specs.Codes.{IsMds}
use Rattle.nc_settle.specs.Views.{Places, width_of}
use Rattle.nc_settle.specs.Looking.{FailuresRose, HasWidth, OnlyFailuresRose, Sees}
use Rattle.nc_settle.specs.Failing.{NamesFailing}
use Rattle.nc_settle.specs.MetaWrites.{named}
use Rattle.nc_settle.proofs.Failures.{failing_has}
use Rattle.nc_download.specs.declared.short.Bad.{Bad}
use Rattle.nc_download.specs.declared.fault.FetchFault.{FetchFault}
use Rattle.nc_download.specs.declared.fault.FetchFault.TheVariants.{NoFile, Cloud, Short, Conflict, Misplaced, Unsound, Memory}
use Rattle.nc_download.specs.Finding.{HasRisen, SeenNow}
use Rattle.nc_download.specs.FindingOnVaults.{HasAll, IsShownFile, LookShows}
use Rattle.nc_download.specs.Seeing.{Refuses, Shows}
use Rattle.nc_download.proofs.FindLaws.{found_shows, refused_shows}
use Rattle.nc_fetch.specs.declared.parts.PartFault.TheVariants as part
use Rattle.nc_fetch.specs.Fetching.{Fetches, HasSought, ShowsUnsound}
use Rattle.nc_fetch.specs.FetchingOnVaults.{EachFetchShows, FetchShows}
use Rattle.nc_fetch.specs.Costs.{EachReadsWhole, ReadsFirst, ReadsWhole}
use Rattle.nc_fetch.specs.Parts.{ComesBackFrom, LacksFor}
use Rattle.nc_fetch.specs.PartsOnVaults.{StandsBy}
use Rattle.nc_fetch.proofs.CostLaws.{none_counts, reads_first}
use Rattle.nc_fetch.proofs.PartLaws.{lacks_shows, part_shows}

-- a look that shows a file
pub has_sought : {A : Type 0} (F : FleetGhosts A) (name : List ℕ) (old mid : A) (v : Places) (m : Live) (failed : List Bool) → HasWidth (F.clouds old) v → (F.tells → Sees (F.clouds old) name (F.held old) v)
    → FailuresRose (F.clouds old) (F.faults old) (F.faults mid) v → (F.counts_exactly → OnlyFailuresRose (F.faults old) (F.faults mid) v) → Shows v m → NamesFailing v (width_of v) failed → IsMds m.code → OnlyLooked F old mid
    → ((c : ℕ) → F.chunk_gets mid c ≡ F.chunk_gets old c) → HasSought F name old mid m failed
has_sought F name old mid v m failed width sees rose only shown names mds looked unread = record {
  seen = record { view = v; width = width; sees = sees; rose = rose; only = only; shown = shown };
  names = names;
  mds = mds;
  looked = looked;
  unread = unread;
}

-- what a look refuses, a fetch does
pub refused_fetches : {A : Type 0} (F : FleetGhosts A) (name : List ℕ) (old new : A) (fault : FetchFault) → SeenNow F name old new (λ v. Refuses v fault) → Fetches F name old new (Err fault)
refused_fetches F name old new NoFile seen = seen
refused_fetches F name old new (Cloud c) seen = seen
refused_fetches F name old new (Misplaced c a b) seen = seen
refused_fetches F name old new (Conflict g a b) seen = seen
refused_fetches F name old new (Short bads) seen = absurd seen.shown
refused_fetches F name old new (Unsound a b) seen = absurd seen.shown
refused_fetches F name old new Memory seen = tt

-- what a look shows is what a fetch that ends there shows
as_fetch : (n : ℕ) (X : Clouds) (name : List ℕ) (fault : FetchFault) (V : Vault) → LookShows n X name (Err fault) V → FetchShows n X name (Err fault) V
as_fetch n X name NoFile V is = is
as_fetch n X name (Cloud c) V is = is
as_fetch n X name (Misplaced c a b) V is = is
as_fetch n X name (Conflict g a b) V is = is
as_fetch n X name (Short bads) V is = absurd is
as_fetch n X name (Unsound a b) V is = absurd is
as_fetch n X name Memory V is = tt

module _ {A : Type 0} (F : FleetGhosts A) (name : List ℕ) (valid : IsName name) (told : F.tells) where
  pub refused_each : (old new : A) (fault : FetchFault) → SeenNow F name old new (λ v. Refuses v fault) → EachFetchShows F name old new (Err fault)
  refused_each old new fault seen =
      let shows = refused_shows F name old new valid told fault seen in
      record { each = λ X risen. record { each = λ S D stands. as_fetch (F.clouds old) X name fault (record { contents = F.held old; entries = S; damaged = D }) ((shows.each X risen).each S D stands) } }

  pub unsound_each : (old new : A) (a b : ℕ) → SeenNow F name old new (ShowsUnsound a b) → EachFetchShows F name old new (Err (Unsound a b))
  unsound_each old new a b seen =
      let plain : SeenNow F name old new (λ v. Shows v seen.shown.meta) =
      record { view = seen.view; width = seen.width; sees = seen.sees; rose = seen.rose; only = seen.only; shown = seen.shown.shown } in
      let shows = found_shows F name old new valid told seen.shown.meta plain in
      record { each = λ X risen. record { each = λ S D stands few. first_not_mds seen.shown.meta.code a b seen.shown.kernel seen.shown.first ((shows.each X risen).each S D stands few).valid.mds } }

  -- a file that was sought
  module _ (old mid new : A) (m : Live) (failed : List Bool) (sought : HasSought F name old mid m failed) (later : Grows (F.faults mid) (F.faults new)) (X : Clouds) (risen : HasRisen F old new X) where
    risen_first : HasRisen F old mid X
    risen_first = record { each = λ c l rose. let high : F.faults mid c ≤ F.faults new c = later c in risen.each c l (omega (arith, rose, high)) }

    risen_then : HasRisen F mid new X
    risen_then = record { each = λ c l rose. risen.each c (omega (arith, l, sought.looked.clouds)) (rose_more (F.faults old c) (F.faults mid c) (F.faults new c) (sought.looked.grows c) rose) }

    has_failed : HasAll (F.clouds mid) (named failed) X
    has_failed = record {
      each = λ c l within.
          let low : c < F.clouds old = omega (arith, l, sought.looked.clouds) in
          let has = failing_has sought.seen.view c (sym (sought.names.each c (omega (arith, low, sought.seen.width.first))) ∙ within) in
          risen_first.each c low (sought.seen.rose.each c has.slot low has.in_pair has.failed);
    }

    module _ (S : Entries) (D : Clouds) (stands : Stands (F.clouds old) (F.held old) S D) where
      stands_then : Stands (F.clouds mid) (F.held mid) S D
      stands_then = subst (λ (n : ℕ). Stands n (F.held mid) S D) (sym sought.looked.clouds) (subst (λ (G : Contents). Stands (F.clouds old) G S D) (sym sought.looked.held) stands)

      bearable_then : AreBearable (F.clouds old) D X → AreBearable (F.clouds mid) D X
      bearable_then few = subst (λ (n : ℕ). AreBearable n D X) (sym sought.looked.clouds) few

      shown_file : AreBearable (F.clouds old) D X → IsShownFile (F.clouds old) (record { contents = F.held old; entries = S; damaged = D }) X name m
      shown_file few = ((found_shows F name old mid valid told m sought.seen).each X risen_first).each S D stands few

      stands_by : (few : AreBearable (F.clouds old) D X) → StandsBy (F.clouds mid) (record { contents = F.held mid; entries = S; damaged = D }) name m (shown_file few).bytes
      stands_by few = record {
        valid = subst (λ (n : ℕ). IsValidFor n m (shown_file few).bytes) (sym sought.looked.clouds) (shown_file few).valid;
        places =
            subst (λ (n : ℕ). PlacesStand n (F.held mid) D name (Stored m (shown_file few).bytes)) (sym sought.looked.clouds)
            (subst (λ (G : Contents). PlacesStand (F.clouds old) G D name (Stored m (shown_file few).bytes)) (sym sought.looked.held) (shown_file few).places);
      }

    pub came_each : (file : List ℕ) → ComesBackFrom F name m mid new (named failed) file → (S : Entries) (D : Clouds) → Stands (F.clouds old) (F.held old) S D
        → FetchShows (F.clouds old) X name (Ok file) (record { contents = F.held old; entries = S; damaged = D })
    came_each file comes S D stands = λ few.
        let shown = shown_file S D stands few in
        let parts = part_shows F name m mid new (named failed) told file comes in
        let is : file ≡ shown.bytes = ((parts.each X has_failed risen_then).each S D (stands_then S D stands)) shown.bytes (stands_by S D stands few) in
        record { meta = m; shown = subst (λ (v : List ℕ). ReadsAs (F.clouds old) (F.held old) X name (S name) (Stored m v)) (sym is) shown.shown }

    pub short_each : (list : List Bad) → LacksFor F name m mid new (named failed) (part.Short list) → (S : Entries) (D : Clouds) → Stands (F.clouds old) (F.held old) S D
        → FetchShows (F.clouds old) X name (Err (Short list)) (record { contents = F.held old; entries = S; damaged = D })
    short_each list lacks S D stands = λ few.
        let shown = shown_file S D stands few in
        let parts = lacks_shows F name m mid new (named failed) told (part.Short list) lacks in
        ((parts.each X has_failed risen_then).each S D (stands_then S D stands)) shown.bytes (stands_by S D stands few) (bearable_then S D stands few)

    -- the chunks that were read
    pub came_reads : (file : List ℕ) → ComesBackFrom F name m mid new (named failed) file → (S : Entries) (D : Clouds) → Stands (F.clouds old) (F.held old) S D
        → ReadsWhole (F.clouds old) X (F.chunk_gets old) (F.chunk_gets new) (record { contents = F.held old; entries = S; damaged = D })
    came_reads file comes S D stands = λ none.
        let few : AreBearable (F.clouds old) D X = let nothing = none_counts (F.clouds old) (together D X) none in omega (arith, nothing) in
        let there : NoneOf (F.clouds mid) (together D X) = subst (λ (n : ℕ). NoneOf n (together D X)) (sym sought.looked.clouds) none in
        let read : ReadsFirst (F.clouds mid) (F.chunk_gets mid) (F.chunk_gets new) =
        reads_first F name m mid new (named failed) X told has_failed risen_then S D (stands_then S D stands) (shown_file S D stands few).bytes (stands_by S D stands few) comes.before comes.whys comes.marked
        comes.up_to comes.within comes.tried there comes.enough in
        record {
          first = λ c l. read.first c (omega (arith, l, sought.looked.clouds)) ∙ ap (λ (k : ℕ). got_count k 2) (sought.unread c);
          others = λ c low past. read.others c (omega (arith, low, sought.looked.clouds)) (omega (arith, past, sought.looked.clouds)) ∙ sought.unread c;
        }

  module _ (old mid new : A) (m : Live) (failed : List Bool) (sought : HasSought F name old mid m failed) (later : Grows (F.faults mid) (F.faults new)) where
    pub came_reads_whole : (file : List ℕ) → ComesBackFrom F name m mid new (named failed) file → EachReadsWhole F old new
    came_reads_whole file comes = record { each = λ X risen. record { each = λ S D stands. came_reads old mid new m failed sought later X risen file comes S D stands } }

    pub came_shows : (file : List ℕ) → ComesBackFrom F name m mid new (named failed) file → EachFetchShows F name old new (Ok file)
    came_shows file comes = record { each = λ X risen. record { each = λ S D stands. came_each old mid new m failed sought later X risen file comes S D stands } }

    pub short_shows : (list : List Bad) → LacksFor F name m mid new (named failed) (part.Short list) → EachFetchShows F name old new (Err (Short list))
    short_shows list lacks = record { each = λ X risen. record { each = λ S D stands. short_each old mid new m failed sought later X risen list lacks S D stands } }
