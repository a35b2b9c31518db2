-- Names that are looked for one after the other.
use Rattle.std.proofs.Common.{◌≡◌, ◌<◌, ◌≤◌, ◌+◌, ◌++◌, ◌∷◌, ℕ, Bool, true, false, Option, None, Some, List, [], length, length-append, get_or, inl, inr, refl, sym, ap, ◌∙◌, subst, arith}
use Rattle.std.proofs.lemmas.Bool.{cases_Bool, cases_lt}
use Rattle.std.proofs.lemmas.List.{get_or_append_left}
use Rattle.std.proofs.Math.Seq.{get_or-append_seam}
use Rattle.nc_name.specs.Names.{IsName}
use Rattle.nc_cloud.specs.Contents.{Contents, Grows}
use Rattle.nc_cloud.specs.Deciding.{OnlyLooked}
use Rattle.nc_cloud.specs.Stopping.{Stops}
use Rattle.nc_cloud.specs.declared.fleet.Fleet.{Ghosts as FleetGhosts}
use Rattle.nc_cloud.proofs.Counts.{rose_more}
use Rattle.nc_cloud.proofs.Time.{stops_none, stops_twice}
use Rattle.nc_state.specs.Clouds.{Clouds, count_of}
use Rattle.nc_state.specs.Showing.{AreBearable}
use Rattle.nc_state.specs.Standing.{Entries, Stands}
use Rattle.nc_settle.specs.Views.{Places, width_of}
use Rattle.nc_settle.specs.Looking.{HasWidth, OnlyFailuresRose, OthersRose, Sees, SkipsFailed}
use Rattle.nc_settle.specs.MetaWrites.{named}
use Rattle.nc_settle.specs.Failing.{fails, FewFail, NamesFailing}
use Rattle.nc_settle.proofs.Failures.{failed_at, failing_has}
use Rattle.nc_download.specs.declared.fault.FetchFault.{FetchFault}
use Rattle.nc_download.specs.declared.fault.FetchFault.TheVariants.{NoFile, Memory}
use Rattle.nc_download.specs.declared.listing.ListStop.{ListStop}
use Rattle.nc_download.specs.Seeing.{Refuses, ShowsOr, is_no_file}
use Rattle.nc_download.specs.FindingOnVaults.{HasAll}
use Rattle.nc_download.specs.Listing.{AreListed, FailMore, FindRefuses, IsRefused, ListRefuses, OnlyMore, SeenOf, StayFew}
use Rattle.nc_download.specs.ListingOnVaults.{AllShow, LenShows, ListStops, StopsFor}
use Rattle.nc_download.proofs.ViewLaws.{fewer, file_shown, none_shown, refusal_shown}

-- ---- one name

module _ {A : Type 0} (F : FleetGhosts A) (old new : A) (v : Places) (P : Clouds) (table : List Bool) (width : HasWidth (F.clouds old) v) (names : NamesFailing v (width_of v) table) where
  is_failing : (c : ℕ) → c < F.clouds old → named table c ≡ fails v c
  is_failing c l = names.each c (omega (arith, l, width.first))

  pub seen_of : (name : List ℕ) (says : Places → Type 0) → IsName name → (F.tells → Sees (F.clouds old) name (F.held old) v) → says v → SeenOf F old name (named table) (named table) says
  seen_of name says is sees told = record {
    is_name = is;
    view = v;
    width = width;
    sees = sees;
    skips = record { each = λ c l e. sym (is_failing c l) ∙ e };
    among = record { each = λ c l e. is_failing c l ∙ e };
    shown = told;
  }

  pub fail_more : SkipsFailed (F.clouds old) P v → OthersRose (F.clouds old) P (F.faults old) (F.faults new) v → FailMore F P (named table) old new
  fail_more skips others = record {
    kept = record { each = λ c l e. is_failing c l ∙ failed_at v c 0 (omega arith) (skips.each c 0 l (omega arith) e) };
    rose = λ c l out within.
        let has = failing_has v c (sym (is_failing c l) ∙ within) in
        others.each c has.slot l has.in_pair out has.failed;
  }

  pub only_more : OnlyFailuresRose (F.faults old) (F.faults new) v → ((c : ℕ) → P c ≡ true → F.faults new c ≡ F.faults old c) → OnlyMore F P (named table) old new
  only_more only spared = record {
    each = λ c l none. elim (cases_Bool (P c)) [
      | inl within ↦ spared c within
      | inr out ↦ only.each c (λ slot low failed. none out (is_failing c l ∙ failed_at v c slot low failed))
    ];
  }

pub refused_none : (v : Places) (fault : FetchFault) → is_no_file fault ≡ true → Refuses v fault → Refuses v NoFile
refused_none v NoFile is refuses = refuses
refused_none v other is refuses = absurd cc

pub refused_by : {A : Type 0} (F : FleetGhosts A) (name : List ℕ) (P Q : Clouds) (old new : A) (fault : FetchFault) → is_no_file fault ≡ false → IsRefused F name P Q old new fault → FindRefuses F name P Q old new fault
refused_by F name P Q old new NoFile out is = absurd cc
refused_by F name P Q old new Memory out is = tt
refused_by F name P Q old new other out is = is

-- nothing was done
pub fail_none : {A : Type 0} (F : FleetGhosts A) (P : Clouds) (old new : A) → FailMore F P P old new
fail_none F P old new = record { kept = record { each = λ c l e. e }; rose = λ c l out within. let e : true ≡ false = sym within ∙ out in absurd cc }

pub only_none : {A : Type 0} (F : FleetGhosts A) (P : Clouds) (old : A) → OnlyMore F P P old old
only_none F P old = record { each = λ c l none. refl }

-- ---- one name after the other

-- the first k names were looked for, from old to now
pub record AreLooked {A : Type 0} (F : FleetGhosts A) (names : List (List ℕ)) (k : ℕ) (P Q : Clouds) (lens : List (Option ℕ)) (old now : A) : Type 0 where
  pub listed : AreListed F old names k P Q lens
  pub few : StayFew (F.clouds old) P Q
  pub more : FailMore F P Q old now
  pub only : F.counts_exactly → OnlyMore F P Q old now
  pub looked : OnlyLooked F old now
  pub stops : Stops F old now (λ G. G ≡ F.held old)
  pub gets : (c : ℕ) → F.chunk_gets now c ≡ F.chunk_gets old c

pub looked_none : {A : Type 0} (F : FleetGhosts A) (names : List (List ℕ)) (P : Clouds) (old : A) → AreLooked F names 0 P P [] old old
looked_none F names P old = record {
  listed = record { long = refl; each = λ i l. absurd (omega arith) };
  few = record { few = λ l. l };
  more = fail_none F P old old;
  only = λ exact. only_none F P old;
  looked = record { clouds = refl; held = refl; grows = λ c. omega arith; slips = refl };
  stops = stops_none old (λ G. G ≡ F.held old);
  gets = λ c. refl;
}

module _ {A : Type 0} (F : FleetGhosts A) (P Q R : Clouds) (old mid new : A) (same : F.clouds mid ≡ F.clouds old) where
  at_mid : (c : ℕ) → c < F.clouds old → c < F.clouds mid
  at_mid c l = omega (arith, l, same)

  pub more_then : Grows (F.faults old) (F.faults mid) → Grows (F.faults mid) (F.faults new) → FailMore F P Q old mid → FailMore F Q R mid new → FailMore F P R old new
  more_then grows later a b = record {
    kept = record { each = λ c l e. b.kept.each c (at_mid c l) (a.kept.each c l e) };
    rose = λ c l out within. elim (cases_Bool (Q c)) [
      | inl early ↦ let high : F.faults mid c ≤ F.faults new c = later c in omega (arith, a.rose c l out early, high)
      | inr late ↦ rose_more (F.faults old c) (F.faults mid c) (F.faults new c) (grows c) (b.rose c (at_mid c l) late within)
    ];
  }

  pub only_then : FailMore F P Q old mid → FailMore F Q R mid new → OnlyMore F P Q old mid → OnlyMore F Q R mid new → OnlyMore F P R old new
  only_then a b first second = record {
    each = λ c l none.
        second.each c (at_mid c l) (λ out within. elim (cases_Bool (P c)) [
          | inl before ↦ let e : true ≡ false = sym (a.kept.each c l before) ∙ out in cc
          | inr after ↦ none after within
        ])
        ∙ first.each c l (λ out within. none out (b.kept.each c (at_mid c l) within));
  }

pub looked_then : {A : Type 0} (F : FleetGhosts A) (old mid new : A) → OnlyLooked F old mid → OnlyLooked F mid new → OnlyLooked F old new
looked_then F old mid new a b = record {
  clouds = b.clouds ∙ a.clouds;
  held = b.held ∙ a.held;
  grows = λ c. let low : F.faults old c ≤ F.faults mid c = a.grows c in let high : F.faults mid c ≤ F.faults new c = b.grows c in omega (arith, low, high);
  slips = b.slips ∙ a.slips;
}

-- at most two clouds failed in a view that shows a file or none
few_of : (v : Places) (len : Option ℕ) → ShowsOr len v → FewFail v
few_of v (Some len) shown = shown.1.few
few_of v None (inl nothing) = nothing.0.few
few_of v None (inr gone) = gone.few

seen_few : {A : Type 0} (F : FleetGhosts A) (fleet : A) (name : List ℕ) (R : Clouds) (len : Option ℕ) → SeenOf F fleet name R R (ShowsOr len) → count_of (F.clouds fleet) R ≤ 2
seen_few F fleet name R len seen =
    let few : count_of (F.clouds fleet) (fails seen.view) ≤ 2 = subst (λ (n : ℕ). count_of n (fails seen.view) ≤ 2) seen.width.first (few_of seen.view len seen.shown) in
    omega (arith, few, fewer (F.clouds fleet) R (fails seen.view) seen.skips.each)

-- of other sets of clouds
pub seen_wider : {A : Type 0} (F : FleetGhosts A) (fleet : A) (name : List ℕ) (P Q R S : Clouds) (says : Places → Type 0)
    → HasAll (F.clouds fleet) R P → HasAll (F.clouds fleet) Q S → SeenOf F fleet name P Q says → SeenOf F fleet name R S says
seen_wider F fleet name P Q R S says below above seen = record {
  is_name = seen.is_name;
  view = seen.view;
  width = seen.width;
  sees = seen.sees;
  skips = record { each = λ c l e. seen.skips.each c l (below.each c l e) };
  among = record { each = λ c l e. above.each c l (seen.among.each c l e) };
  shown = seen.shown;
}

-- of a fleet that holds the same
pub seen_before : {A : Type 0} (F : FleetGhosts A) (old mid : A) (name : List ℕ) (P Q : Clouds) (says : Places → Type 0)
    → F.clouds mid ≡ F.clouds old → F.held mid ≡ F.held old → SeenOf F mid name P Q says → SeenOf F old name P Q says
seen_before F old mid name P Q says same held seen = record {
  is_name = seen.is_name;
  view = seen.view;
  width = subst (λ (n : ℕ). HasWidth n seen.view) same seen.width;
  sees = λ told. subst (λ (n : ℕ). Sees n name (F.held old) seen.view) same (subst (λ (G : Contents). Sees (F.clouds mid) name G seen.view) held (seen.sees told));
  skips = subst (λ (n : ℕ). HasAll n P (fails seen.view)) same seen.skips;
  among = subst (λ (n : ℕ). HasAll n (fails seen.view) Q) same seen.among;
  shown = seen.shown;
}

module _ {A : Type 0} (F : FleetGhosts A) (names : List (List ℕ)) (P Q R : Clouds) (old mid new : A) where
  listed_more : (k : ℕ) (lens next : List (Option ℕ)) (len : Option ℕ) (name : List ℕ) → FailMore F P Q old mid → FailMore F Q R mid new → F.clouds mid ≡ F.clouds old → F.held mid ≡ F.held old
      → AreListed F old names k P Q lens → name ≡ get_or names k [] → SeenOf F mid name R R (ShowsOr len) → next ≡ lens ++ len ∷ [] → AreListed F old names (k + 1) P R next
  listed_more k lens next len name a b same held listed is seen pushed =
      let wide : HasAll (F.clouds old) Q R = subst (λ (n : ℕ). HasAll n Q R) same b.kept in
      let low : HasAll (F.clouds old) P R = record { each = λ c l e. wide.each c l (a.kept.each c l e) } in
      record {
        long = ap length pushed ∙ length-append lens (len ∷ []) ∙ ap (λ m. m + 1) listed.long;
        each = λ i l. elim (cases_lt i k) [
          | inl before ↦
              let there : get_or next i None ≡ get_or lens i None = ap (λ ls. get_or ls i None) pushed ∙ get_or_append_left lens (len ∷ []) None i (omega (arith, before, listed.long)) in
              subst (λ (o : Option ℕ). SeenOf F old (get_or names i []) P R (ShowsOr o)) (sym there)
              (seen_wider F old (get_or names i []) P Q P R (ShowsOr (get_or lens i None)) (record { each = λ c m e. e }) wide (listed.each i before))
          | inr after ↦
              let here : k ≡ i = omega arith in
              let at : k ≡ length lens = sym listed.long in
              let there : get_or next k None ≡ len = ap (λ ls. get_or ls k None) pushed ∙ ap (λ m. get_or (lens ++ len ∷ []) m None) at ∙ get_or-append_seam lens len [] None in
              let now : SeenOf F old name P R (ShowsOr len) = seen_wider F old name R R P R (ShowsOr len) low (record { each = λ c m e. e }) (seen_before F old mid name R R (ShowsOr len) same held seen) in
              subst (λ (j : ℕ). SeenOf F old (get_or names j []) P R (ShowsOr (get_or next j None))) here
              (subst (λ (o : Option ℕ). SeenOf F old (get_or names k []) P R (ShowsOr o)) (sym there) (subst (λ (m : List ℕ). SeenOf F old m P R (ShowsOr len)) is now))
        ];
      }

  -- one name more
  pub looked_more : (k : ℕ) (lens next : List (Option ℕ)) (len : Option ℕ) (name : List ℕ) → AreLooked F names k P Q lens old mid → name ≡ get_or names k [] → SeenOf F mid name R R (ShowsOr len)
      → FailMore F Q R mid new → (F.counts_exactly → OnlyMore F Q R mid new) → OnlyLooked F mid new → Stops F mid new (λ G. G ≡ F.held mid) → ((c : ℕ) → F.chunk_gets new c ≡ F.chunk_gets mid c)
      → next ≡ lens ++ len ∷ [] → AreLooked F names (k + 1) P R next old new
  looked_more k lens next len name so_far is seen more only looked stops gets pushed = record {
    listed = listed_more k lens next len name so_far.more more so_far.looked.clouds so_far.looked.held so_far.listed is seen pushed;
    few = record { few = λ l. subst (λ (n : ℕ). count_of n R ≤ 2) so_far.looked.clouds (seen_few F mid name R len seen) };
    more = more_then F P Q R old mid new so_far.looked.clouds so_far.looked.grows looked.grows so_far.more more;
    only = λ exact. only_then F P Q R old mid new so_far.looked.clouds so_far.more more (so_far.only exact) (only exact);
    looked = looked_then F old mid new so_far.looked looked;
    stops = stops_twice so_far.looked.held so_far.stops stops;
    gets = λ c. gets c ∙ so_far.gets c;
  }

  -- the name that no length is told of
  refused_then : (k : ℕ) (lens : List (Option ℕ)) (name : List ℕ) → AreLooked F names k P Q lens old mid → FailMore F Q R mid new → (fault : FetchFault) → FindRefuses F name Q R mid new fault → FindRefuses F name P R old new fault
  refused_then k lens name so_far more Memory is = tt
  refused_then k lens name so_far more NoFile is = is
  refused_then k lens name so_far more other is = record {
    seen = seen_before F old mid name R R (λ v. Refuses v other) so_far.looked.clouds so_far.looked.held is.seen;
    only = λ exact. only_then F P Q R old mid new so_far.looked.clouds so_far.more more (so_far.only exact) (is.only exact);
  }

  pub list_refused : (lens : List (Option ℕ)) (name : List ℕ) (stop : ListStop) → AreLooked F names stop.done P Q lens old mid → FailMore F Q R mid new → stop.done < length names
      → name ≡ get_or names stop.done [] → FindRefuses F name Q R mid new stop.fault → ListRefuses F names P R old new stop
  list_refused lens name stop so_far more l is refuses = record {
    within = l;
    refuses = subst (λ (m : List ℕ). FindRefuses F m P R old new stop.fault) is (refused_then stop.done lens name so_far more stop.fault refuses);
  }

-- ---- on contents that stand

module _ {A : Type 0} (F : FleetGhosts A) (fleet : A) (told : F.tells) where
  -- the clouds that failed are of each set that has those of Q
  failed_of : (name : List ℕ) (P Q X : Clouds) (says : Places → Type 0) (seen : SeenOf F fleet name P Q says) → HasAll (F.clouds fleet) Q X → HasAll (F.clouds fleet) (fails seen.view) X
  failed_of name P Q X says seen has = record { each = λ c l e. has.each c l (seen.among.each c l e) }

  len_shows : (name : List ℕ) (P Q X : Clouds) (len : Option ℕ) → SeenOf F fleet name P Q (ShowsOr len) → HasAll (F.clouds fleet) Q X
      → (S : Entries) (D : Clouds) → Stands (F.clouds fleet) (F.held fleet) S D → AreBearable (F.clouds fleet) D X
      → LenShows (F.clouds fleet) (record { contents = F.held fleet; entries = S; damaged = D }) X name len
  len_shows name P Q X (Some len) seen has S D stands few = (
    seen.shown.0,
    file_shown (F.clouds fleet) name (F.held fleet) seen.view seen.is_name (seen.sees told) seen.width S D X stands (failed_of name P Q X (ShowsOr (Some len)) seen has) seen.shown.0 seen.shown.1 few,
    seen.shown.2,
  )
  len_shows name P Q X None seen has S D stands few =
      none_shown (F.clouds fleet) name (F.held fleet) seen.view seen.is_name (seen.sees told) seen.width S D X stands (failed_of name P Q X (ShowsOr None) seen has) seen.shown few

  pub all_show : (names : List (List ℕ)) (P Q : Clouds) (lens : List (Option ℕ)) → AreListed F fleet names (length names) P Q lens → AllShow F fleet names Q lens
  all_show names P Q lens listed = record {
    each = λ X has. record {
      each = λ S D stands. record {
        each = λ i l few. len_shows (get_or names i []) P Q X (get_or lens i None) (listed.each i l) has S D stands few;
      };
    };
  }

  stops_by : (P Q : Clouds) (new : A) (name : List ℕ) (fault : FetchFault) → FindRefuses F name P Q fleet new fault → (X : Clouds) → HasAll (F.clouds fleet) Q X
      → (S : Entries) (D : Clouds) → Stands (F.clouds fleet) (F.held fleet) S D → ListStops (F.clouds fleet) X fault (record { contents = F.held fleet; entries = S; damaged = D })
  stops_by P Q new name Memory is X has S D stands = tt
  stops_by P Q new name NoFile is X has S D stands = is
  stops_by P Q new name other is X has S D stands =
      refusal_shown (F.clouds fleet) name (F.held fleet) is.seen.view is.seen.is_name (is.seen.sees told) is.seen.width S D X stands (failed_of name Q Q X (λ v. Refuses v other) is.seen has) other is.seen.shown

  pub stops_for : (names : List (List ℕ)) (P Q : Clouds) (new : A) (stop : ListStop) → ListRefuses F names P Q fleet new stop → StopsFor F fleet Q stop.fault
  stops_for names P Q new stop is = record {
    each = λ X has. record { each = λ S D stands. stops_by P Q new (get_or names stop.done []) stop.fault is.refuses X has S D stands };
  }
