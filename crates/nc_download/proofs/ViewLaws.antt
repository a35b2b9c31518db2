-- What a view shows of contents that stand is what their entries show, for any set of clouds that has those that failed.
use Rattle.std.proofs.Common.{◌≡◌, ◌≢◌, ◌<◌, ◌≤◌, ◌+◌, ℕ, zero, suc, Bool, true, false, if◌then◌else◌, None, Some, List, inl, inr, refl, sym, ap, ◌∙◌, subst, arith, Err}
use Rattle.nc_name.specs.Names.{IsName}
use Rattle.nc_cloud.specs.Contents.{Contents}
use Rattle.nc_meta.specs.declared.meta.Live.{Live as LiveMeta}
use Rattle.nc_meta.specs.declared.meta.Meta.{Meta}
use Rattle.nc_meta.specs.declared.meta.Meta.TheVariants.{Live, Gone}
use Rattle.nc_state.specs.Clouds.{Clouds, count_of}
use Rattle.nc_state.specs.Versions.{IsValid, Version, meta_of}
use Rattle.nc_state.specs.Versions.Version.{Never, Removed, Stored}
use Rattle.nc_state.specs.Right.{PlacesStand}
use Rattle.nc_state.specs.Showing.{AreBearable, IsShown, ReadsAs}
use Rattle.nc_state.specs.Standing.{Entries, Stands}
use Rattle.nc_state.specs.Vaults.{Vault}
use Rattle.nc_state.proofs.ShownLaw.{seen_is_shown}
use Rattle.nc_settle.specs.Views.{Places}
use Rattle.nc_settle.specs.Looking.{HasWidth, Sees}
use Rattle.nc_settle.specs.Decisions.{SeesTop}
use Rattle.nc_settle.specs.Failing.{fails}
use Rattle.nc_settle.proofs.Failures.{failing_is}
use Rattle.nc_settle.proofs.Outside.{no_conflict_with, no_misplaced, none_outside, top_outside}
use Rattle.nc_download.specs.declared.fault.FetchFault.{FetchFault}
use Rattle.nc_download.specs.declared.fault.FetchFault.TheVariants.{NoFile, Cloud, Short, Conflict, Misplaced, Unsound, Memory}
use Rattle.nc_download.specs.Seeing.{Refuses, Shows}
use Rattle.nc_download.specs.FindingOnVaults.{HasAll, IsShownFile, IsShownNone, LookShows}

-- a version with live metadata is a file
stored_of : (x : Version) (m : LiveMeta) → meta_of x ≡ Some (Live m) → (v : List ℕ) × (x ≡ Stored m v)
stored_of Never m e = absurd cc
stored_of (Removed generation) m e = absurd cc
stored_of (Stored k v) m e = let same : k ≡ m = cc in (v, ap (λ (l : LiveMeta). Stored l v) same)

never_is_none : (x : Version) → meta_of x ≡ None → (m : LiveMeta) (v : List ℕ) → x ≢ Stored m v
never_is_none x e m v same = let other : Some (Live m) ≡ None = sym (ap meta_of same) ∙ e in cc

gone_is_none : (x : Version) (generation : ℕ) → meta_of x ≡ Some (Gone generation) → (m : LiveMeta) (v : List ℕ) → x ≢ Stored m v
gone_is_none x generation e m v same = let other : Some (Live m) ≡ Some (Gone generation) = sym (ap meta_of same) ∙ e in cc

-- ---- a set that has another isn't smaller

fewer_step : (p x : Bool) (a b : ℕ) → (p ≡ true → x ≡ true) → a ≤ b → (if p then 1 else 0) + a ≤ (if x then 1 else 0) + b
fewer_step true true a b has l = omega (arith, l)
fewer_step true false a b has l = let e : false ≡ true = has refl in absurd cc
fewer_step false true a b has l = omega (arith, l)
fewer_step false false a b has l = omega (arith, l)

pub fewer : (n : ℕ) (P X : Clouds) → ((c : ℕ) → c < n → P c ≡ true → X c ≡ true) → count_of n P ≤ count_of n X
fewer zero P X has = omega arith
fewer (suc n) P X has = fewer_step (P n) (X n) (count_of n P) (count_of n X) (has n (omega arith)) (fewer n P X (λ c l. has c (omega (arith, l))))

-- ---- the view

module _ (n : ℕ) (name : List ℕ) (F : Contents) (v : Places) (valid : IsName name) (sees : Sees n name F v) (width : HasWidth n v) (S : Entries) (D X : Clouds) (stands : Stands n F S D) (has : HasAll n (fails v) X) where
  abbrev vault : Vault
  vault = record { contents = F; entries = S; damaged = D }

  top_shown : (c : ℕ) (m : Meta) → SeesTop v c m → AreBearable n D X → IsShown n F D X name (S name) (Some m)
  top_shown c m top few = seen_is_shown n F S D X name (Some m) valid stands few (top_outside n name F v stands.wide stands.narrow valid sees width.first X has.each c m top)

  pub file_shown : (m : LiveMeta) → Shows v m → AreBearable n D X → IsShownFile n vault X name m
  file_shown m shows few =
      let seen = top_shown shows.cloud (Live m) shows.top few in
      let stored = stored_of seen.version m seen.meta in
      record {
        bytes = stored.0;
        shown = subst (ReadsAs n F X name (S name)) stored.1 seen.shown;
        valid = subst (IsValid n) stored.1 seen.valid;
        places = subst (PlacesStand n F D name) stored.1 seen.places;
      }

  pub none_shown : Refuses v NoFile → AreBearable n D X → IsShownNone n vault X name
  none_shown (inl none) few =
      let seen = seen_is_shown n F S D X name None valid stands few (none_outside n name F v stands.wide stands.narrow valid sees width.first X has.each none.0.none) in
      record { version = seen.version; shown = seen.shown; no_file = never_is_none seen.version seen.meta }
  none_shown (inr gone) few =
      let seen = top_shown gone.cloud (Gone gone.generation) gone.top few in
      record { version = seen.version; shown = seen.shown; no_file = gone_is_none seen.version gone.generation seen.meta }

  pub refusal_shown : (fault : FetchFault) → Refuses v fault → LookShows n X name (Err fault) vault
  refusal_shown NoFile is = none_shown is
  refusal_shown (Cloud c) is =
      let l : c < n = omega (arith, width.first, is.least.in_width) in
      let many : 3 ≤ count_of n (fails v) = subst (λ (k : ℕ). 3 ≤ count_of k (fails v)) width.first is.many in
      record { in_width = l; one = has.each c l (failing_is v c is.least.failed); three = omega (arith, many, fewer n (fails v) X has.each) }
  refusal_shown (Misplaced c a b) is = no_misplaced n name F v stands.wide stands.narrow valid sees width.first S D stands c a b is.1
  refusal_shown (Conflict generation a b) is = λ few.
      let seen = top_shown a is.1.meta is.1.top few in
      no_conflict_with n name F v stands.wide stands.narrow valid sees width.first seen.version generation a b is.1 seen.meta seen.one_meta
  refusal_shown (Short bads) is = is
  refusal_shown (Unsound a b) is = is
  refusal_shown Memory is = absurd is
