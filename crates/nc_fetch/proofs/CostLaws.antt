-- How many chunks the reading of a part asks for, on clouds that stand, of which none is damaged or failed.
use Rattle.std.proofs.Common.{◌≡◌, ◌<◌, ◌≤◌, ◌+◌, ◌-◌, ℕ, zero, suc, Bool, true, false, if◌then◌else◌, ◌||◌, Option, None, Some, List, length, refl, sym, ap, ◌∙◌, subst, arith}
use Rattle.nc_cloud.specs.Rounds.{some_row}
use Rattle.nc_cloud.specs.declared.fleet.Fleet.{Ghosts as FleetGhosts}
use Rattle.nc_meta.specs.declared.meta.Live.{Live}
use Rattle.nc_state.specs.Clouds.{Clouds, any_of, count_of, no_cloud}
use Rattle.nc_state.specs.Showing.{NoneOf, together}
use Rattle.nc_state.specs.Standing.{Entries, Stands}
use Rattle.nc_state.proofs.CloudSets.{any_here}
use Rattle.nc_download.specs.declared.short.Why.{Why}
use Rattle.nc_download.specs.declared.fault.FetchFault.{FetchFault}
use Rattle.nc_download.specs.declared.fault.FetchFault.TheVariants.{NoFile, Cloud, Short, Conflict, Misplaced, Unsound, Memory}
use Rattle.nc_download.specs.Finding.{HasRisen}
use Rattle.nc_download.specs.FindingOnVaults.{HasAll}
use Rattle.nc_fetch.specs.Costs.{ReadsFirst, ReadsNone}
use Rattle.nc_fetch.specs.Parts.{AreMarkedFailed}
use Rattle.nc_fetch.specs.PartsOnVaults.{StandsBy}
use Rattle.nc_fetch.specs.Trying.{Outcome, TriedBetween}
use Rattle.nc_fetch.specs.Whys.{free, free_at, why_at}
use Rattle.nc_fetch.proofs.PartLaws.{bad_cloud, bads_counted, counted, fine_before}

-- nothing was read
pub none_read : (before now : ℕ → ℕ) (fault : FetchFault) → ((c : ℕ) → now c ≡ before c) → ReadsNone before now fault
none_read before now NoFile same = same
none_read before now (Cloud c) same = same
none_read before now (Short list) same = tt
none_read before now (Conflict g a b) same = same
none_read before now (Misplaced c a b) same = same
none_read before now (Unsound a b) same = same
none_read before now Memory same = tt

none_step : (b rest : Bool) (k : ℕ) → (b || rest) ≡ false → (rest ≡ false → k ≡ 0) → (if b then 1 else 0) + k ≡ 0
none_step true rest k is fewer = absurd cc
none_step false rest k is fewer = let rest_is : k ≡ 0 = fewer is in omega (arith, rest_is)

-- a set without clouds has none
pub none_counts : (n : ℕ) (X : Clouds) → NoneOf n X → count_of n X ≡ 0
none_counts zero X none = refl
none_counts (suc n) X none = none_step (X n) (any_of n X) (count_of n X) none (none_counts n X)

no_cloud_counts : (n : ℕ) → count_of n no_cloud ≡ 0
no_cloud_counts zero = refl
no_cloud_counts (suc n) = let rest : count_of n no_cloud ≡ 0 = no_cloud_counts n in omega (arith, rest)

module _ {A : Type 0} (F : FleetGhosts A) (name : List ℕ) (m : Live) (old new : A) (P X : Clouds) (told : F.tells) (has : HasAll (F.clouds old) P X) (risen : HasRisen F old new X)
    (S : Entries) (D : Clouds) (stands : Stands (F.clouds old) (F.held old) S D) (bytes : List ℕ) (by : StandsBy (F.clouds old) (record { contents = F.held old; entries = S; damaged = D }) name m bytes)
    (before whys : List (Option Why)) (marked : AreMarkedFailed (F.clouds old) P before) (up_to : ℕ) (within : up_to ≤ F.clouds old) (tried : TriedBetween F name m old new 0 up_to before whys)
    (none : NoneOf (F.clouds old) (together D X)) where
  -- no cloud that was tried is bad
  fine : (c : ℕ) → c < up_to → (w : Option Why) → why_at whys c ≡ w → w ≡ None
  fine c l None is = refl
  fine c l (Some why) is =
      let low : c < F.clouds old = omega (arith, l, within) in
      let one : together D X c ≡ true = bad_cloud F name m old new P X told has risen S D bytes by before whys marked up_to c why low l tried is in
      let some : any_of (F.clouds old) (together D X) ≡ true = any_here (F.clouds old) (together D X) c low one in
      let no : true ≡ false = sym some ∙ none in
      absurd cc

  not_bad : (c : ℕ) (why : Why) → c < up_to → why_at whys c ≡ Some why → no_cloud c ≡ true
  not_bad c why l is = let no : Some why ≡ None = fine c l (Some why) is in absurd cc

  all_free : length (free whys 0 up_to) ≡ up_to
  all_free =
      let whole : up_to - 0 ≡ up_to = omega arith in
      let free_is_whole : length (free whys 0 up_to) ≡ length (some_row (free_at whys) 0 up_to) = ap (λ k. length (some_row (free_at whys) 0 k)) whole in
      omega (arith, free_is_whole, counted whys up_to, bads_counted whys no_cloud up_to not_bad, no_cloud_counts up_to)

  reads_both : (c : ℕ) → c < up_to → Outcome F name m old new c None
  reads_both c l =
      let low : c < F.clouds old = omega (arith, l, within) in
      let now : why_at whys c ≡ None = fine c l (why_at whys c) refl in
      let was : why_at before c ≡ None = fine_before F name m old new before whys up_to c low tried now (why_at before c) refl in
      subst (Outcome F name m old new c) now (tried.tried c low (record { from = omega arith; below = l; fine = was }))

  pub reads_first : length (free whys 0 up_to) + 2 ≡ F.clouds old → ReadsFirst (F.clouds old) (F.chunk_gets old) (F.chunk_gets new)
  reads_first enough = record {
    first = λ c l. (reads_both c (omega (arith, l, enough, all_free))).1;
    others = λ c low past. tried.unread c low (λ is. let below : c < up_to = is.below in omega (arith, below, past, enough, all_free));
  }
