-- What a view in which clouds failed tells of what clouds hold, for any set of clouds outside of which none failed.
use Rattle.std.proofs.Common.{ℕ, ◌≡◌, ◌<◌, ◌≤◌, ◌%◌, false, true, Some, List, inl, inr, sym, ap, ◌∙◌, arith}
use Rattle.std.specs.Option.{option_map_or}
use Rattle.nc_name.specs.Names.{IsName}
use Rattle.nc_meta.specs.declared.meta.Meta.{Meta}
use Rattle.nc_meta.specs.Metas.{generation_of}
use Rattle.nc_cloud.specs.Contents.{Contents}
use Rattle.nc_state.specs.Clouds.{Clouds}
use Rattle.nc_state.specs.Versions.{Version, meta_of}
use Rattle.nc_state.specs.Holding.{Holds, OneMeta}
use Rattle.nc_state.specs.Showing.{IsTopOutside, NoneOutside}
use Rattle.nc_state.specs.Standing.{Entries, Stands}
use Rattle.nc_state.proofs.CloudSets.{true_not_false}
use Rattle.nc_state.proofs.MisplacedLaw.{none_misplaced}
use Rattle.nc_settle.specs.declared.place.Place.TheVariants as place
use Rattle.nc_settle.specs.Views.{Places, place_at, width_of}
use Rattle.nc_settle.specs.Looking.{Sees}
use Rattle.nc_settle.specs.Decisions.{HasSealed, IsConflict, IsLeastMisplaced, SeesNone, SeesTop}
use Rattle.nc_settle.specs.Failing.{fails}
use Rattle.nc_settle.proofs.Failures.{failed_at}
use Rattle.nc_settle.proofs.Seen.{held_seen, misplaced_held, parity_low, seen_held}

module _ (n : ℕ) (name : List ℕ) (F : Contents) (v : Places) (wide : 4 ≤ n) (narrow : n ≤ 10) (valid : IsName name) (sees : Sees n name F v) (width : width_of v ≡ n) where
  module _ (X : Clouds) (among : (c : ℕ) → c < n → fails v c ≡ true → X c ≡ true) where
    seen_outside : (c : ℕ) (m : Meta) → c < n → X c ≡ false → Holds n F name c m → HasSealed v c m
    seen_outside c m l out holds =
        held_seen n name F v wide narrow valid sees c m l holds
        (λ failed. true_not_false (X c) (among c l (failed_at v c (generation_of m % 2) (parity_low (generation_of m)) failed)) out)

    pub top_outside : (c : ℕ) (m : Meta) → SeesTop v c m → IsTopOutside n F X name m
    top_outside c m top =
        let low : c < n = omega (arith, width, top.in_width) in
        record {
          cloud = c;
          in_width = low;
          held = seen_held n name F v wide narrow valid sees c m low top.has;
          highest = λ d o l out holds. top.highest d o (omega (arith, width)) (seen_outside d o l out holds);
        }

    pub none_outside : SeesNone v → NoneOutside n F X name
    none_outside none = record { none = λ c m l out holds. none c m (omega (arith, width)) (seen_outside c m l out holds) }

  -- metas of the generation of a version differ nowhere, where clouds hold no other than its own
  pub no_conflict_with : (x : Version) (generation a b : ℕ) (is : IsConflict v generation a b) → meta_of x ≡ Some is.meta → OneMeta n F name x → ⊥
  no_conflict_with x generation a b is meta one =
      let low : b < n = omega (arith, width, is.in_width) in
      let same = ap (λ o. option_map_or generation_of o 0) meta in
      let other : meta_of x ≡ Some is.other.other = one b is.other.other low (seen_held n name F v wide narrow valid sees b is.other.other low is.other.has) (is.other.same_generation ∙ sym same) in
      let equal : is.other.other ≡ is.meta = cc in
      is.other.differs equal

  -- nothing of elsewhere stands in contents that stand
  module _ (S : Entries) (D : Clouds) (stands : Stands n F S D) where
    not_here : (c slot a b : ℕ) → c < n → slot < 2 → place_at v c slot ≡ place.Misplaced a b → ⊥
    not_here c slot a b l low seen =
        let at = misplaced_held n name F v wide narrow valid sees c slot a b l low seen in
        let other = at.is_of_elsewhere in
        let here = none_misplaced n F S D name c slot a b at.bytes other.key other.payload valid stands l at.stands other.is_sealed in
        elim other.elsewhere [
          | inl differs ↦ differs here.0
          | inr differs ↦ differs here.1
        ]

    pub no_misplaced : (c a b : ℕ) → IsLeastMisplaced v c a b → ⊥
    no_misplaced c a b is =
        let low : c < n = omega (arith, width, is.in_width) in
        elim is.from [
          | inl first ↦ not_here c 0 a b low (omega arith) first
          | inr second ↦ not_here c 1 a b low (omega arith) second.0
        ]
