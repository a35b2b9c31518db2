-- The highest metadata that clouds hold, where all of them answer.
use Rattle.std.proofs.Common.{◌≡◌, ◌≤◌, ◌+◌, ◌||◌, ℕ, zero, suc, Bool, false, true, if◌then◌else◌, Option, None, Some, List, refl, sym, ap, ◌∙◌, subst, arith}
use Rattle.nc_meta.specs.declared.meta.Meta.{Meta}
use Rattle.nc_meta.specs.Metas.{generation_of}
use Rattle.nc_cloud.specs.Contents.{Contents}
use Rattle.nc_state.specs.Clouds.{Clouds, any_of, count_of, no_cloud}
use Rattle.nc_state.specs.Versions.{Version, IsValid, meta_of, version_generation}
use Rattle.nc_state.specs.Holding.{IsTop, IsTopOrNone, OneMeta}
use Rattle.nc_state.specs.Right.{PlacesStand}
use Rattle.nc_state.specs.Entries.{Entry}
use Rattle.nc_state.specs.Entries.Entry.{Rest, Opened}
use Rattle.nc_state.specs.Weighing.{settled}
use Rattle.nc_state.specs.Showing.{AreBearable, IsSeenTop, ReadsAs, together}
use Rattle.nc_state.specs.Laws.{NoneDisputed, TopIsShown}
use Rattle.nc_state.proofs.MetaWrites.{generation_is}
use Rattle.nc_state.proofs.ShownLaw.{seen_is_shown}

or_none : (b : Bool) → (b || false) ≡ b
or_none true = refl
or_none false = refl

some_same : (x y : Meta) → Some x ≡ Some y → x ≡ y
some_same x y e = cc

none_of : (n : ℕ) → any_of n no_cloud ≡ false
none_of zero = refl
none_of (suc n) = none_of n

together_none : (D : Clouds) (n : ℕ) → count_of n (together D no_cloud) ≡ count_of n D
together_none D zero = refl
together_none D (suc n) =
    ap (λ (k : ℕ). (if D n || false then 1 else 0) + k) (together_none D n) ∙ ap (λ (b : Bool). (if b then 1 else 0) + count_of n D) (or_none (D n))

seen_top : (n : ℕ) (F : Contents) (name : List ℕ) (top : Option Meta) → IsTopOrNone n F name top → IsSeenTop n F no_cloud name top
seen_top n F name None none = record { none = λ c m l out h. none.none c m l h }
seen_top n F name (Some m) top = record { cloud = top.cloud; in_width = top.in_width; held = top.held; highest = λ c k l out h. top.highest c k l h }

reads_settled : (n : ℕ) (F : Contents) (name : List ℕ) (e : Entry) (z : Version) → ReadsAs n F no_cloud name e z → z ≡ settled n F name e
reads_settled n F name (Rest x) z is = is
reads_settled n F name (Opened x y) z is = is.1 (none_of n)

pub top_is_shown : TopIsShown
top_is_shown n F S D name top is stands on =
    let few : AreBearable n D no_cloud = subst (λ (k : ℕ). k ≤ 2) (sym (together_none D n)) stands.few in
    let shown = seen_is_shown n F S D no_cloud name top is stands few (seen_top n F name top on) in
    let same : shown.version ≡ settled n F name (S name) = reads_settled n F name (S name) shown.version shown.shown in
    record {
      meta = ap meta_of (sym same) ∙ shown.meta;
      valid = subst (IsValid n) same shown.valid;
      places = subst (PlacesStand n F D name) same shown.places;
      one_meta = subst (OneMeta n F name) same shown.one_meta;
    }

pub none_disputed : NoneDisputed
none_disputed n F S D name generation a b is stands d =
    let top : IsTop n F name d.meta = record {
      cloud = a;
      in_width = d.a_in_width;
      held = d.a_holds;
      highest = λ c k l h. let low : generation_of k ≤ generation = d.highest c k l h in omega (arith, low, d.is_generation);
    } in
    let shown = top_is_shown n F S D name (Some d.meta) is stands top in
    let same : generation_of d.other ≡ version_generation (settled n F name (S name)) = d.same_generation ∙ sym d.is_generation ∙ sym (generation_is (settled n F name (S name)) d.meta shown.meta) in
    let other : Some d.meta ≡ Some d.other = sym shown.meta ∙ shown.one_meta b d.other d.b_in_width d.b_holds same in
    d.differ (some_same d.other d.meta (sym other))
