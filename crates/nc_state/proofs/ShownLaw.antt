-- What is seen is what the entry shows.
use Rattle.std.proofs.Common.{◌≡◌, ◌<◌, ◌≤◌, ◌+◌, ◌≢◌, ℕ, false, Option, None, Some, List, inl, inr, refl, sym, ap, ◌∙◌, subst, arith}
use Rattle.std.specs.Option.{option_map_or}
use Rattle.std.proofs.lemmas.Bool.Decides.{eqb_tells}
use Rattle.nc_meta.specs.declared.meta.Meta.{Meta}
use Rattle.nc_meta.specs.Metas.{generation_of}
use Rattle.nc_cloud.specs.Contents.{Contents}
use Rattle.nc_state.specs.Clouds.{Clouds, any_of}
use Rattle.nc_state.specs.Versions.{Version, meta_of, version_generation}
use Rattle.nc_state.specs.Holding.{Holds, HoldsIfAny, meta_key}
use Rattle.nc_state.specs.Entries.{Entry, HasEntry}
use Rattle.nc_state.specs.Entries.Entry.{Rest, Opened}
use Rattle.nc_state.specs.Showing.{AreBearable, IsSeenTop, IsShown, IsTopOutside, NoneOf, NoneOutside, ReadsAs, together}
use Rattle.nc_state.specs.Laws.{SeenIsShown, UnlistedIsShown}
use Rattle.nc_state.proofs.CloudSets.{any_here, or_false, some_outside, true_not_false}
use Rattle.nc_state.proofs.Held.{never_of, no_meta_held}
use Rattle.nc_state.proofs.Weighs.{not_true, open_settled}

-- a cloud that doesn't fail holds the version's meta: then the highest meta isn't below it
not_below : (n : ℕ) (F : Contents) (X : Clouds) (name : List ℕ) (m : Meta) (x : Version) (o : Option Meta) → meta_of x ≡ o → IsTopOutside n F X name m
    → (c : ℕ) → c < n → X c ≡ false → HoldsIfAny n F name c o → version_generation x ≤ generation_of m
not_below n F X name m x None is top c l out held = let e : version_generation x ≡ 0 = ap (λ o. option_map_or generation_of o 0) is in omega arith
not_below n F X name m x (Some k) is top c l out held =
    let e : version_generation x ≡ generation_of k = ap (λ o. option_map_or generation_of o 0) is in
    let high : generation_of k ≤ generation_of m = top.highest c k l out held in
    omega arith

generation_none : (x : Version) → meta_of x ≡ None → version_generation x ≡ 0
generation_none x is = ap (λ o. option_map_or generation_of o 0) is

-- no cloud holds the meta of a later version
none_later : (n : ℕ) (F : Contents) (name : List ℕ) (y : Version) (o : Option Meta) (g c : ℕ) → meta_of y ≡ o → version_generation y ≡ g + 1 → HoldsIfAny n F name c o
    → ((k : Meta) → generation_of k ≡ g + 1 → Holds n F name c k → ⊥) → ⊥
none_later n F name y None g c is next held none = let e = generation_none y is in absurd (omega (arith, next))
none_later n F name y (Some k) g c is next held none =
    let e : version_generation y ≡ generation_of k = ap (λ o. option_map_or generation_of o 0) is in
    none k (sym e ∙ next) held

none_fails : (n : ℕ) (X : Clouds) (c : ℕ) → NoneOf n X → c < n → X c ≡ false
none_fails n X c none l = not_true (X c) (λ e. true_not_false (any_of n X) (any_here n X c l e) none)

is_old : (m x y : ℕ) → m ≤ y → x ≤ m → y ≡ x + 1 → m ≢ y → m ≡ x
is_old m x y low above next differs = omega arith

module _ (n : ℕ) (F : Contents) (D X : Clouds) (name : List ℕ) (wide : 4 ≤ n) (few : AreBearable n D X) where
  seen_of : (e : Entry) (top : Option Meta) → HasEntry n F D name e → IsSeenTop n F X name top → IsShown n F D X name e top
  seen_of (Rest x) (Some m) r top =
      let out = some_outside n (together D X) (omega arith) in
      let apart = or_false (D out.0) (X out.0) out.2 in
      let low : generation_of m ≤ version_generation x = r.none_above top.cloud m top.in_width top.held in
      let high : version_generation x ≤ generation_of m = not_below n F X name m x (meta_of x) refl top out.0 out.1 apart.1 (r.held out.0 out.1 apart.0) in
      let same : generation_of m ≡ version_generation x = omega arith in
      record { version = x; shown = refl; meta = r.one_meta top.cloud m top.in_width top.held same; valid = r.valid; places = r.places; one_meta = r.one_meta }
  seen_of (Rest x) None r seen =
      let out = some_outside n (together D X) (omega arith) in
      let apart = or_false (D out.0) (X out.0) out.2 in
      let none : meta_of x ≡ None = no_meta_held n F name out.0 (meta_of x) (λ m h. seen.none out.0 m out.1 apart.1 h) (r.held out.0 out.1 apart.0) in
      record { version = x; shown = refl; meta = none; valid = r.valid; places = r.places; one_meta = r.one_meta }
  seen_of (Opened x y) None o seen =
      let out = some_outside n (together D X) (omega arith) in
      let apart = or_false (D out.0) (X out.0) out.2 in
      let none : meta_of x ≡ None = no_meta_held n F name out.0 (meta_of x) (λ m h. seen.none out.0 m out.1 apart.1 h) (o.between.held out.0 out.1 apart.0) in
      record {
        version = x;
        shown = (
          inl refl,
          λ all. absurd (none_later n F name y (meta_of y) (version_generation x) o.some_new.0 refl o.between.next o.some_new.2
              (λ k e h. seen.none o.some_new.0 k o.some_new.1 (none_fails n X o.some_new.0 all o.some_new.1) h)),
        );
        meta = none;
        valid = o.between.valid_old;
        places = o.between.places_old;
        one_meta = o.between.one_old;
      }
  seen_of (Opened x y) (Some m) o top =
      let out = some_outside n (together D X) (omega arith) in
      let apart = or_false (D out.0) (X out.0) out.2 in
      let low : generation_of m ≤ version_generation y = o.between.none_above top.cloud m top.in_width top.held in
      let above : version_generation x ≤ generation_of m = not_below n F X name m x (meta_of x) refl top out.0 out.1 apart.1 (o.between.held out.0 out.1 apart.0) in
      let next : version_generation y ≡ version_generation x + 1 = o.between.next in
      elim (eqb_tells (generation_of m) (version_generation y)) [
        | inl new ↦ record {
          version = y;
          shown = (inr refl, λ all. sym (open_settled n F D name x y o));
          meta = o.between.one_new top.cloud m top.in_width top.held new.1;
          valid = o.between.valid_new;
          places = o.between.places_new;
          one_meta = o.between.one_new;
        }
        | inr old ↦ record {
          version = x;
          shown = (
            inl refl,
            λ all. absurd (none_later n F name y (meta_of y) (version_generation x) o.some_new.0 refl next o.some_new.2
                (λ k e h.
                let high : generation_of k ≤ generation_of m = top.highest o.some_new.0 k o.some_new.1 (none_fails n X o.some_new.0 all o.some_new.1) h in
                let same : generation_of m ≡ version_generation x = is_old (generation_of m) (version_generation x) (version_generation y) low above next old.1 in
                absurd (omega (arith, e, same, high)))),
          );
          meta = o.between.one_old top.cloud m top.in_width top.held (is_old (generation_of m) (version_generation x) (version_generation y) low above next old.1);
          valid = o.between.valid_old;
          places = o.between.places_old;
          one_meta = o.between.one_old;
        }
      ]

pub seen_is_shown : SeenIsShown
seen_is_shown n F S D X name top is stands few seen = seen_of n F D X name stands.wide few (S name) top (stands.entries name is) seen

pub unlisted_is_shown : UnlistedIsShown
unlisted_is_shown n F S D X name is stands few unlisted =
    let none : NoneOutside n F X name = record { none = λ c m l out h. let e : Some _ ≡ None = sym h.stands ∙ unlisted.none c (meta_key name m) l out refl in cc } in
    let shown = seen_is_shown n F S D X name None is stands few none in
    subst (ReadsAs n F X name (S name)) (never_of shown.version shown.meta) shown.shown
