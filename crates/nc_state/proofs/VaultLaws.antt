-- Whole vaults.
use Rattle.std.proofs.Common.{◌≡◌, ◌<◌, ◌≤◌, ◌+◌, ◌==◌, ◌&&◌, ℕ, zero, suc, Bool, true, false, not, if◌then◌else◌, None, is_some, List, refl, sym, ap, subst, inl, inr, arith}
use Rattle.std.specs.Option.{option_map_or}
use Rattle.std.proofs.lemmas.Bool.Decides.{eqb_tells}
use Rattle.nc_meta.specs.declared.meta.Meta.{Meta}
use Rattle.nc_meta.specs.Metas.{generation_of}
use Rattle.nc_cloud.specs.Contents.{Contents}
use Rattle.nc_state.specs.Clouds.{Clouds, count_of, without_cloud}
use Rattle.nc_state.specs.Versions.{meta_of, version_generation}
use Rattle.nc_state.specs.Versions.Version.{Never}
use Rattle.nc_state.specs.Holding.{Holds, HoldsVersion, meta_key}
use Rattle.nc_state.specs.Right.{IsRight, HasChunkAt}
use Rattle.nc_state.specs.Entries.{Entry, HasEntry}
use Rattle.nc_state.specs.Entries.Entry.{Rest, Opened}
use Rattle.nc_name.specs.Names.{IsName}
use Rattle.nc_state.specs.Standing.{Entries, IsHealed, Stands}
use Rattle.nc_state.proofs.Held.{never_of, no_meta_held}
use Rattle.nc_state.specs.Laws.{HealedStands, UnlistedRests}
use Rattle.nc_state.proofs.CloudSets.{some_outside}

-- ---- names

unheld_entry : (n : ℕ) (F : Contents) (D : Clouds) (name : List ℕ) (e : Entry) → 4 ≤ n → count_of n D ≤ 2 → ((c : ℕ) (m : Meta) → c < n → Holds n F name c m → ⊥) → HasEntry n F D name e → e ≡ Rest Never
unheld_entry n F D name (Rest x) wide few none r =
    let there = some_outside n D (omega arith) in
    ap Rest (never_of x (no_meta_held n F name there.0 (meta_of x) (λ m h. none there.0 m there.1 h) (r.held there.0 there.1 there.2)))
unheld_entry n F D name (Opened x y) wide few none o =
    let no_new : meta_of y ≡ None = no_meta_held n F name o.some_new.0 (meta_of y) (λ m h. none o.some_new.0 m o.some_new.1 h) o.some_new.2 in
    let least : version_generation y ≡ 0 = ap (λ m. option_map_or generation_of m 0) no_new in
    absurd (omega (arith, o.between.next))

-- a name of which no cloud holds a meta rests at Never
unheld_rests : (n : ℕ) (F : Contents) (S : Entries) (D : Clouds) (name : List ℕ)
    → IsName name → Stands n F S D → ((c : ℕ) (m : Meta) → c < n → Holds n F name c m → ⊥) → S name ≡ Rest Never
unheld_rests n F S D name is stands none = unheld_entry n F D name (S name) stands.wide stands.few none (stands.entries name is)

-- a cloud that holds a meta of the name lists it
pub unlisted_rests : UnlistedRests
unlisted_rests n F S D names name stands listed is out =
    unheld_rests n F S D name is stands (λ c m l h. out (listed.all c (meta_key name m) l (ap is_some h.stands)))

-- ---- a cloud that is damaged no more

less_step : (n i : ℕ) (D : Clouds) (b here : Bool) → count_of n (without_cloud D i) ≤ count_of n D
    → (if b && here then 1 else 0) + count_of n (without_cloud D i) ≤ (if b then 1 else 0) + count_of n D
less_step n i D true true less = omega arith
less_step n i D true false less = omega arith
less_step n i D false true less = omega arith
less_step n i D false false less = omega arith

fewer : (n i : ℕ) (D : Clouds) → count_of n (without_cloud D i) ≤ count_of n D
fewer zero i D = omega arith
fewer (suc n) i D = less_step n i D (D n) (not (n == i)) (fewer n i D)

-- a cloud outside of the fewer is outside of all, or it is the one
outside_by : (b here : Bool) → (b && not here) ≡ false → here ≡ false → b ≡ false
outside_by true true e other = absurd cc
outside_by true false e other = absurd cc
outside_by false here e other = refl

healed_entry : (n i : ℕ) (F : Contents) (D : Clouds) (name : List ℕ) (e : Entry) → IsHealed n F i name e → HasEntry n F D name e → HasEntry n F (without_cloud D i) name e
healed_entry n i F D name (Rest x) healed r = record {
  none_above = r.none_above;
  one_meta = r.one_meta;
  held = λ c l out.
      elim (eqb_tells c i) [
        | inl here ↦ subst (λ (k : ℕ). HoldsVersion n F name k x) (sym here.1) healed.0
        | inr other ↦ r.held c l (outside_by (D c) (c == i) out other.0)
      ];
  valid = r.valid;
  places = record {
    sound = r.places.sound;
    right = λ c place l out names.
        elim (eqb_tells c i) [
          | inl here ↦ subst (λ (k : ℕ). IsRight n F x k place) (sym here.1) (healed.1 place (subst (λ (k : ℕ). HasChunkAt name x k place) here.1 names))
          | inr other ↦ r.places.right c place l (outside_by (D c) (c == i) out other.0) names
        ];
  };
}
healed_entry n i F D name (Opened x y) healed o = absurd healed

pub healed_stands : HealedStands
healed_stands n i F S D stands healed = record {
  wide = stands.wide;
  narrow = stands.narrow;
  few = omega (arith, fewer n i D, stands.few);
  entries = λ name is. healed_entry n i F D name (S name) (healed name is) (stands.entries name is);
  metas = stands.metas;
  objects = stands.objects;
}
