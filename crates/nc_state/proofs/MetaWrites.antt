-- Rounds that write one meta of a name.
use Rattle.std.proofs.Common.{◌≡◌, ◌≢◌, ◌⊎◌, ◌<◌, ◌≤◌, ◌+◌, ◌%◌, ℕ, Option, Some, List, IfSome, sym, ap, ◌∙◌, subst, inl, inr, arith}
use Rattle.std.specs.Option.{option_map_or}
use Rattle.nc_name.specs.declared.key.Key.{Key}
use Rattle.nc_name.specs.declared.key.Key.TheVariants as key
use Rattle.nc_name.specs.Keys.{name_of}
use Rattle.nc_name.specs.Names.{IsName}
use Rattle.nc_frame.specs.Frames.{Whole}
use Rattle.nc_meta.specs.declared.meta.Meta.{Meta}
use Rattle.nc_meta.specs.Metas.{IsMeta, generation_of}
use Rattle.nc_cloud.specs.Contents.{Contents}
use Rattle.nc_state.specs.Clouds.{Clouds}
use Rattle.nc_state.specs.Versions.{Version, IsValid, meta_of, version_generation}
use Rattle.nc_state.specs.Holding.{HeldOutside, Holds, meta_key, meta_object}
use Rattle.nc_state.specs.Right.{HasChunkAt, PlacesStand}
use Rattle.nc_state.specs.Entries.{Between, Rests}
use Rattle.nc_state.specs.Standing.{MetasSealed, WholeOrTorn}
use Rattle.nc_state.specs.Rounds.{IsImage, Touching, WritesMeta}
use Rattle.nc_state.proofs.Wholes.{image_either, image_same, image_whole}
use Rattle.nc_state.proofs.Held.{meta_valid, object_whole, same_object}
use Rattle.nc_state.proofs.Keeping.{holds_same, places_kept}
use Rattle.nc_state.proofs.RestingLaw.{no_chunk}
use Rattle.nc_state.proofs.Rounds.{IsOfName}

-- the generation, where the meta is known
pub generation_is : (x : Version) (k : Meta) → meta_of x ≡ Some k → version_generation x ≡ generation_of k
generation_is x k is = ap (λ o. option_map_or generation_of o 0) is

-- the meta of a valid version, where it is known
pub fits_of : (n : ℕ) (x : Version) (k : Meta) → IsValid n x → meta_of x ≡ Some k → IsMeta n k
fits_of n x k valid is = subst (λ (o : Option Meta). IfSome o (IsMeta n)) is (meta_valid n x valid)

module _ (n : ℕ) (wide : 4 ≤ n) (narrow : n ≤ 10) (name : List ℕ) (valid_name : IsName name) (m : Meta) (fits : IsMeta n m) (F G : Contents)
    (touches : Touching) (image : IsImage n touches F G) (write : (c : ℕ) (place : Key) (new : Option (List ℕ)) → touches c place new → WritesMeta n name m c place new) where
  pub writes_of_name : IsOfName touches name
  writes_of_name c place new touch = ap name_of (write c place new touch).at

  -- each meta of the name was held before, or is the one that was written
  pub held_or_written : (c : ℕ) (k : Meta) → c < n → Holds n G name c k → Holds n F name c k ⊎ (k ≡ m)
  held_or_written c k l h =
      elim (image_whole image c (meta_key name k) (meta_object n name c k) l h.stands (object_whole n name c k wide narrow valid_name l h.is_meta)) [
        | inl was ↦ inl (record { is_meta = h.is_meta; stands = was })
        | inr touch ↦
            let w = (write c (meta_key name k) _ touch).writes in
            let e : meta_object n name c k ≡ meta_object n name c m = cc in
            inr (same_object n name c k m wide narrow valid_name l h.is_meta fits e)
      ]

  -- a meta of the other slot stays
  pub other_slot_stays : (D : Clouds) (x : Version) → ((k : Meta) → meta_of x ≡ Some k → generation_of k % 2 ≢ generation_of m % 2) → HeldOutside n F D name x → HeldOutside n G D name x
  other_slot_stays D x other held c l out =
      holds_same n F G name c (meta_of x)
      (λ k is. image_same image c (meta_key name k) l (λ new touch.
      let at = (write c (meta_key name k) new touch).at in
      other k is cc)) (held c l out)

  chunk_stays : (x : Version) (c : ℕ) (place : Key) → c < n → HasChunkAt name x c place → G c place ≡ F c place
  chunk_stays x c place l names = image_same image c place l (λ new touch. no_chunk name x c place name _ (write c place new touch).at names)

  pub places_stay : (D : Clouds) (x : Version) → PlacesStand n F D name x → PlacesStand n G D name x
  places_stay D x p =
      places_kept (λ c e. e) (λ c place bytes l names is whole. sym (chunk_stays x c place l names) ∙ is) (λ c place l out names. chunk_stays x c place l names) p

  written_meta : (c slot : ℕ) (other bytes : List ℕ) → WritesMeta n name m c (key.Meta other slot) (Some bytes)
      → (k : Meta) × IsMeta n k × (generation_of k % 2 ≡ slot) × (bytes ≡ meta_object n other c k)
  written_meta c slot other bytes w =
      let at = w.at in
      let writes = w.writes in
      let e : other ≡ name = cc in
      let parity : generation_of m % 2 ≡ slot = cc in
      let here : bytes ≡ meta_object n name c m = cc in
      (m, fits, parity, here ∙ ap (λ (o : List ℕ). meta_object n o c m) (sym e))

  pub metas_stay_sealed : MetasSealed n F → MetasSealed n G
  metas_stay_sealed metas c slot other bytes l is whole =
      elim (image_whole image c (key.Meta other slot) bytes l is whole) [
        | inl was ↦ metas c slot other bytes l was whole
        | inr touch ↦ written_meta c slot other bytes (write c (key.Meta other slot) (Some bytes) touch)
      ]

  pub objects_stay : WholeOrTorn n F → WholeOrTorn n G
  objects_stay =
      image_either image (λ c place bytes l touch.
      let w = (write c place (Some bytes) touch).writes in
      let e : meta_object n name c m ≡ bytes = cc in
      subst Whole e (object_whole n name c m wide narrow valid_name l fits))

  -- where the meta is that of the next version, those of the version before stay
  pub next_slot_stays : (D : Clouds) (x y : Version) → meta_of y ≡ Some m → version_generation y ≡ version_generation x + 1 → HeldOutside n F D name x → HeldOutside n G D name x
  next_slot_stays D x y is next =
      let top = generation_is y m is in
      other_slot_stays D x (λ k of_x. let low : version_generation x ≡ generation_of k = generation_is x k of_x in omega (arith, top, next))

  -- the metas of the next version, from rest
  pub between_from_rest : (D : Clouds) (x y : Version) → meta_of y ≡ Some m → version_generation y ≡ version_generation x + 1 → IsValid n y → PlacesStand n F D name y
      → Rests n F D name x → Between n G D name x y
  between_from_rest D x y is next valid places r =
      let top = generation_is y m is in
      record {
        next = next;
        none_above = λ c k l h.
            elim (held_or_written c k l h) [
              | inl was ↦ let low : generation_of k ≤ version_generation x = r.none_above c k l was in omega (arith, next)
              | inr e ↦ let same : generation_of k ≡ generation_of m = ap generation_of e in omega (arith, top)
            ];
        one_new = λ c k l h at.
            elim (held_or_written c k l h) [
              | inl was ↦ let low : generation_of k ≤ version_generation x = r.none_above c k l was in absurd (omega (arith, next, at))
              | inr e ↦ is ∙ ap Some (sym e)
            ];
        one_old = λ c k l h at.
            elim (held_or_written c k l h) [
              | inl was ↦ r.one_meta c k l was at
              | inr e ↦ let same : generation_of k ≡ generation_of m = ap generation_of e in absurd (omega (arith, top, next, at))
            ];
        held = next_slot_stays D x y is next r.held;
        valid_old = r.valid;
        valid_new = valid;
        places_old = places_stay D x r.places;
        places_new = places_stay D y places;
      }

  -- the meta of the version at rest
  pub rests_on : (D : Clouds) (x : Version) → meta_of x ≡ Some m → HeldOutside n G D name x → Rests n F D name x → Rests n G D name x
  rests_on D x is held r =
      let top = generation_is x m is in
      record {
        none_above = λ c k l h.
            elim (held_or_written c k l h) [
              | inl was ↦ r.none_above c k l was
              | inr e ↦ let same : generation_of k ≡ generation_of m = ap generation_of e in omega (arith, top)
            ];
        one_meta = λ c k l h at.
            elim (held_or_written c k l h) [
              | inl was ↦ r.one_meta c k l was at
              | inr e ↦ is ∙ ap Some (sym e)
            ];
        held = held;
        valid = r.valid;
        places = places_stay D x r.places;
      }

  -- the metas of the next version, where the step to it has begun
  pub between_on : (D : Clouds) (x y : Version) → meta_of y ≡ Some m → Between n F D name x y → Between n G D name x y
  between_on D x y is b =
      let top = generation_is y m is in
      record {
        next = b.next;
        none_above = λ c k l h.
            elim (held_or_written c k l h) [
              | inl was ↦ b.none_above c k l was
              | inr e ↦ let same : generation_of k ≡ generation_of m = ap generation_of e in omega (arith, top)
            ];
        one_new = λ c k l h at.
            elim (held_or_written c k l h) [
              | inl was ↦ b.one_new c k l was at
              | inr e ↦ is ∙ ap Some (sym e)
            ];
        one_old = λ c k l h at.
            elim (held_or_written c k l h) [
              | inl was ↦ b.one_old c k l was at
              | inr e ↦ let same : generation_of k ≡ generation_of m = ap generation_of e in absurd (omega (arith, top, b.next, at))
            ];
        held = next_slot_stays D x y is b.next b.held;
        valid_old = b.valid_old;
        valid_new = b.valid_new;
        places_old = places_stay D x b.places_old;
        places_new = places_stay D y b.places_new;
      }
