-- Rounds of metas keep what stands.
use Rattle.std.proofs.Common.{◌≡◌, ◌≤◌, ◌<◌, ◌+◌, ℕ, Option, Some, List, refl, sym, ap, ◌∙◌, subst}
use Rattle.nc_name.specs.Names.{IsName}
use Rattle.nc_name.specs.declared.key.Key.{Key}
use Rattle.nc_meta.specs.declared.meta.Meta.{Meta}
use Rattle.nc_meta.specs.Metas.{IsMeta}
use Rattle.nc_cloud.specs.Contents.{Contents}
use Rattle.nc_state.specs.Clouds.{Clouds, no_cloud}
use Rattle.nc_state.specs.Versions.{IsValid, Version, meta_of, version_generation}
use Rattle.nc_state.specs.Right.{HasChunkAt, PlacesStand}
use Rattle.nc_state.specs.Standing.{Entries, Stands, with_entry}
use Rattle.nc_state.proofs.RestingLaw.{no_chunk}
use Rattle.nc_state.specs.Holding.{AllHold, Holds, HoldsIfAny, meta_key}
use Rattle.nc_state.specs.Entries.{Entry, HasEntry, Rests}
use Rattle.nc_state.specs.Entries.Entry.{Rest, Opened}
use Rattle.nc_state.specs.Weighing.{after, settled, weigh}
use Rattle.nc_state.specs.Rounds.{IsImage, WritesMeta, WritesMissing}
use Rattle.nc_state.specs.ChunkLaws.{MetasKeepChunks}
use Rattle.nc_state.proofs.Wholes.{image_same}
use Rattle.nc_state.proofs.Keeping.{holds_same, places_kept}
use Rattle.nc_state.proofs.Weighs.{between_after, between_weighs, open_settled}
use Rattle.nc_state.proofs.Rounds.{entries_after}
use Rattle.nc_state.proofs.MetaWrites.{between_from_rest, between_on, fits_of, metas_stay_sealed, next_slot_stays, objects_stay, rests_on, writes_of_name}

itself : (n : ℕ) (name : List ℕ) (m : Meta) (c : ℕ) (place : Key) (new : Option (List ℕ)) → WritesMeta n name m c place new → WritesMeta n name m c place new
itself n name m c place new w = w

-- writes of the metas of the next version, once its chunks stand, keep what stands; the entry is the one after a command that
-- would make this version, and clouds that hold the old meta still do
pub meta_round_keeps : (n : ℕ) (F G : Contents) (S : Entries) (D : Clouds) (name : List ℕ) (x y : Version) (m : Meta)
    → IsName name → Stands n F S D → S name ≡ Rest x
    → meta_of y ≡ Some m → version_generation y ≡ version_generation x + 1 → IsValid n y → PlacesStand n F D name y
    → IsImage n (WritesMeta n name m) F G
    → Stands n G (with_entry S name (after n F G D name (S name) (Some y))) D × (AllHold n F name x → AllHold n G name x)
meta_round_keeps n F G S D name x y m is stands rests of_y next valid places image =
    let fits = fits_of n y m valid of_y in
    let before : Rests n F D name x = subst (HasEntry n F D name) rests (stands.entries name is) in
    let between = between_from_rest n stands.wide stands.narrow name is m fits F G (WritesMeta n name m) image (itself n name m) D x y of_y next valid places before in (
      record {
        wide = stands.wide;
        narrow = stands.narrow;
        few = stands.few;
        entries =
            entries_after stands image (writes_of_name n stands.wide stands.narrow name is m fits F G (WritesMeta n name m) image (itself n name m))
            (after n F G D name (S name) (Some y))
            (subst (λ (e : Entry). HasEntry n G D name (after n F G D name e (Some y))) (sym rests) (between_after n F G D name x y between));
        metas = metas_stay_sealed n stands.wide stands.narrow name is m fits F G (WritesMeta n name m) image (itself n name m) stands.metas;
        objects = objects_stay n stands.wide stands.narrow name is m fits F G (WritesMeta n name m) image (itself n name m) stands.objects;
      },
      λ held c l. next_slot_stays n stands.wide stands.narrow name is m fits F G (WritesMeta n name m) image (itself n name m) no_cloud x y of_y next (λ k k_in out. held k k_in) c l refl,
    )

-- ---- settling

missing : (n : ℕ) (F : Contents) (name : List ℕ) (m : Meta) (c : ℕ) (place : Key) (new : Option (List ℕ)) → WritesMissing n F name m c place new → WritesMeta n name m c place new
missing n F name m c place new w = w.write

-- the meta of what is settled can be stored
settled_fits : (n : ℕ) (F : Contents) (D : Clouds) (name : List ℕ) (m : Meta) (e : Entry) → HasEntry n F D name e → meta_of (settled n F name e) ≡ Some m → IsMeta n m
settled_fits n F D name m (Rest x) r is = fits_of n x m r.valid is
settled_fits n F D name m (Opened x y) o is = fits_of n y m o.between.valid_new (ap meta_of (sym (open_settled n F D name x y o)) ∙ is)

module _ (n : ℕ) (wide : 4 ≤ n) (narrow : n ≤ 10) (name : List ℕ) (valid_name : IsName name) (m : Meta) (fits : IsMeta n m) (F G : Contents) (D : Clouds)
    (image : IsImage n (WritesMissing n F name m) F G) where
  -- a cloud that holds it isn't touched
  settled_entry : (e : Entry) → meta_of (settled n F name e) ≡ Some m → HasEntry n F D name e → HasEntry n G D name (weigh n G D name e)
  settled_entry (Rest x) is r =
      rests_on n wide narrow name valid_name m fits F G (WritesMissing n F name m) image (missing n F name m) D x is
      (λ c l out.
      let here : Holds n F name c m = subst (HoldsIfAny n F name c) is (r.held c l out) in
      holds_same n F G name c (meta_of x) (λ k of_x. image_same image c (meta_key name k) l (λ new touch. touch.lacks here)) (r.held c l out)) r
  settled_entry (Opened x y) is o =
      between_weighs n G D name x y
      (between_on n wide narrow name valid_name m fits F G (WritesMissing n F name m) image (missing n F name m) D x y (ap meta_of (sym (open_settled n F D name x y o)) ∙ is) o.between)

-- writes of the settled meta where it is missing keep what stands, and the entry is weighed anew
pub settle_round_keeps : (n : ℕ) (F G : Contents) (S : Entries) (D : Clouds) (name : List ℕ) (m : Meta)
    → IsName name → Stands n F S D → meta_of (settled n F name (S name)) ≡ Some m → IsImage n (WritesMissing n F name m) F G
    → Stands n G (with_entry S name (weigh n G D name (S name))) D
settle_round_keeps n F G S D name m is stands of_settled image =
    let here = stands.entries name is in
    let fits = settled_fits n F D name m (S name) here of_settled in
    record {
      wide = stands.wide;
      narrow = stands.narrow;
      few = stands.few;
      entries =
          entries_after stands image (writes_of_name n stands.wide stands.narrow name is m fits F G (WritesMissing n F name m) image (missing n F name m))
          (weigh n G D name (S name)) (settled_entry n stands.wide stands.narrow name is m fits F G D image (S name) of_settled here);
      metas = metas_stay_sealed n stands.wide stands.narrow name is m fits F G (WritesMissing n F name m) image (missing n F name m) stands.metas;
      objects = objects_stay n stands.wide stands.narrow name is m fits F G (WritesMissing n F name m) image (missing n F name m) stands.objects;
    }

-- ---- chunks

pub metas_keep_chunks : MetasKeepChunks
metas_keep_chunks n F G E name other m y image stand =
    let same : (c : ℕ) (place : Key) → c < n → HasChunkAt other y c place → G c place ≡ F c place =
    λ c place l has. image_same image c place l (λ new touch. no_chunk other y c place name _ touch.at has) in
    places_kept (λ c e. e) (λ c place bytes l has is whole. sym (same c place l has) ∙ is) (λ c place l out has. same c place l has) stand
