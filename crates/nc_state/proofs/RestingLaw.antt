-- Rounds that leave a name at rest.
use Rattle.std.proofs.Common.{◌≡◌, ◌≢◌, ◌<◌, ◌≤◌, ◌%◌, ℕ, false, Option, Some, List, IfSome, sym, ap, ◌∙◌, subst, inl, inr}
use Rattle.nc_name.specs.declared.key.Key.{Key}
use Rattle.nc_name.specs.declared.key.Key.TheVariants as key
use Rattle.nc_name.specs.Keys.{name_of}
use Rattle.nc_name.specs.Names.{IsName}
use Rattle.nc_frame.specs.Frames.{Whole}
use Rattle.nc_frame.proofs.Shapes.{whole_of}
use Rattle.nc_meta.specs.declared.meta.Meta.{Meta}
use Rattle.nc_meta.specs.Metas.{generation_of}
use Rattle.nc_cloud.specs.Contents.{Contents}
use Rattle.nc_state.specs.Clouds.{Clouds}
use Rattle.nc_state.specs.Versions.{Version, meta_of}
use Rattle.nc_state.specs.Holding.{AllHold, HoldsVersion, meta_key}
use Rattle.nc_state.specs.Standing.{Entries, Stands}
use Rattle.nc_state.specs.Entries.Entry.{Rest}
use Rattle.nc_state.specs.Right.{IsChunk, HasChunkAt, PlacesStand}
use Rattle.nc_state.specs.Entries.{HasEntry, Rests}
use Rattle.nc_state.specs.Rounds.{IsChunkOf, IsImage, LeavesAtRest}
use Rattle.nc_state.specs.Rounds.LeavesAtRest.{free, right, erased}
use Rattle.nc_state.specs.ChunkLaws.{ChunksStay}
use Rattle.nc_state.proofs.CloudSets.{true_not_false}
use Rattle.nc_state.proofs.Wholes.{image_either, image_same, image_whole}
use Rattle.nc_state.proofs.Held.{object_whole}
use Rattle.nc_state.proofs.Keeping.{NoNewMetas, holds_same, names_name, rests_kept}
use Rattle.nc_state.proofs.Rounds.{IsOfName, entries_stay}

chunk_name : (name : List ℕ) (place : Key) → IsChunkOf name place → name_of place ≡ name
chunk_name name (key.Chunk other slot row) is = is
chunk_name name (key.Meta other slot) is = absurd is

-- no version has a chunk under the key of a meta
pub no_chunk : (name : List ℕ) (x : Version) (c : ℕ) (place : Key) (other : List ℕ) (slot : ℕ) → place ≡ key.Meta other slot → HasChunkAt name x c place → ⊥
no_chunk name x c place other slot e names = subst (λ (p : Key). HasChunkAt name x c p) e names

module _ (n : ℕ) (F G : Contents) (D : Clouds) (name : List ℕ) (x : Version) (image : IsImage n (LeavesAtRest n D name x) F G) where
  of_name : IsOfName (LeavesAtRest n D name x) name
  of_name c place new (free f) = chunk_name name place f.at
  of_name c place new (right r) = names_name name x c place r.at
  of_name c place new (erased e) = ap name_of e.at

  -- no meta is written
  no_meta : (c : ℕ) (other : List ℕ) (slot : ℕ) (bytes : List ℕ) → LeavesAtRest n D name x c (key.Meta other slot) (Some bytes) → ⊥
  no_meta c other slot bytes (free f) = f.at
  no_meta c other slot bytes (right r) = r.at
  no_meta c other slot bytes (erased e) = let wrong = e.erases in cc

  -- its own isn't erased
  not_its : (c : ℕ) (k : Meta) (new : Option (List ℕ)) → meta_of x ≡ Some k → LeavesAtRest n D name x c (meta_key name k) new → ⊥
  not_its c k new is (free f) = f.at
  not_its c k new is (right r) = r.at
  not_its c k new is (erased e) =
      let differs : e.slot ≢ generation_of k % 2 = subst (λ (m : Option Meta). IfSome m (λ m. e.slot ≢ generation_of m % 2)) is e.not_its in
      let at = e.at in
      differs cc

  meta_was : (c : ℕ) (other : List ℕ) (slot : ℕ) (bytes : List ℕ) → c < n → G c (key.Meta other slot) ≡ Some bytes → Whole bytes → F c (key.Meta other slot) ≡ Some bytes
  meta_was c other slot bytes l is whole =
      elim (image_whole image c (key.Meta other slot) bytes l is whole) [
        | inl was ↦ was
        | inr touch ↦ absurd (no_meta c other slot bytes touch)
      ]

  no_new : 4 ≤ n → n ≤ 10 → IsName name → NoNewMetas n F G name
  no_new wide narrow is c m l h = record {
    is_meta = h.is_meta;
    stands = meta_was c name (generation_of m % 2) _ l h.stands (object_whole n name c m wide narrow is l h.is_meta);
  }

  still_held : (c : ℕ) → c < n → HoldsVersion n F name c x → HoldsVersion n G name c x
  still_held c l held = holds_same n F G name c (meta_of x) (λ k e. image_same image c (meta_key name k) l (λ new touch. not_its c k new e touch)) held

  still_sound : (c : ℕ) (place : Key) (bytes : List ℕ) → HasChunkAt name x c place → LeavesAtRest n D name x c place (Some bytes) → IsChunk n x c place bytes
  still_sound c place bytes names (free f) = absurd (f.free names)
  still_sound c place bytes names (right r) = let e : r.bytes ≡ bytes = (let w = r.writes in cc) in subst (IsChunk n x c place) e r.is_chunk
  still_sound c place bytes names (erased e) = absurd (no_chunk name x c place name e.slot e.at names)

  not_touched : (c : ℕ) (place : Key) (new : Option (List ℕ)) → D c ≡ false → HasChunkAt name x c place → LeavesAtRest n D name x c place new → ⊥
  not_touched c place new out names (free f) = f.free names
  not_touched c place new out names (right r) = true_not_false (D c) r.damaged out
  not_touched c place new out names (erased e) = no_chunk name x c place name e.slot e.at names

  pub places_still : PlacesStand n F D name x → PlacesStand n G D name x
  places_still p = record {
    sound = λ c place bytes l names is whole.
        elim (image_whole image c place bytes l is whole) [
          | inl was ↦ p.sound c place bytes l names was whole
          | inr touch ↦ still_sound c place bytes names touch
        ];
    right = λ c place l out names.
        let r = p.right c place l out names in
        record { bytes = r.bytes; stands = image_same image c place l (λ new touch. not_touched c place new out names touch) ∙ r.stands; is_chunk = r.is_chunk };
  }

  still_rests : 4 ≤ n → n ≤ 10 → IsName name → Rests n F D name x → Rests n G D name x
  still_rests wide narrow is r = rests_kept (no_new wide narrow is) (λ c l out. still_held c l (r.held c l out)) (places_still r.places) r

  writes_whole : (c : ℕ) (place : Key) (bytes : List ℕ) → c < n → LeavesAtRest n D name x c place (Some bytes) → Whole bytes
  writes_whole c place bytes l (free f) = f.writes
  writes_whole c place bytes l (right r) = let e : r.bytes ≡ bytes = (let w = r.writes in cc) in subst Whole e (whole_of _ _ _ _ _ r.is_chunk)
  writes_whole c place bytes l (erased e) = absurd (let wrong = e.erases in cc)

-- writes of chunks that aren't live, of right chunks on damaged clouds, and erasures of what isn't live keep what stands
pub resting_round_keeps : (n : ℕ) (F G : Contents) (S : Entries) (D : Clouds) (name : List ℕ) (x : Version)
    → IsName name → Stands n F S D → S name ≡ Rest x → IsImage n (LeavesAtRest n D name x) F G
    → Stands n G S D × (AllHold n F name x → AllHold n G name x)
resting_round_keeps n F G S D name x is stands rests image = (
  record {
    wide = stands.wide;
    narrow = stands.narrow;
    few = stands.few;
    entries =
        let before : Rests n F D name x = subst (HasEntry n F D name) rests (stands.entries name is) in
        entries_stay stands image (of_name n F G D name x image)
        (subst (HasEntry n G D name) (sym rests) (still_rests n F G D name x image stands.wide stands.narrow is before));
    metas = λ c slot other bytes l at whole. stands.metas c slot other bytes l (meta_was n F G D name x image c other slot bytes l at whole) whole;
    objects = image_either image (writes_whole n F G D name x image) stands.objects;
  },
  λ held c l. still_held n F G D name x image c l (held c l),
)

pub chunks_stay : ChunksStay
chunks_stay n F G E name x image stand = places_still n F G E name x image stand
