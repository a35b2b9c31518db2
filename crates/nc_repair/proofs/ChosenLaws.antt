-- What the survivors gave of a file that stands, and what its repair replaces.
use Rattle.std.proofs.Common.{◌≡◌, ◌<◌, ◌≤◌, ◌-◌, ℕ, Option, None, Some, List, [], ◌∷◌, IsSomeAnd, get_or, length, slice_index, inl, inr, refl, sym, ap, ◌∙◌, subst, arith}
use Rattle.std.proofs.lemmas.Bool.Decides.{eqb_tells}
use Rattle.nc_name.specs.declared.key.Key.{Key}
use Rattle.nc_name.specs.Keys.{key_text}
use Rattle.nc_name.specs.Names.{IsName}
use Rattle.nc_frame.specs.Frames.{Sealed}
use Rattle.nc_native.specs.Native.{combination}
use Rattle.nc_code.specs.Codes.{code_row}
use Rattle.nc_code.specs.Parts.{IsPlan, PlanParts}
use Rattle.nc_cloud.specs.declared.fleet.Ask.{Ask}
use Rattle.nc_cloud.specs.Contents.{Contents}
use Rattle.nc_cloud.specs.Fleet.{Shows, asked}
use Rattle.nc_cloud.proofs.Rounds.{row_at}
use Rattle.nc_meta.specs.declared.meta.Live.{Live}
use Rattle.nc_meta.specs.declared.meta.Meta.TheVariants as meta
use Rattle.nc_nextloss.specs.GoodCodes.{GoodParts}
use Rattle.nc_state.specs.Clouds.{Clouds}
use Rattle.nc_state.specs.Commands.{IsNext}
use Rattle.nc_state.specs.Right.{HasChunkAt, PlacesStand, RightOn, free_slot_of, payload_at}
use Rattle.nc_state.specs.Vaults.{ComesTo, Vault, version_in}
use Rattle.nc_state.specs.Versions.{IsValid, Version, meta_of}
use Rattle.nc_state.specs.Versions.Version.{Never, Removed, Stored}
use Rattle.nc_state.proofs.ChunkLaws.{free_slot_is_free, mended_is_free, mended_keeps_chunks, new_places_stand, only_right_is_sealed}
use Rattle.nc_download.specs.Chunks.{IsGoodChunk}
use Rattle.nc_write.specs.declared.sealing.VersionWrites.{VersionWrites}
use Rattle.nc_write.specs.Replacing.{Replaces}
use Rattle.nc_write.specs.Writes.{chunk_key}
use Rattle.nc_repair.specs.Asking.{AreAnswers, AreSurvivorAsks, chosen_of, survivor_ask}
use Rattle.nc_repair.specs.Giving.{GaveChunks}
use Rattle.nc_repair.specs.Mending.{IsMendOf, IsRepaired}
use Rattle.nc_mix.specs.Regenerating.{AreChosenOf, survivor}
use Rattle.nc_repair.proofs.AskingLaws.{survivor_below}
use Rattle.nc_repair.proofs.GivingLaws.{asks_long, no_entry}

-- the version of a file's metadata is that file
pub version_is : (x : Version) (m : Live) → meta_of x ≡ Some (meta.Live m) → (v : List ℕ) × (x ≡ Stored m v)
version_is Never m e = absurd cc
version_is (Removed generation) m e = absurd cc
version_is (Stored k v) m e = let same : k ≡ m = cc in (v, ap (λ (l : Live). Stored l v) same)

-- ---- what the survivors gave

module _ (n i : ℕ) (name : List ℕ) (old : Live) (plan : PlanParts) (v : List ℕ) (F : Contents) (D : Clouds) (places : PlacesStand n F D name (Stored old v)) where
  -- what is sealed where a chunk stands is that chunk
  held_right : (c : ℕ) (place : Key) (payload : List ℕ) (held : Option (List ℕ)) → c < n → HasChunkAt name (Stored old v) c place → F c place ≡ held → IsSomeAnd held (λ bytes. Sealed bytes c n (key_text place) payload)
      → payload ≡ payload_at n (Stored old v) c place
  held_right c place payload None l has e holds = absurd holds
  held_right c place payload (Some bytes) l has e holds = only_right_is_sealed n F D name (Stored old v) c place bytes payload places l has e holds

  -- they are the chunks that the plan takes
  pub given_are_chosen : (asks : List Ask) (chunks : List (List ℕ)) → IsPlan plan → old.code.width ≡ n → AreSurvivorAsks n name old plan i asks → AreAnswers asks F → GaveChunks n name old plan i asks chunks
      → AreChosenOf old.code plan i v chunks
  given_are_chosen asks chunks kept width are told gave = record {
    each = λ k l.
        let within : k < n - 1 = omega (arith, l, width) in
        let t : ℕ = survivor i k in
        let low : k < length asks = let long : length asks ≡ n - 1 = asks_long n name old plan i asks are in omega (arith, within, long) in
        let entry : asked (get_or asks k no_entry) ≡ survivor_ask n name old plan i k = row_at asked (survivor_ask n name old plan i) (n - 1) asks are.are k within no_entry in
        let shows = subst (λ (y : ℕ × Key × ℕ). Shows (get_or asks k no_entry).answer y.2 (F y.0 y.1)) entry (told k no_entry low) in
        let good : IsGoodChunk (chosen_of n name old plan t) (F t (chosen_of n name old plan t).key) (get_or chunks k []) = (gave.gave.each k within no_entry).verdict _ shows in
        held_right t (chosen_of n name old plan t).key (get_or chunks k []) (F t (chosen_of n name old plan t).key) (survivor_below n i k within) (refl, refl, kept.choices t) refl good.holds
        ∙ ap (combination (code_row old.code t (slice_index plan.choice t)) v) (sym width);
  }

-- ---- what is replaced

module _ (n i : ℕ) (name : List ℕ) (old : Live) (plan : PlanParts) (v : List ℕ) (good : GoodParts) (w : VersionWrites) (of : IsMendOf n name i old v plan good w) (is_name : IsName name) (low : i < n) (valid : IsValid n (Stored old v)) where
  slot_is : slice_index w.live.slots i ≡ free_slot_of (Stored old v) i
  slot_is =
      let narrow : n ≤ 10 = let few : old.code.width ≤ 10 = valid.stored.code.narrow in omega (arith, few, valid.stored.width) in
      mended_is_free n i plan old w.live v of.mended valid.stored narrow low

  pub replaces : (V : Vault) (H : Contents) → ComesTo n name V H (Some (meta.Live old)) → version_in n V name ≡ Stored old v → Replaces n name (i ∷ []) V H w.live v
  replaces V H comes x_is = record {
    is_name = is_name;
    stands = comes.stands;
    rests = comes.rests;
    next = subst (λ (x : Version). IsNext n x (Some (Stored w.live v))) (sym x_is) of.next;
    free = λ r pair k d l.
        let first : k ≡ 0 = omega (arith, l) in
        subst (λ j. HasChunkAt name (version_in n V name) (get_or (i ∷ []) j d) (chunk_key name w.live r (get_or (i ∷ []) j d)) → ⊥) (sym first)
        (subst (λ (x : Version). HasChunkAt name x i (chunk_key name w.live r i) → ⊥) (sym x_is) (free_slot_is_free name (Stored old v) w.live v i (chunk_key name w.live r i) slot_is (refl, refl, pair)));
    others = λ G places right.
        new_places_stand n G V.damaged name (version_in n V name) (Stored w.live v) places
        (λ c l. elim (eqb_tells c i) [
          | inl here ↦ inl (subst (λ k. RightOn n G name (Stored w.live v) k) (sym here.1) (right 0 i (omega arith)))
          | inr other ↦
              inr (λ place has.
              subst (λ (x : Version). HasChunkAt name x c place × (payload_at n (Stored w.live v) c place ≡ payload_at n x c place)) (sym x_is) (mended_keeps_chunks n i name plan old w.live v c place of.mended other.1 has))
        ]);
  }

  -- it is a version that a repair makes
  pub repaired_by : (x : Version) → x ≡ Stored old v → IsRepaired n i good x (Stored w.live v)
  repaired_by x x_is = record {
    old = old;
    file = v;
    was = x_is;
    is = ap (λ (m : Live). Stored m v) of.is;
    next = subst (λ (y : Version). IsNext n y (Some (Stored w.live v))) (sym x_is) of.next;
  }
