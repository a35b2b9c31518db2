-- What keeps an entry when contents change.
use Rattle.std.proofs.Common.{◌≡◌, ◌<◌, ◌≤◌, ℕ, Bool, false, if◌then◌else◌, Option, None, Some, List, refl, sym, ap, ◌∙◌}
use Rattle.nc_name.specs.declared.key.Key.{Key}
use Rattle.nc_name.specs.declared.key.Key.TheVariants as key
use Rattle.nc_name.specs.Keys.{name_of}
use Rattle.nc_name.specs.Names.{IsName}
use Rattle.nc_frame.specs.Frames.{Whole}
use Rattle.nc_meta.specs.declared.meta.Meta.{Meta}
use Rattle.nc_cloud.specs.Contents.{Contents}
use Rattle.nc_state.specs.Clouds.{Clouds}
use Rattle.nc_state.specs.Versions.{Version, meta_of}
use Rattle.nc_state.specs.Versions.Version.{Never, Removed, Stored}
use Rattle.nc_state.specs.Holding.{HeldOutside, Holds, HoldsIfAny, holds, holds_meta, is_object, meta_key, meta_object}
use Rattle.nc_state.specs.Weighing.{settled}
use Rattle.nc_state.specs.ChunkLaws.{SameAt, UntouchedStays}
use Rattle.nc_state.proofs.CloudSets.{any_same}
use Rattle.nc_state.specs.Right.{HasChunkAt, PlacesStand}
use Rattle.nc_state.specs.Entries.{Rests, Between, Entry, HasEntry}
use Rattle.nc_state.specs.Entries.Entry.{Rest, Opened}
use Rattle.nc_state.proofs.Held.{object_whole}

-- a place that a version of the name has is one of the name
pub names_name : (name : List ℕ) (x : Version) (c : ℕ) (place : Key) → HasChunkAt name x c place → name_of place ≡ name
names_name name x c (key.Meta other slot) names = absurd names
names_name name (Stored m v) c (key.Chunk other slot row) names = names.0
names_name name Never c (key.Chunk other slot row) names = absurd names
names_name name (Removed generation) c (key.Chunk other slot row) names = absurd names

-- each meta that a cloud of G holds it held in F
abbrev pub NoNewMetas : ℕ → Contents → Contents → List ℕ → Type 0
NoNewMetas n F G name = (c : ℕ) (m : Meta) → c < n → Holds n G name c m → Holds n F name c m

pub rests_kept : {n : ℕ} {F G : Contents} {D E : Clouds} {name : List ℕ} {x : Version} → NoNewMetas n F G name → HeldOutside n G E name x → PlacesStand n G E name x
    → Rests n F D name x → Rests n G E name x
rests_kept old held places r = record {
  none_above = λ c m l h. r.none_above c m l (old c m l h);
  one_meta = λ c m l h. r.one_meta c m l (old c m l h);
  held = held;
  valid = r.valid;
  places = places;
}

pub between_kept : {n : ℕ} {F G : Contents} {D E : Clouds} {name : List ℕ} {x y : Version} → NoNewMetas n F G name → HeldOutside n G E name x
    → PlacesStand n G E name x → PlacesStand n G E name y → Between n F D name x y → Between n G E name x y
between_kept old held places_x places_y b = record {
  next = b.next;
  none_above = λ c m l h. b.none_above c m l (old c m l h);
  one_new = λ c m l h. b.one_new c m l (old c m l h);
  one_old = λ c m l h. b.one_old c m l (old c m l h);
  held = held;
  valid_old = b.valid_old;
  valid_new = b.valid_new;
  places_old = places_x;
  places_new = places_y;
}

-- the meta is held where its place is the same
pub holds_same : (n : ℕ) (F G : Contents) (name : List ℕ) (c : ℕ) (m : Option Meta) → ((k : Meta) → m ≡ Some k → G c (meta_key name k) ≡ F c (meta_key name k))
    → HoldsIfAny n F name c m → HoldsIfAny n G name c m
holds_same n F G name c None same h = tt
holds_same n F G name c (Some m) same h = record { is_meta = h.is_meta; stands = same m refl ∙ h.stands }

-- the places of a version stand where they are the same outside E, and nothing whole is new at them
pub places_kept : {n : ℕ} {F G : Contents} {D E : Clouds} {name : List ℕ} {x : Version} → ((c : ℕ) → E c ≡ false → D c ≡ false)
    → ((c : ℕ) (place : Key) (bytes : List ℕ) → c < n → HasChunkAt name x c place → G c place ≡ Some bytes → Whole bytes → F c place ≡ Some bytes)
    → ((c : ℕ) (place : Key) → c < n → E c ≡ false → HasChunkAt name x c place → G c place ≡ F c place)
    → PlacesStand n F D name x → PlacesStand n G E name x
places_kept fewer back same p = record {
  sound = λ c place bytes l names is whole. p.sound c place bytes l names (back c place bytes l names is whole) whole;
  right = λ c place l out names.
      let r = p.right c place l (fewer c out) names in
      record { bytes = r.bytes; stands = same c place l out names ∙ r.stands; is_chunk = r.is_chunk };
}

-- ---- contents with nothing whole that is new, and with the objects of F outside E

pub record Shrinks (n : ℕ) (F G : Contents) (D E : Clouds) (name : List ℕ) : Type 0 where
  pub fewer : (c : ℕ) → E c ≡ false → D c ≡ false
  pub back : (c : ℕ) (place : Key) (bytes : List ℕ) → c < n → name_of place ≡ name → G c place ≡ Some bytes → Whole bytes → F c place ≡ Some bytes
  pub same : (c : ℕ) (place : Key) → c < n → E c ≡ false → name_of place ≡ name → G c place ≡ F c place

module _ (n : ℕ) (F G : Contents) (D E : Clouds) (name : List ℕ) (s : Shrinks n F G D E name) where
  shrunk_metas : 4 ≤ n → n ≤ 10 → IsName name → NoNewMetas n F G name
  shrunk_metas wide narrow is c m l h = record {
    is_meta = h.is_meta;
    stands = s.back c (meta_key name m) _ l refl h.stands (object_whole n name c m wide narrow is l h.is_meta);
  }

  shrunk_held : (x : Version) → HeldOutside n F D name x → HeldOutside n G E name x
  shrunk_held x held c l out = holds_same n F G name c (meta_of x) (λ k e. s.same c (meta_key name k) l out refl) (held c l (s.fewer c out))

  shrunk_places : (x : Version) → PlacesStand n F D name x → PlacesStand n G E name x
  shrunk_places x p =
      places_kept s.fewer (λ c place bytes l names. s.back c place bytes l (names_name name x c place names)) (λ c place l out names. s.same c place l out (names_name name x c place names)) p

  pub shrunk_rests : 4 ≤ n → n ≤ 10 → IsName name → (x : Version) → Rests n F D name x → Rests n G E name x
  shrunk_rests wide narrow is x r = rests_kept (shrunk_metas wide narrow is) (shrunk_held x r.held) (shrunk_places x r.places) r

  pub shrunk_between : 4 ≤ n → n ≤ 10 → IsName name → (x y : Version) → Between n F D name x y → Between n G E name x y
  shrunk_between wide narrow is x y b =
      between_kept (shrunk_metas wide narrow is) (shrunk_held x b.held) (shrunk_places x b.places_old) (shrunk_places y b.places_new) b

-- ---- a name whose objects are as they were

same_shrinks : (n : ℕ) (F G : Contents) (D : Clouds) (name : List ℕ) → SameAt n F G name → Shrinks n F G D D name
same_shrinks n F G D name same = record {
  fewer = λ c e. e;
  back = λ c place bytes l e is whole. sym (same c place l e) ∙ is;
  same = λ c place l out e. same c place l e;
}

pub same_entry : (n : ℕ) (F G : Contents) (D : Clouds) (name : List ℕ) (e : Entry) → 4 ≤ n → n ≤ 10 → IsName name → SameAt n F G name → HasEntry n F D name e → HasEntry n G D name e
same_entry n F G D name (Rest x) wide narrow is same r = shrunk_rests n F G D D name (same_shrinks n F G D name same) wide narrow is x r
same_entry n F G D name (Opened x y) wide narrow is same o = record {
  between = shrunk_between n F G D D name (same_shrinks n F G D name same) wide narrow is x y o.between;
  some_new = (o.some_new.0, o.some_new.1, holds_same n F G name o.some_new.0 (meta_of y) (λ k e. same o.some_new.0 (meta_key name k) o.some_new.1 refl) o.some_new.2);
  some_not = (
    o.some_not.0,
    o.some_not.1,
    o.some_not.2,
    λ h. o.some_not.3 (holds_same n G F name o.some_not.0 (meta_of y) (λ k e. sym (same o.some_not.0 (meta_key name k) o.some_not.1 refl)) h),
  );
}

holds_meta_same : (n : ℕ) (F G : Contents) (name : List ℕ) (m : Option Meta) (c : ℕ) → c < n → SameAt n F G name → holds_meta n G name m c ≡ holds_meta n F name m c
holds_meta_same n F G name None c l same = refl
holds_meta_same n F G name (Some m) c l same = ap (λ (held : Option (List ℕ)). is_object held (meta_object n name c m)) (same c (meta_key name m) l refl)

settled_same : (n : ℕ) (F G : Contents) (name : List ℕ) (e : Entry) → SameAt n F G name → settled n G name e ≡ settled n F name e
settled_same n F G name (Rest x) same = refl
settled_same n F G name (Opened x y) same =
    ap (λ (b : Bool). if b then y else x) (any_same n (holds n G name y) (holds n F name y) (λ c l. holds_meta_same n F G name (meta_of y) c l same))

pub untouched_stays : UntouchedStays
untouched_stays n F G name same = (
  λ E x stand. shrunk_places n F G E E name (same_shrinks n F G E name same) x stand,
  λ c x l held. holds_same n F G name c (meta_of x) (λ k e. same c (meta_key name k) l refl) held,
  λ e. settled_same n F G name e same,
)
