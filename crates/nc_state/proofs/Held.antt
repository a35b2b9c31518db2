-- Metas as objects.
use Rattle.std.proofs.Common.{◌≡◌, ◌<◌, ◌≤◌, ◌%◌, ℕ, Option, None, Some, List, IfSome, refl, sym, ap, ◌∙◌, subst, arith}
use Rattle.std.specs.Bool.{Decides}
use Rattle.std.proofs.lemmas.Slice.Eq.{bytes_eq-Decides}
use Rattle.nc_name.specs.Names.{IsName}
use Rattle.nc_name.specs.Keys.{key_text}
use Rattle.nc_frame.specs.Frames.{Sealed, Whole, frame}
use Rattle.nc_frame.proofs.Shapes.{has_frame, same_parts, whole_of}
use Rattle.nc_meta.specs.declared.meta.Meta.{Meta}
use Rattle.nc_meta.specs.Metas.{IsMeta, Spells, generation_of, spelling}
use Rattle.nc_meta.proofs.MetasFit.{metas_fit, is_meta, spells_itself, payload_is}
use Rattle.nc_meta.proofs.OneSpelling.{one_spelling}
use Rattle.nc_cloud.specs.Contents.{Contents}
use Rattle.nc_state.specs.Versions.{Version, IsValid, meta_of}
use Rattle.nc_state.specs.Versions.Version.{Never, Removed, Stored}
use Rattle.nc_state.specs.Laws.{HeldIsSealed, SealedIsObject}
use Rattle.nc_state.specs.Holding.{Holds, HoldsIfAny, HoldsVersion, holds, holds_meta, is_object, meta_key, meta_object}

object_is : (n : ℕ) (name : List ℕ) (c : ℕ) (m : Meta) → meta_object n name c m ≡ frame c n (key_text (meta_key name m)) (spelling n m)
unfolding meta_object
object_is n name c m = refl

-- a meta as an object is sealed for its place
pub object_sealed : (n : ℕ) (name : List ℕ) (c : ℕ) (m : Meta) → 4 ≤ n → n ≤ 10 → IsName name → c < n → IsMeta n m → Sealed (meta_object n name c m) c n (key_text (meta_key name m)) (spelling n m)
object_sealed n name c m wide narrow is l fits =
    let short = metas_fit n wide narrow (spelling n m) m (spells_itself n m fits) in
    let slot : generation_of m % 2 < 2 = omega arith in
    record {
      fits = has_frame c n (meta_key name m) (spelling n m) (omega arith) (omega arith) (is, slot) short.1 (omega (arith, short.0));
      is_frame = object_is n name c m;
    }

pub object_whole : (n : ℕ) (name : List ℕ) (c : ℕ) (m : Meta) → 4 ≤ n → n ≤ 10 → IsName name → c < n → IsMeta n m → Whole (meta_object n name c m)
object_whole n name c m wide narrow is l fits = whole_of _ _ _ _ _ (object_sealed n name c m wide narrow is l fits)

-- two metas that are the same object are the same
pub same_object : (n : ℕ) (name : List ℕ) (c : ℕ) (k m : Meta) → 4 ≤ n → n ≤ 10 → IsName name → c < n → IsMeta n k → IsMeta n m → meta_object n name c k ≡ meta_object n name c m → k ≡ m
same_object n name c k m wide narrow is l k_fits m_fits e =
    let sealed_k = object_sealed n name c k wide narrow is l k_fits in
    let sealed_m = subst (λ (bytes : List ℕ). Sealed bytes c n (key_text (meta_key name m)) (spelling n m)) (sym e) (object_sealed n name c m wide narrow is l m_fits) in
    let same = same_parts _ _ _ _ _ _ _ _ _ sealed_k sealed_m in
    one_spelling n wide narrow (spelling n k) k m (spells_itself n k k_fits) (subst (λ (q : List ℕ). Spells n q m) (sym same.payload) (spells_itself n m m_fits))

-- a version without a meta was never stored
pub never_of : (x : Version) → meta_of x ≡ None → x ≡ Never
never_of Never is = refl
never_of (Removed generation) is = absurd cc
never_of (Stored m v) is = absurd cc

-- what a cloud that holds no meta of the name holds of a version is nothing
pub no_meta_held : (n : ℕ) (F : Contents) (name : List ℕ) (c : ℕ) (o : Option Meta) → ((m : Meta) → Holds n F name c m → ⊥) → HoldsIfAny n F name c o → o ≡ None
no_meta_held n F name c None none h = refl
no_meta_held n F name c (Some m) none h = absurd (none m h)

-- the meta of a valid version can be stored
pub meta_valid : (n : ℕ) (x : Version) → IsValid n x → IfSome (meta_of x) (IsMeta n)
meta_valid n Never valid = tt
meta_valid n (Removed generation) valid = valid
meta_valid n (Stored m v) valid = valid.stored

pub is_object-Decides : (held : Option (List ℕ)) (object : List ℕ) → Decides (is_object held object) (held ≡ Some object)
is_object-Decides None object = (λ e. absurd cc, λ e. absurd cc)
is_object-Decides (Some bytes) object = (λ e. ap Some ((bytes_eq-Decides bytes object).0 e), λ e. (bytes_eq-Decides bytes object).1 cc)

holds_meta-Decides : (n : ℕ) (F : Contents) (name : List ℕ) (m : Option Meta) → IfSome m (IsMeta n) → (c : ℕ) → Decides (holds_meta n F name m c) (HoldsIfAny n F name c m)
holds_meta-Decides n F name None fits c = (λ e. tt, λ h. refl)
holds_meta-Decides n F name (Some m) fits c =
    let same = is_object-Decides (F c (meta_key name m)) (meta_object n name c m) in
    (λ e. record { is_meta = fits; stands = same.0 e }, λ h. same.1 h.stands)

-- the test tells whether the cloud holds it
pub holds-Decides : (n : ℕ) (F : Contents) (name : List ℕ) (x : Version) → IsValid n x → (c : ℕ) → Decides (holds n F name x c) (HoldsVersion n F name c x)
holds-Decides n F name x valid c = holds_meta-Decides n F name (meta_of x) (meta_valid n x valid) c

pub sealed_is_object : SealedIsObject
sealed_is_object n name c m bytes payload spells is =
    is.is_frame ∙ ap (λ (p : List ℕ). frame c n (key_text (meta_key name m)) p) (payload_is n payload m spells) ∙ sym (object_is n name c m)

-- to hold a meta is to hold its sealed payload
pub held_is_sealed : HeldIsSealed
held_is_sealed n F name c m wide narrow is l = (
  λ h. record {
    bytes = meta_object n name c m;
    payload = spelling n m;
    stands = h.stands;
    is_sealed = object_sealed n name c m wide narrow is l h.is_meta;
    spells = spells_itself n m h.is_meta;
  },
  λ s.
      record { is_meta = is_meta n s.payload m s.spells; stands = s.stands ∙ ap Some (sealed_is_object n name c m s.bytes s.payload s.spells s.is_sealed) },
)
