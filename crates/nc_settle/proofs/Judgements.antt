-- What follows from an answer.
use Rattle.std.proofs.Common.{ℕ, ◌≡◌, ◌≢◌, ◌⊎◌, ◌<◌, ◌≤◌, Option, List, length, inl, inr, sym, ap, ◌∙◌, subst, refl, arith}
use Rattle.nc_name.specs.declared.key.Key.TheVariants as key
use Rattle.nc_name.specs.Keys.{key_text}
use Rattle.nc_name.specs.Names.{IsName}
use Rattle.nc_name.proofs.KeyTexts.{key_text_short}
use Rattle.nc_frame.specs.Frames.{Sealed}
use Rattle.nc_frame.proofs.Shapes.{length-frame, same_parts}
use Rattle.nc_meta.specs.declared.meta.Meta.{Meta}
use Rattle.nc_meta.specs.Metas.{Spells}
use Rattle.nc_meta.proofs.MetasFit.{metas_fit}
use Rattle.nc_cloud.specs.declared.fleet.Answer.TheVariants as answer
use Rattle.nc_cloud.specs.Fleet.{Shows}
use Rattle.nc_settle.specs.declared.place.Place.{Place}
use Rattle.nc_settle.specs.declared.place.Place.TheVariants as place
use Rattle.nc_settle.specs.Judging.{SealedMeta, IsOfElsewhere, IsBroken, IsPlaceIn, IsPlaceOf, HasMetaOf, Judges, JudgesPayload}

-- bytes that were given are what is held
shown : (n : ℕ) (name : List ℕ) (c slot : ℕ) (bytes : List ℕ) (p : Place) → IsPlaceIn n name c slot bytes p → (held : Option (List ℕ)) → Shows (answer.Bytes bytes) 2048 held → IsPlaceOf n name c slot held p
shown n name c slot bytes place.Absent is held shows = absurd is
shown n name c slot bytes place.Broken is held shows = (bytes, shows.0, is)
shown n name c slot bytes (place.Misplaced a b) is held shows = (bytes, shows.0, shows.1, is)
shown n name c slot bytes place.Failed is held shows = absurd is
shown n name c slot bytes (place.Sealed m) is held shows = (bytes, shows.0, shows.1, is)

unfailed : (n : ℕ) (name : List ℕ) (c slot : ℕ) (bytes : List ℕ) (p : Place) → IsPlaceIn n name c slot bytes p → p ≢ place.Failed
unfailed n name c slot bytes place.Absent is e = absurd is
unfailed n name c slot bytes place.Broken is e = cc
unfailed n name c slot bytes (place.Misplaced a b) is e = cc
unfailed n name c slot bytes place.Failed is e = absurd is
unfailed n name c slot bytes (place.Sealed m) is e = cc

pub judged_bytes : (n : ℕ) (name : List ℕ) (c slot : ℕ) (bytes : List ℕ) (p : Place) → IsPlaceIn n name c slot bytes p → HasMetaOf n slot p → Judges n name slot c (answer.Bytes bytes) p
judged_bytes n name c slot bytes p is meta = record {
  told = shown n name c slot bytes p is;
  failed = λ e. absurd (unfailed n name c slot bytes p is e);
  failing = λ e. absurd cc;
  meta = meta;
}

pub judged_absent : (n : ℕ) (name : List ℕ) (c slot : ℕ) → Judges n name slot c answer.Absent place.Absent
judged_absent n name c slot = record {
  told = λ held shows. shows;
  failed = λ e. absurd cc;
  failing = λ e. absurd cc;
  meta = tt;
}

-- a sealed meta is never longer than what is asked for
pub sealed_fits : (n : ℕ) (name : List ℕ) (c slot : ℕ) (bytes : List ℕ) (m : Meta) → 4 ≤ n → n ≤ 10 → IsName name → SealedMeta n name c slot bytes m → length bytes ≤ 2048
sealed_fits n name c slot bytes m wide narrow is s =
    let payload = metas_fit n wide narrow s.payload m s.spells in
    let text = key_text_short (key.Meta name slot) is.short in
    let long = ap length s.is_sealed.is_frame ∙ length-frame c n (key_text (key.Meta name slot)) s.payload in
    omega (arith, payload.0, text, long)

pub judged_long : (n : ℕ) (name : List ℕ) (c slot : ℕ) → 4 ≤ n → n ≤ 10 → IsName name → Judges n name slot c answer.Long place.Broken
judged_long n name c slot wide narrow is = record {
  told = λ held shows.
      let more : 2048 < length shows.0 = shows.2 in (
        shows.0,
        shows.1,
        record {
          no_meta = λ m s. let fits : length shows.0 ≤ 2048 = sealed_fits n name c slot shows.0 m wide narrow is s in absurd (omega arith);
          not_misplaced = λ fits. absurd (omega arith);
        },
      );
  failed = λ e. absurd cc;
  failing = λ e. absurd cc;
  meta = tt;
}

pub judged_failed : (n : ℕ) (name : List ℕ) (c slot : ℕ) → Judges n name slot c answer.Failed place.Failed
judged_failed n name c slot = record {
  told = λ held shows. tt;
  failed = λ e. refl;
  failing = λ e. refl;
  meta = tt;
}

-- a payload of this cloud, width and key
pub place_of_payload : (n : ℕ) (name : List ℕ) (c slot : ℕ) (bytes payload : List ℕ) (p : Place) → Sealed bytes c n (key_text (key.Meta name slot)) payload → JudgesPayload n slot payload p → IsPlaceIn n name c slot bytes p
place_of_payload n name c slot bytes payload place.Absent is j = j
place_of_payload n name c slot bytes payload place.Broken is j = record {
  no_meta = λ m s.
      let same = same_parts bytes c c n n _ _ _ _ is s.is_sealed in
      j m (subst (λ (q : List ℕ). Spells n q m) (sym same.payload) s.spells) s.parity;
  not_misplaced = λ fits a b other.
      let same = same_parts bytes c a n b _ _ _ _ is other.is_sealed in
      elim other.elsewhere [
        | inl differs ↦ differs (sym same.cloud)
        | inr differs ↦ differs (sym same.width)
      ];
}
place_of_payload n name c slot bytes payload (place.Misplaced a b) is j = absurd j
place_of_payload n name c slot bytes payload place.Failed is j = j
place_of_payload n name c slot bytes payload (place.Sealed m) is j = record { payload = payload; is_sealed = is; spells = j.0; parity = j.1 }

-- a whole frame of elsewhere
pub place_of_elsewhere : (n : ℕ) (name : List ℕ) (c slot : ℕ) (bytes : List ℕ) (a b : ℕ) → ((a ≢ c) ⊎ (b ≢ n)) × ((k payload : List ℕ) × Sealed bytes a b k payload) → IsOfElsewhere n c bytes a b
place_of_elsewhere n name c slot bytes a b is = record { elsewhere = is.0; key = is.1.0; payload = is.1.1; is_sealed = is.1.2 }

-- neither
pub place_of_broken : (n : ℕ) (name : List ℕ) (c slot : ℕ) (bytes : List ℕ)
    → ((a b : ℕ) (k payload : List ℕ) → Sealed bytes a b k payload → (a ≡ c) × (b ≡ n) × (k ≢ key_text (key.Meta name slot))) → IsBroken n name c slot bytes
place_of_broken n name c slot bytes none = record {
  no_meta = λ m s. (none c n _ _ s.is_sealed).2 refl;
  not_misplaced = λ fits a b other.
      let same = none a b _ _ other.is_sealed in
      elim other.elsewhere [
        | inl differs ↦ differs same.0
        | inr differs ↦ differs same.1
      ];
}
