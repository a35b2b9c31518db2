-- What the repair of a cloud makes of a version, and which clouds stop it.
use Rattle.std.proofs.Common.{◌≡◌, ◌<◌, if◌then◌else◌, ℕ, false, Option, Some, List, inl, inr, refl, sym, ap, ◌∙◌, subst}
use Rattle.std.proofs.lemmas.Bool.Decides.{eqb_tells}
use Rattle.nc_name.specs.declared.key.Key.{Key}
use Rattle.nc_name.specs.declared.key.Key.TheVariants as key
use Rattle.nc_code.specs.Parts.{IsPlan, PlanParts}
use Rattle.nc_meta.specs.declared.meta.Live.{Live}
use Rattle.nc_meta.specs.declared.meta.Meta.{Meta}
use Rattle.nc_meta.specs.declared.meta.Meta.TheVariants as meta
use Rattle.nc_nextloss.specs.GoodCodes.{GoodParts}
use Rattle.nc_search.specs.Searches.{IsMend}
use Rattle.nc_cloud.specs.Contents.{Contents}
use Rattle.nc_state.specs.Clouds.{Clouds}
use Rattle.nc_state.specs.Holding.{IsLiveTop}
use Rattle.nc_state.specs.Right.{HasChunkAt, PlacesStand, RightOn}
use Rattle.nc_state.specs.Versions.{IsValidFor, Version, is_stored, meta_of}
use Rattle.nc_state.specs.Versions.Version.{Never, Removed, Stored}
use Rattle.nc_download.specs.declared.short.How.{How}
use Rattle.nc_download.proofs.ChunkLaws.{bad_row_is_damaged}
use Rattle.nc_repair.specs.Mending.{IsRepaired, mended_meta}
use Rattle.nc_repair.specs.Repairing.{IsLeastDamaged}
use Rattle.nc_words.specs.declared.act.Act.TheVariants as act
use Rattle.nc_words.specs.declared.setting.Setting.{Setting}
use Rattle.nc_words.specs.Acts.{Task}
use Rattle.nc_vault.specs.Drawing.{IsRepairDrawn}
use Rattle.nc_vault.specs.Makings.{BringsBy, IsRepair, MakesBy, next_key, stored_plan}
use Rattle.nc_vault.specs.Replies.{IsAnotherDamaged}

-- ---- a name without a file

pub unstored : (x : Version) → (IsLiveTop (meta_of x) → ⊥) → is_stored x ≡ false
unstored Never none = refl
unstored (Removed generation) none = refl
unstored (Stored m v) none = absurd (none tt)

-- it stays as it is
pub brings_unstored : (n : ℕ) (task : Task) (i : ℕ) (name : List ℕ) (x : Version) → is_stored x ≡ false → BringsBy n task (act.Repair i) name x x
brings_unstored n task i name Never none = refl
brings_unstored n task i name (Removed generation) none = refl
brings_unstored n task i name (Stored m v) none = absurd cc

-- it has no chunks that could be wrong
no_chunks : (name : List ℕ) (x : Version) (c : ℕ) (place : Key) → is_stored x ≡ false → HasChunkAt name x c place → ⊥
no_chunks name x c (key.Meta other slot) none has = has
no_chunks name Never c (key.Chunk other slot row) none has = has
no_chunks name (Removed generation) c (key.Chunk other slot row) none has = has
no_chunks name (Stored m v) c (key.Chunk other slot row) none has = absurd cc

pub right_unstored : (n : ℕ) (G : Contents) (name : List ℕ) (x : Version) (c : ℕ) → is_stored x ≡ false → RightOn n G name x c
right_unstored n G name x c none place has = absurd (no_chunks name x c place none has)

pub files_unstored : (i : ℕ) (x : Version) → is_stored x ≡ false → ◌≡◌ {A = ℕ} 0 (if is_stored x then 1 else 0)
files_unstored i Never none = refl
files_unstored i (Removed generation) none = refl
files_unstored i (Stored m v) none = absurd cc

-- ---- a name with one

pub files_stored : (i : ℕ) (x : Version) (m : Live) (v : List ℕ) → x ≡ Stored m v → ◌≡◌ {A = ℕ} 1 (if is_stored x then 1 else 0)
files_stored i x m v is = subst (λ (y : Version). ◌≡◌ {A = ℕ} 1 (if is_stored y then 1 else 0)) (sym is) refl

pub brings_stored : (n : ℕ) (task : Task) (i : ℕ) (name : List ℕ) (x z : Version) (m : Live) (v : List ℕ) → x ≡ Stored m v → MakesBy n task (act.Repair i) name x z → BringsBy n task (act.Repair i) name x z
brings_stored n task i name x z m v is = subst (λ (y : Version). MakesBy n task (act.Repair i) name y z → BringsBy n task (act.Repair i) name y z) (sym is) (λ made. made)

-- what is made by the code that is drawn is the repair of it
pub is_repair : (n : ℕ) (s : Setting) (i : ℕ) (name : List ℕ) (m : Live) (plan : PlanParts) (good : GoodParts) → IsRepairDrawn s i name m plan good → (x y : Version) → meta_of x ≡ Some (meta.Live m)
    → IsRepaired n i good x y → IsRepair n s i name x y
is_repair n s i name m plan good d x y of made = record {
  old = m;
  top = of;
  index = d.index;
  plan = plan;
  good = good;
  drawn = subst (λ (t : Option Meta). IsMend m.code (stored_plan m i) i (next_key s name t) s.budget d.index plan good) (sym of) d.drawn;
  is_good = d.is_good;
  made = made;
}

-- it is this one
pub mended_version : (n i : ℕ) (good : GoodParts) (x y : Version) (m : Live) (v : List ℕ) → x ≡ Stored m v → IsRepaired n i good x y → y ≡ Stored (mended_meta n i m good v) v
mended_version n i good x y m v is made =
    let both : Stored made.old made.file ≡ Stored m v = sym made.was ∙ is in
    let same : made.old ≡ m = cc in
    let file : made.file ≡ v = cc in
    made.is ∙ ap (λ (k : Live). Stored (mended_meta n i k good made.file) made.file) same ∙ ap (λ (w : List ℕ). Stored (mended_meta n i m good w) w) file

-- ---- a chunk that isn't good

module _ (n : ℕ) (name : List ℕ) (m : Live) (v : List ℕ) (F : Contents) (D : Clouds) (valid : IsValidFor n m v) (places : PlacesStand n F D name (Stored m v)) where
  -- one that a repair finds stands on another damaged cloud
  pub another_damaged : (i : ℕ) (plan : PlanParts) → IsPlan plan → (c r : ℕ) (how : How) → IsLeastDamaged n name m plan i F c r how → IsAnotherDamaged n (act.Repair i) D c
  another_damaged i plan kept c r how least = record {
    in_width = least.in_width;
    damaged = bad_row_is_damaged n name m v F D valid places c r how least.in_width (subst (λ (k : ℕ). k < 2) (sym least.is_row) (kept.choices c)) least.here;
    other =
        elim (eqb_tells c i) [
          | inl same ↦ absurd (least.other same.1)
          | inr differs ↦ differs.0
        ];
  }
