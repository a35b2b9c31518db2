-- What is whole after a round, and what is the same.
use Rattle.std.proofs.Common.{◌≡◌, ◌⊎◌, ◌<◌, ℕ, Option, None, Some, List, [], IfSome, refl, sym, ◌∙◌, subst, append-nil, inl, inr}
use Rattle.nc_name.specs.declared.key.Key.{Key}
use Rattle.nc_frame.specs.Frames.{AreTorn, Whole}
use Rattle.nc_cloud.specs.Contents.{Contents, Fate, IsTorn}
use Rattle.nc_cloud.specs.Contents.Fate.{stayed, became, went, broke}
use Rattle.nc_state.specs.Standing.{WholeOrTorn}
use Rattle.nc_state.specs.Rounds.{IsImage, Left, Touching}
use Rattle.nc_state.specs.Rounds.Left.{untouched, touched}

torn_not_whole : (bytes : List ℕ) → AreTorn bytes → Whole bytes → ⊥
torn_not_whole bytes torn whole = torn.none_whole bytes [] (append-nil bytes) whole

-- what is whole after a fate was there before, or was to be new
pub whole_fate : (old new left : Option (List ℕ)) (bytes : List ℕ) → Fate old new left → left ≡ Some bytes → Whole bytes → (old ≡ Some bytes) ⊎ (new ≡ Some bytes)
whole_fate old new left bytes (stayed e) is whole = inl (sym e ∙ is)
whole_fate old new left bytes (became e) is whole = inr (sym e ∙ is)
whole_fate old new left bytes (went e) is whole = absurd (let none : None ≡ Some bytes = sym e ∙ is in cc)
whole_fate old new left bytes (broke torn) is whole = absurd (torn_not_whole bytes (subst IsTorn is torn) whole)

-- the object is whole or torn, where there is one
abbrev pub IsEither : Option (List ℕ) → Type 0
IsEither object = IfSome object (λ bytes. Whole bytes ⊎ AreTorn bytes)

torn_either : (object : Option (List ℕ)) → IsTorn object → IsEither object
torn_either None torn = tt
torn_either (Some bytes) torn = inr torn

pub either_fate : (old new left : Option (List ℕ)) → Fate old new left → IsEither old → IsEither new → IsEither left
either_fate old new left (stayed e) o w = subst IsEither (sym e) o
either_fate old new left (became e) o w = subst IsEither (sym e) w
either_fate old new left (went e) o w = subst IsEither (sym e) tt
either_fate old new left (broke torn) o w = torn_either left torn

pub either_of : (object : Option (List ℕ)) → ((bytes : List ℕ) → object ≡ Some bytes → Whole bytes ⊎ AreTorn bytes) → IsEither object
either_of None each = tt
either_of (Some bytes) each = each bytes refl

pub either_at : (object : Option (List ℕ)) (bytes : List ℕ) → IsEither object → object ≡ Some bytes → Whole bytes ⊎ AreTorn bytes
either_at object bytes either is = subst IsEither is either

-- ---- rounds

left_whole : (touches : Option (List ℕ) → Type 0) (old left : Option (List ℕ)) (bytes : List ℕ) → Left touches old left → left ≡ Some bytes → Whole bytes → (old ≡ Some bytes) ⊎ touches (Some bytes)
left_whole touches old left bytes (untouched e) is whole = inl (sym e ∙ is)
left_whole touches old left bytes (touched new touch fate) is whole =
    elim (whole_fate old new left bytes fate is whole) [
      | inl e ↦ inl e
      | inr e ↦ inr (subst touches e touch)
    ]

left_either : (touches : Option (List ℕ) → Type 0) (old left : Option (List ℕ)) → ((bytes : List ℕ) → touches (Some bytes) → Whole bytes) → Left touches old left → IsEither old → IsEither left
left_either touches old left writes (untouched e) either = subst IsEither (sym e) either
left_either touches old left writes (touched new touch fate) either =
    either_fate old new left fate either (either_of new (λ bytes is. inl (writes bytes (subst touches is touch))))

left_same : (touches : Option (List ℕ) → Type 0) (old left : Option (List ℕ)) → ((new : Option (List ℕ)) → touches new → ⊥) → Left touches old left → left ≡ old
left_same touches old left none (untouched e) = e
left_same touches old left none (touched new touch fate) = absurd (none new touch)

-- what is whole in an image was there before, or was written
pub image_whole : {n : ℕ} {touches : Touching} {F G : Contents} → IsImage n touches F G → (c : ℕ) (place : Key) (bytes : List ℕ) → c < n → G c place ≡ Some bytes → Whole bytes
    → (F c place ≡ Some bytes) ⊎ touches c place (Some bytes)
image_whole image c place bytes l is whole = left_whole _ _ _ bytes (image.each c place l) is whole

-- a place that the round doesn't touch is the same
pub image_same : {n : ℕ} {touches : Touching} {F G : Contents} → IsImage n touches F G → (c : ℕ) (place : Key) → c < n → ((new : Option (List ℕ)) → touches c place new → ⊥) → G c place ≡ F c place
image_same image c place l none = left_same _ _ _ none (image.each c place l)

-- where whole objects are written, each object is whole or torn
pub image_either : {n : ℕ} {touches : Touching} {F G : Contents} → IsImage n touches F G → ((c : ℕ) (place : Key) (bytes : List ℕ) → c < n → touches c place (Some bytes) → Whole bytes)
    → WholeOrTorn n F → WholeOrTorn n G
image_either {n} {touches} {F} {G} image writes either c place bytes l is =
    either_at (G c place) bytes (left_either (touches c place) (F c place) (G c place) (λ b touch. writes c place b l touch) (image.each c place l) (either_of (F c place) (λ b e. either c place b l e))) is
