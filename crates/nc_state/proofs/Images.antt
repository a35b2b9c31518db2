-- The images of rounds.
use Rattle.std.proofs.Common.{◌≡◌, ◌<◌, ℕ, Bool, true, false, Option, None, Some, List, refl, sym, ap, subst}
use Rattle.std.specs.Bool.{Decides}
use Rattle.std.proofs.lemmas.Bool.Decides.{Decides-and, Decides-eqb, Decides-like}
use Rattle.std.proofs.lemmas.Slice.Eq.{bytes_eq-Decides}
use Rattle.nc_name.specs.declared.key.Key.{Key}
use Rattle.nc_name.specs.declared.key.Key.TheVariants.{Meta, Chunk}
use Rattle.nc_cloud.specs.Contents.{ChangesAt, Contents, Fate, Write, Store, key_eq}
use Rattle.nc_cloud.specs.Images.{Image, ImageCloud, write_at}
use Rattle.nc_state.specs.Rounds.{IsImage, Left, Touching}
use Rattle.nc_state.specs.Rounds.Left.{untouched, touched}
use Rattle.nc_state.specs.Laws.{RoundIsImage}

-- the test on keys tells
pub key_eq-Decides : (a b : Key) → Decides (key_eq a b) (a ≡ b)
key_eq-Decides (Meta n s) (Meta m t) = Decides-like _ (λ p. let e = p.0 in let f = p.1 in cc) (λ e. (cc, cc)) (Decides-and _ _ (bytes_eq-Decides n m) (Decides-eqb s t))
key_eq-Decides (Chunk n s r) (Chunk m t q) =
    Decides-like _ (λ p. let e = p.0 in let f = p.1.0 in let g = p.1.1 in cc) (λ e. (cc, (cc, cc)))
    (Decides-and _ _ (bytes_eq-Decides n m) (Decides-and _ _ (Decides-eqb s t) (Decides-eqb r q)))
key_eq-Decides (Meta n s) (Chunk m t q) = ((λ e. cc), (λ e. cc))
key_eq-Decides (Chunk n s r) (Meta m t) = ((λ e. cc), (λ e. cc))

left_at : (touches : Key → Option (List ℕ) → Type 0) (p : Write) (old left : Store) → touches p.key p.new → ChangesAt p.key (λ o l. Fate o p.new l) old left
    → (place : Key) (same : Bool) → (same ≡ true → place ≡ p.key) → (place ≡ p.key → same ≡ true) → Left (touches place) (old place) (left place)
left_at touches p old left touch changes place true is back =
    subst (λ (q : Key). Left (touches q) (old q) (left q)) (sym (is refl)) (touched p.new touch changes.there)
left_at touches p old left touch changes place false is back = untouched (changes.others place (λ e. let wrong : false ≡ true = back e in cc))

left_cloud : (touches : Key → Option (List ℕ) → Type 0) (entry : Option Write) (old left : Store) → ((p : Write) → entry ≡ Some p → touches p.key p.new) → ImageCloud entry old left
    → (place : Key) → Left (touches place) (old place) (left place)
left_cloud touches None old left all image place = untouched (ap (λ (s : Store). s place) image)
left_cloud touches (Some p) old left all image place =
    let test = key_eq-Decides place p.key in
    left_at touches p old left (all p refl) image place (key_eq place p.key) test.0 test.1

-- an image of a round whose entries are all among these
pub round_image : {n : ℕ} {touches : Touching} {F G : Contents} (ps : List Write) → ((c : ℕ) (p : Write) → c < n → write_at ps c ≡ Some p → touches c p.key p.new) → Image ps F G → IsImage n touches F G
round_image {n} {touches} {F} {G} ps all image = record {
  each = λ c place l. left_cloud (touches c) (write_at ps c) (F c) (G c) (λ p e. all c p l e) (image.each c) place;
}

pub round_is_image : RoundIsImage
round_is_image n ps F G image = round_image ps (λ c p l found. record { entry = p; found = found; at = refl; writes = refl }) image

wider_left : (touches more : Option (List ℕ) → Type 0) (old left : Option (List ℕ)) → ((new : Option (List ℕ)) → touches new → more new) → Left touches old left → Left more old left
wider_left touches more old left all (untouched e) = untouched e
wider_left touches more old left all (touched new touch fate) = touched new (all new touch) fate

-- an image of a round is one of a round that touches more
pub wider_image : {n : ℕ} {touches more : Touching} {F G : Contents} → ((c : ℕ) (place : Key) (new : Option (List ℕ)) → c < n → touches c place new → more c place new) → IsImage n touches F G → IsImage n more F G
wider_image {n} {touches} {more} {F} {G} all image = record {
  each = λ c place l. wider_left (touches c place) (more c place) (F c place) (G c place) (λ new touch. all c place new l touch) (image.each c place l);
}
