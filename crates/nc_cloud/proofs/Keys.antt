-- Keys that are the same.
use Rattle.std.proofs.Common.{◌≡◌, ℕ, List, refl, ap₂}
use Rattle.std.specs.Bool.{Decides}
use Rattle.std.proofs.lemmas.Bool.Decides.{Decides-eqb, Decides-and, Decides-like}
use Rattle.std.proofs.lemmas.Slice.Eq.{slice_eq-Decides}
use Rattle.nc_name.specs.declared.key.Key.{Key}
use Rattle.nc_name.specs.declared.key.Key.TheVariants.{Meta, Chunk}
use Rattle.nc_cloud.specs.Contents.{key_eq}

chunk_same : {n m : List ℕ} {s t r q : ℕ} → n ≡ m → s ≡ t → r ≡ q → Chunk n s r ≡ Chunk m t q
chunk_same a b c = λ i. Chunk (a i) (b i) (c i)

pub key_eq-Decides : (a b : Key) → Decides (key_eq a b) (a ≡ b)
key_eq-Decides (Meta n s) (Meta m t) =
    Decides-like _ (λ p. ap₂ Meta p.0 p.1) (λ e. (cc, cc))
    (Decides-and _ _ (slice_eq-Decides Decides-eqb n m _ refl) (Decides-eqb s t))
key_eq-Decides (Chunk n s r) (Chunk m t q) =
    Decides-like _ (λ p. chunk_same p.0 p.1.0 p.1.1) (λ e. (cc, (cc, cc)))
    (Decides-and _ _ (slice_eq-Decides Decides-eqb n m _ refl) (Decides-and _ _ (Decides-eqb s t) (Decides-eqb r q)))
key_eq-Decides (Meta n s) (Chunk m t q) = ((λ e. cc), (λ e. cc))
key_eq-Decides (Chunk n s r) (Meta m t) = ((λ e. cc), (λ e. cc))
