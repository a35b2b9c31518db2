-- What a round leaves, by its writes.
use Rattle.std.proofs.Common.{◌≡◌, ◌≢◌, ◌<◌, ◌≤◌, ◌+◌, ℕ, zero, suc, Bool, true, false, Option, None, Some, List, [], ◌∷◌, map, nat_eq, if◌then◌else◌, refl, sym, ap, ◌∙◌, subst, arith, All, inl, inr}
use Rattle.std.proofs.lemmas.Bool.Decides.{eqb_tells}
use Rattle.nc_cloud.specs.declared.fleet.Erase.{Erase}
use Rattle.nc_cloud.specs.declared.fleet.Job.{Job}
use Rattle.nc_cloud.specs.declared.fleet.Done.TheVariants as done
use Rattle.nc_cloud.specs.Contents.Fate.{stayed}
use Rattle.nc_cloud.specs.Contents.{Store, Contents, Write, Touch, Fate, Settles, ChangesAt, touch_at, LeavesCloud, Leaves}
use Rattle.nc_cloud.specs.Images.{write_at, ImageCloud, Image, WrittenCloud, Written}
use Rattle.nc_cloud.specs.Fleet.{write, writes, touches, erasure, erasures, erase_touches, is_done}
use Rattle.nc_cloud.specs.Rounds.{row}
use Rattle.nc_cloud.proofs.Rounds.{settled_fate}

-- entries of any kind, by what they write and which are Ok
module _ {X : Type 0} (writes : X → Write) (ok : X → Bool) where
  abbrev touch_of : X → Touch
  touch_of x = record { write = writes x; ok = ok x }

  image_step : (here : Bool) (x : X) (t : Option Touch) (p : Option Write) (old left : Store) → (LeavesCloud t old left → ImageCloud p old left)
      → LeavesCloud (if here then Some (touch_of x) else t) old left → ImageCloud (if here then Some (writes x) else p) old left
  image_step true x t p old left rest is = record { there = settled_fate _ _ _ _ is.there; others = is.others }
  image_step false x t p old left rest is = rest is

  -- a cloud after a round, by its write
  image_cloud : (xs : List X) (c : ℕ) (old left : Store) → LeavesCloud (touch_at (map touch_of xs) c) old left → ImageCloud (write_at (map writes xs) c) old left
  image_cloud [] c old left is = is
  image_cloud (x ∷ xs) c old left is = image_step (nat_eq (writes x).cloud c) x _ _ old left (image_cloud xs c old left) is

  pub entries_image : (xs : List X) (F G : Contents) → Leaves (map touch_of xs) F G → Image (map writes xs) F G
  entries_image xs F G leaves = record { each = λ c. image_cloud xs c (F c) (G c) (leaves.each c) }

  written_step : (here : Bool) (x : X) (t : Option Touch) (p : Option Write) (old left : Store) → ok x ≡ true → (LeavesCloud t old left → WrittenCloud p old left)
      → LeavesCloud (if here then Some (touch_of x) else t) old left → WrittenCloud (if here then Some (writes x) else p) old left
  written_step true x t p old left fine rest is = record { there = subst (λ b. Settles b (writes x).new (old (writes x).key) (left (writes x).key)) fine is.there; others = is.others }
  written_step false x t p old left fine rest is = rest is

  written_cloud : (xs : List X) → All (λ x. ok x ≡ true) xs → (c : ℕ) (old left : Store) → LeavesCloud (touch_at (map touch_of xs) c) old left → WrittenCloud (write_at (map writes xs) c) old left
  written_cloud [] fine c old left is = is
  written_cloud (x ∷ xs) fine c old left is =
      written_step (nat_eq (writes x).cloud c) x _ _ old left (fine 0 x (omega arith)) (written_cloud xs (λ k d l. fine (suc k) d (omega arith)) c old left) is

  pub entries_written : (xs : List X) (F G : Contents) → All (λ x. ok x ≡ true) xs → Leaves (map touch_of xs) F G → Written (map writes xs) F G
  entries_written xs F G fine leaves = record { each = λ c. written_cloud xs fine c (F c) (G c) (leaves.each c) }

pub leaves_image : (js : List Job) (F G : Contents) → Leaves (touches js) F G → Image (writes js) F G
leaves_image = entries_image write (λ j. is_done j.done)

pub leaves_written : (js : List Job) (F G : Contents) → All (λ j. j.done ≡ done.Ok) js → Leaves (touches js) F G → Written (writes js) F G
leaves_written js F G ok = entries_written write (λ j. is_done j.done) js F G (λ k d l. ap is_done (ok k d l))

pub erases_image : (es : List Erase) (F G : Contents) → Leaves (erase_touches es) F G → Image (erasures es) F G
erases_image = entries_image erasure (λ e. is_done e.done)

pub erases_written : (es : List Erase) (F G : Contents) → All (λ e. e.done ≡ done.Ok) es → Leaves (erase_touches es) F G → Written (erasures es) F G
erases_written es F G ok = entries_written erasure (λ e. is_done e.done) es F G (λ k d l. ap is_done (ok k d l))

-- a stop before a round has begun
still_cloud : (p : Option Write) (s : Store) → ImageCloud p s s
still_cloud None s = refl
still_cloud (Some p) s = record { there = stayed refl; others = λ q other. refl }

pub image_none : (ps : List Write) (F : Contents) → Image ps F F
image_none ps F = record { each = λ c. still_cloud (write_at ps c) (F c) }

-- the writes of a row
pub row_out : (f : ℕ → Write) → ((c : ℕ) → (f c).cloud ≡ c) → (a k c : ℕ) → a + k ≤ c → write_at (row f a k) c ≡ None
row_out f is a zero c l = refl
row_out f is a (suc k) c l =
    let lower : (f a).cloud ≢ c = λ same. let e : a ≡ c = sym (is a) ∙ same in absurd (omega arith) in
    elim (eqb_tells (f a).cloud c) [
      | inl same ↦ absurd (lower same.1)
      | inr other ↦ rw other.0 (row_out f is (suc a) k c (omega arith))
    ]

pub row_in : (f : ℕ → Write) → ((c : ℕ) → (f c).cloud ≡ c) → (a k c : ℕ) → a ≤ c → c < a + k → write_at (row f a k) c ≡ Some (f c)
row_in f is a zero c low high = absurd (omega arith)
row_in f is a (suc k) c low high =
    elim (eqb_tells (f a).cloud c) [
      | inl same ↦ rw same.0 (ap (λ k. Some (f k)) (sym (is a) ∙ same.1))
      | inr other ↦ let differs : a ≢ c = λ e. other.1 (is a ∙ e) in rw other.0 (row_in f is (suc a) k c (omega arith) (omega arith))
    ]

-- one write for each of n clouds
module _ (f : ℕ → Write) (is : (c : ℕ) → (f c).cloud ≡ c) (n : ℕ) (ps : List Write) (all : ps ≡ row f 0 n) (F G : Contents) where
  at : (c : ℕ) → c < n → write_at ps c ≡ Some (f c)
  at c l = ap (λ xs. write_at xs c) all ∙ row_in f is 0 n c (omega arith) (omega arith)

  past : (c : ℕ) → n ≤ c → write_at ps c ≡ None
  past c l = ap (λ xs. write_at xs c) all ∙ row_out f is 0 n c (omega arith)

  pub image_in : Image ps F G → (c : ℕ) → c < n → ChangesAt (f c).key (λ o l. Fate o (f c).new l) (F c) (G c)
  image_in image c l = subst (λ (p : Option Write). ImageCloud p (F c) (G c)) (at c l) (image.each c)

  pub image_out : Image ps F G → (c : ℕ) → n ≤ c → G c ≡ F c
  image_out image c l = subst (λ (p : Option Write). ImageCloud p (F c) (G c)) (past c l) (image.each c)

  pub written_in : Written ps F G → (c : ℕ) → c < n → ChangesAt (f c).key (λ o l. l ≡ (f c).new) (F c) (G c)
  written_in written c l = subst (λ (p : Option Write). WrittenCloud p (F c) (G c)) (at c l) (written.each c)

  pub written_out : Written ps F G → (c : ℕ) → n ≤ c → G c ≡ F c
  written_out written c l = subst (λ (p : Option Write). WrittenCloud p (F c) (G c)) (past c l) (written.each c)
