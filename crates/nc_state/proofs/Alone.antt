-- What changes objects of one name alone.
use Rattle.std.proofs.Common.{◌≡◌, ℕ, Option, None, Some, List, refl, sym, ap, ◌∙◌, subst}
use Rattle.nc_name.specs.declared.key.Key.{Key}
use Rattle.nc_name.specs.Keys.{name_of}
use Rattle.nc_cloud.specs.Contents.{Contents, Store, Write}
use Rattle.nc_cloud.specs.Images.{Image, ImageCloud, write_at}
use Rattle.nc_cloud.specs.Rounds.{row, some_row}
use Rattle.nc_cloud.specs.Stopping.{Keeps, Stops}
use Rattle.nc_cloud.specs.declared.fleet.Fleet.{Ghosts as FleetGhosts}
use Rattle.nc_cloud.proofs.SomeRows.{some_all, some_each}
use Rattle.nc_cloud.proofs.Time.{keeps_none, keeps_then, keeps_by, keeps_look}
use Rattle.nc_state.specs.Vaults.{ChangesOnlyName}

-- all entries of the round are of the name
pub record AreOfName (name : List ℕ) (ps : List Write) : Type 0 where
  pub each : (c : ℕ) (p : Write) → write_at ps c ≡ Some p → name_of p.key ≡ name

-- a round of some clouds, each of whose entries is
pub some_of_name : (name : List ℕ) (f : ℕ → Option Write) → ((c : ℕ) (p : Write) → f c ≡ Some p → p.cloud ≡ c)
    → ((c : ℕ) (p : Write) → f c ≡ Some p → name_of p.key ≡ name) → (n : ℕ) (ps : List Write) → ps ≡ some_row f 0 n → AreOfName name ps
some_of_name name f is of n ps all = record {
  each = λ c p found. some_each f is (λ q. name_of q.key ≡ name) n (λ d q l e. of d q e) c p (ap (λ (qs : List Write). write_at qs c) (sym all) ∙ found);
}

-- a round with one for each cloud
pub row_of_name : (name : List ℕ) (g : ℕ → Write) → ((c : ℕ) → (g c).cloud ≡ c) → ((c : ℕ) → name_of (g c).key ≡ name) → (n : ℕ) (ps : List Write) → ps ≡ row g 0 n → AreOfName name ps
row_of_name name g is of n ps all =
    some_of_name name (λ c. Some (g c)) (λ c p e. subst (λ (q : Write). q.cloud ≡ c) (same e) (is c)) (λ c p e. subst (λ (q : Write). name_of q.key ≡ name) (same e) (of c)) n ps
    (all ∙ sym (some_all g 0 n))
  where
    same : {X : Type 0} {x y : X} → Some x ≡ Some y → x ≡ y
    same e = cc

only_cloud : (name : List ℕ) (o : Option Write) (old left : Store) → ((p : Write) → o ≡ Some p → name_of p.key ≡ name) → ImageCloud o old left
    → (place : Key) → (name_of place ≡ name → ⊥) → left place ≡ old place
only_cloud name None old left of image place other = ap (λ (s : Store). s place) image
only_cloud name (Some p) old left of image place other = image.others place (λ e. other (ap name_of e ∙ of p refl))

-- then each of its images differs on objects of the name alone
pub only_name : (name : List ℕ) (ps : List Write) (F G : Contents) → AreOfName name ps → Image ps F G → ChangesOnlyName name F G
only_name name ps F G of image = record {
  others = λ c place other. only_cloud name (write_at ps c) (F c) (G c) (of.each c) (image.each c) place other;
}

pub only_none : (name : List ℕ) (F : Contents) → ChangesOnlyName name F F
only_none name F = record { others = λ c place other. refl }

pub only_then : (name : List ℕ) (F G H : Contents) → ChangesOnlyName name F G → ChangesOnlyName name G H → ChangesOnlyName name F H
only_then name F G H a b = record { others = λ c place other. b.others c place other ∙ a.others c place other }

-- the states of a fleet
module _ {A : Type 0} (F : FleetGhosts A) (name : List ℕ) where
  -- nothing was done
  pub alone_none : (s : A) → Keeps F s s (ChangesOnlyName name (F.held s))
  alone_none s = keeps_none s (ChangesOnlyName name (F.held s)) (only_none name (F.held s))

  -- the clouds were only looked at
  pub alone_look : {s t : A} → F.held t ≡ F.held s → Stops F s t (λ G. G ≡ F.held s) → Keeps F s t (ChangesOnlyName name (F.held s))
  alone_look {s} same stops = keeps_look (ChangesOnlyName name (F.held s)) same stops (only_none name (F.held s))

  -- one round
  pub alone_round : {s t : A} (ps : List Write) → AreOfName name ps → Keeps F s t (Image ps (F.held s)) → Keeps F s t (ChangesOnlyName name (F.held s))
  alone_round {s} ps of round = keeps_by (ChangesOnlyName name (F.held s)) round (λ G image. only_name name ps (F.held s) G of image)

  -- one part after another
  pub alone_then : {s t u : A} → Keeps F s t (ChangesOnlyName name (F.held s)) → Keeps F t u (ChangesOnlyName name (F.held t)) → Keeps F s u (ChangesOnlyName name (F.held s))
  alone_then {s} {t} a b = keeps_then a (keeps_by (ChangesOnlyName name (F.held s)) b (λ G only. only_then name (F.held s) (F.held t) G a.here only))
