-- Settling writes metadata of its name alone.
use Rattle.std.proofs.Common.{◌≡◌, ◌%◌, ℕ, Option, None, Some, List, refl, ap, ◌∙◌, subst}
use Rattle.nc_name.specs.declared.key.Key.{Key}
use Rattle.nc_name.specs.declared.key.Key.TheVariants as key
use Rattle.nc_name.specs.Keys.{name_of}
use Rattle.nc_meta.specs.declared.meta.Meta.{Meta}
use Rattle.nc_meta.specs.Metas.{generation_of}
use Rattle.nc_cloud.specs.Contents.{Contents, Store, Write}
use Rattle.nc_cloud.specs.Images.{Image, ImageCloud, write_at}
use Rattle.nc_cloud.specs.Stopping.{Keeps, Stops}
use Rattle.nc_cloud.specs.declared.fleet.Fleet.{Ghosts as FleetGhosts}
use Rattle.nc_cloud.proofs.Time.{keeps_by, keeps_look, keeps_then}
use Rattle.nc_state.specs.Holding.{meta_key}
use Rattle.nc_state.specs.Vaults.{ChangesOnlyName}
use Rattle.nc_settle.specs.Views.{Places}
use Rattle.nc_settle.specs.Settling.{ChangesOnlyMetas, lacking_writes, lacks}
use Rattle.nc_settle.proofs.MetaJobs.{at_meta_key}

module _ (name : List ℕ) where
  -- what a stop in a round of writes of m leaves of a cloud
  only_meta : (m : Meta) (o : Option Write) (old left : Store) → ((p : Write) → o ≡ Some p → p.key ≡ meta_key name m) → ImageCloud o old left
      → (place : Key) → ((slot : ℕ) → place ≡ key.Meta name slot → ⊥) → left place ≡ old place
  only_meta m None old left at image place other = ap (λ (s : Store). s place) image
  only_meta m (Some p) old left at image place other = image.others place (λ e. other (generation_of m % 2) (e ∙ at p refl))

  -- and of all of them
  only_metas : (n : ℕ) (v : Places) (m : Meta) (F G : Contents) → Image (lacking_writes n name v m) F G → ChangesOnlyMetas name F G
  only_metas n v m F G image = record {
    others = λ c place other. only_meta m (write_at (lacking_writes n name v m) c) (F c) (G c) (at_meta_key n name m (lacks v m) c) (image.each c) place other;
  }

  -- then no other name changes
  only_this_name : (F G : Contents) → ChangesOnlyMetas name F G → ChangesOnlyName name F G
  only_this_name F G only = record { others = λ c place other. only.others c place (λ slot e. other (ap name_of e)) }

  -- and no chunk
  pub chunk_stays : (F G : Contents) → ChangesOnlyMetas name F G → (c : ℕ) (other : List ℕ) (slot row : ℕ) → G c (key.Chunk other slot row) ≡ F c (key.Chunk other slot row)
  chunk_stays F G only c other slot row = only.others c (key.Chunk other slot row) (λ s e. absurd cc)

-- the states of a fleet: at s before the look, at t after it, at u after the writes
module _ {A : Type 0} (F : FleetGhosts A) (name : List ℕ) {s : A} where
  -- the clouds were only looked at
  pub looked_chunks : {t : A} → F.held t ≡ F.held s → Stops F s t (λ G. G ≡ F.held s) → Keeps F s t (ChangesOnlyMetas name (F.held s))
  looked_chunks same stops = keeps_look (ChangesOnlyMetas name (F.held s)) same stops (record { others = λ c place other. refl })

  -- and then written to
  pub spread_chunks : {t u : A} → F.held t ≡ F.held s → Stops F s t (λ G. G ≡ F.held s) → (n : ℕ) (v : Places) (m : Meta) → Keeps F t u (Image (lacking_writes n name v m) (F.held t))
      → Keeps F s u (ChangesOnlyMetas name (F.held s))
  spread_chunks same stops n v m round =
      keeps_then (looked_chunks same stops)
      (keeps_by (ChangesOnlyMetas name (F.held s)) round
      (λ G image. only_metas name n v m (F.held s) G (subst (λ (H : Contents). Image (lacking_writes n name v m) H G) same image)))

  -- whatever was done, objects of the name alone changed
  pub alone_by : {u : A} → Keeps F s u (ChangesOnlyMetas name (F.held s)) → Keeps F s u (ChangesOnlyName name (F.held s))
  alone_by keeps = keeps_by (ChangesOnlyName name (F.held s)) keeps (only_this_name name (F.held s))
