-- What clouds hold of a file, and a restore says of its name, where the objects of the name are the same.
use Rattle.std.proofs.Common.{◌≡◌, ℕ, Option, None, Some, List, refl, sym, ◌∙◌}
use Rattle.nc_name.specs.declared.key.Key.{Key}
use Rattle.nc_name.specs.declared.key.Key.TheVariants as key
use Rattle.nc_meta.specs.declared.meta.Meta.{Meta}
use Rattle.nc_meta.specs.declared.meta.Meta.TheVariants as meta
use Rattle.nc_cloud.specs.Contents.{Contents}
use Rattle.nc_state.specs.Clouds.{Clouds}
use Rattle.nc_download.specs.declared.short.Bad.{Bad}
use Rattle.nc_fetch.specs.Whys.{why_at}
use Rattle.nc_vault.specs.declared.fault.Fault.{Fault}
use Rattle.nc_vault.specs.declared.fault.Fault.TheVariants as fault
use Rattle.nc_vault.specs.Saying.{IsBadOf, IsShortFile, IsUnsoundFile, RestoreRefuses, RestoresName}
use Rattle.nc_vault.proofs.ChunksStay.{bad_there, tells_there}
use Rattle.nc_vault.proofs.SameName.{SameObjects, agreed_there, disputed_there, least_misplaced_there, nothing_misplaced_there, settled_there}

module _ (n : ℕ) (F G : Contents) (name : List ℕ) (same : SameObjects F G name) where
  chunk_there : (c slot row : ℕ) → F c (key.Chunk name slot row) ≡ G c (key.Chunk name slot row)
  chunk_there c slot row = sym (same c (key.Chunk name slot row) refl)

  bad_of_there : (P : Clouds) (top : Option Meta) (c : ℕ) (place : Key) → IsBadOf n P name top F c place → IsBadOf n P name top G c place
  bad_of_there P None c place is = absurd is
  bad_of_there P (Some (meta.Gone generation)) c place is = absurd is
  bad_of_there P (Some (meta.Live m)) c place is = bad_there n name m G F chunk_there P c place is

  unsound_there : (a b : ℕ) → IsUnsoundFile n name F a b → IsUnsoundFile n name G a b
  unsound_there a b is = record { old = is.old; agreed = agreed_there n F G name same (Some (meta.Live is.old)) is.agreed; kernel = is.kernel; first = is.first }

  module _ (P : Clouds) where
    short_there : (bads : List Bad) → IsShortFile n P name F bads → IsShortFile n P name G bads
    short_there bads is = record {
      old = is.old;
      agreed = agreed_there n F G name same (Some (meta.Live is.old)) is.agreed;
      sound = is.sound;
      cloud = is.cloud;
      place = is.place;
      bad = bad_there n name is.old G F chunk_there P is.cloud is.place is.bad;
      whys = is.whys;
      tells = λ c within outside. tells_there n name is.old G F chunk_there c (why_at is.whys c) (is.tells c within outside);
      few = is.few;
      listed = is.listed;
    }

    -- ---- a restore that came to the name at F, or to the same objects at G

    pub restore_refuses_there : (f : Fault) → RestoreRefuses n P name F f → RestoreRefuses n P name G f
    restore_refuses_there fault.NoFile is = is
    restore_refuses_there (fault.Cloud c) is = tt
    restore_refuses_there (fault.Damaged c r how) is = is
    restore_refuses_there (fault.Short bads) is = short_there bads is
    restore_refuses_there (fault.Conflict g a b) is = (nothing_misplaced_there n F G name same is.0, disputed_there n F G name same g a b is.1)
    restore_refuses_there (fault.Misplaced c a b) is = least_misplaced_there n F G name same c a b is
    restore_refuses_there (fault.Unsound a b) is = unsound_there a b is
    restore_refuses_there fault.Worn is = is
    restore_refuses_there (fault.Spent tried) is = is
    restore_refuses_there fault.Memory is = tt

    module _ (H : Contents) where
      pub restores_from : RestoresName n P name F H → RestoresName n P name G H
      restores_from is = record {
        top = is.top;
        agreed = agreed_there n F G name same is.top is.agreed;
        settled = is.settled;
        sound = is.sound;
        kept = λ c slot row good.
            is.kept c slot row (λ bad. good (bad_of_there P is.top c (key.Chunk name slot row) bad))
            ∙ sym (same c (key.Chunk name slot row) refl);
      }

      -- the same, where F and G are what it left
      pub restores_to : RestoresName n P name H F → RestoresName n P name H G
      restores_to is = record {
        top = is.top;
        agreed = is.agreed;
        settled = settled_there n F G name same is.top is.settled;
        sound = is.sound;
        kept = λ c slot row good. same c (key.Chunk name slot row) refl ∙ is.kept c slot row good;
      }
