-- What a finding answers.
use Rattle.std.proofs.Common.{ℕ, List, arith, Ok, Err}
use Rattle.nc_name.specs.Names.{IsName}
use Rattle.nc_cloud.specs.declared.fleet.Fleet.{Ghosts as FleetGhosts}
use Rattle.nc_meta.specs.declared.meta.Live.{Live as LiveMeta}
use Rattle.nc_meta.specs.declared.meta.Meta.TheVariants.{Live}
use Rattle.nc_meta.specs.Metas.{IsLive}
use Rattle.nc_state.specs.Clouds.{Clouds}
use Rattle.nc_settle.specs.Views.{Places}
use Rattle.nc_settle.specs.Looking.{HasMetas, HasWidth}
use Rattle.nc_settle.specs.Failing.{fails}
use Rattle.nc_settle.proofs.Failures.{failing_has}
use Rattle.nc_settle.proofs.Seen.{meta_fits}
use Rattle.nc_download.specs.declared.fault.FetchFault.{FetchFault}
use Rattle.nc_download.specs.declared.fault.FetchFault.TheVariants.{Memory}
use Rattle.nc_download.specs.Seeing.{Refuses, Shows}
use Rattle.nc_download.specs.Finding.{Finds, FindShows, HasRisen, SeenNow}
use Rattle.nc_download.specs.FindingOnVaults.{HasAll}
use Rattle.nc_download.proofs.ViewLaws.{file_shown, refusal_shown}

-- the metadata that a view shows is one of its width
pub shown_fits : (n : ℕ) (v : Places) (m : LiveMeta) → HasWidth n v → HasMetas n v → Shows v m → IsLive n m
shown_fits n v m width metas shows = meta_fits n v metas shows.cloud (Live m) (omega (arith, width.first, shows.top.in_width)) shows.top.has

module _ {A : Type 0} (F : FleetGhosts A) (name : List ℕ) (old new : A) where
  pub refused_finds : (fault : FetchFault) → SeenNow F name old new (λ v. Refuses v fault) → Finds F name old new (Err fault)
  refused_finds Memory seen = tt
  refused_finds other seen = seen

  module _ (valid : IsName name) (told : F.tells) where
    failed_risen : (Says : Places → Type 0) (seen : SeenNow F name old new Says) (X : Clouds) → HasRisen F old new X → HasAll (F.clouds old) (fails seen.view) X
    failed_risen Says seen X risen = record {
      each = λ c l failed.
          let has = failing_has seen.view c failed in
          risen.each c l (seen.rose.each c has.slot l has.in_pair has.failed);
    }

    pub found_shows : (live : LiveMeta) → SeenNow F name old new (λ v. Shows v live) → FindShows F name old new (Ok live)
    found_shows live seen = record {
      each = λ X risen. record {
        each = λ S D stands.
            file_shown (F.clouds old) name (F.held old) seen.view valid (seen.sees told) seen.width S D X stands (failed_risen (λ v. Shows v live) seen X risen) live seen.shown;
      };
    }

    pub refused_shows : (fault : FetchFault) → SeenNow F name old new (λ v. Refuses v fault) → FindShows F name old new (Err fault)
    refused_shows fault seen = record {
      each = λ X risen. record {
        each = λ S D stands.
            refusal_shown (F.clouds old) name (F.held old) seen.view valid (seen.sees told) seen.width S D X stands (failed_risen (λ v. Refuses v fault) seen X risen) fault seen.shown;
      };
    }
