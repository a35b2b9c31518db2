-- What was read from the clouds that weren't marked, where those were marked that had failed.
use Rattle.std.proofs.Common.{◌≡◌, ◌≤◌, ℕ, Option, List, arith}
use Rattle.nc_cloud.specs.declared.fleet.Fleet.{Ghosts as FleetGhosts}
use Rattle.nc_meta.specs.declared.meta.Live.{Live}
use Rattle.nc_state.specs.Clouds.{Clouds}
use Rattle.nc_download.specs.declared.short.Bad.{Bad}
use Rattle.nc_download.specs.declared.short.Why.{Why}
use Rattle.nc_download.specs.declared.short.Why.TheVariants.{Failed}
use Rattle.nc_fetch.specs.Parts.{AreMarkedFailed, ComesBackFrom, TooFewServe}
use Rattle.nc_fetch.specs.Reading.{ComesFromUnmarked, TooFewUnmarked}
use Rattle.nc_fetch.specs.Whys.{AreMarkedWith, bads}

pub failed_first : (n : ℕ) (P : Clouds) (whys : List (Option Why)) → n ≤ 10 → AreMarkedWith Failed 10 P whys → AreMarkedFailed n P whys
failed_first n P whys narrow marked = record { each = λ c l. marked.each c (omega (arith, l, narrow)) }

module _ {A : Type 0} (F : FleetGhosts A) (name : List ℕ) (m : Live) (old new : A) (P : Clouds) (before whys : List (Option Why)) (marked : AreMarkedFailed (F.clouds old) P before) where
  pub comes_from : (part : List ℕ) → ComesFromUnmarked F name m old new before whys part → ComesBackFrom F name m old new P part
  comes_from part comes = record {
    before = before;
    marked = marked;
    whys = whys;
    up_to = comes.up_to;
    within = comes.within;
    tried = comes.tried;
    alone = comes.alone;
    enough = comes.enough;
    needed = comes.needed;
    long = comes.long;
    is_file = comes.is_file;
  }

  pub too_few : (list : List Bad) → TooFewUnmarked F name m old new before whys → list ≡ bads whys 0 (F.clouds old) → TooFewServe F name m old new P list
  too_few list few listed = record { before = before; marked = marked; whys = whys; tried = few.tried; alone = few.alone; few = few.few; listed = listed }
