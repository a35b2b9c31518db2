-- The file that comes back from clouds outside those to be restored.
use Rattle.std.proofs.Common.{◌≡◌, ◌<◌, ◌≤◌, ◌+◌, ◌-◌, ℕ, Option, None, List, set, length-set, ap, ◌∙◌, arith}
use Rattle.nc_cloud.specs.Rounds.{some_row}
use Rattle.nc_cloud.specs.declared.fleet.Fleet.{Ghosts as FleetGhosts}
use Rattle.nc_cloud.proofs.SomeRows.{some_same}
use Rattle.nc_meta.specs.declared.meta.Live.{Live}
use Rattle.nc_state.specs.Clouds.{Clouds}
use Rattle.nc_download.specs.declared.short.Bad.{Bad}
use Rattle.nc_download.specs.declared.short.Why.{Why}
use Rattle.nc_fetch.specs.Reading.{ComesFromUnmarked, TooFewUnmarked}
use Rattle.nc_fetch.specs.Whys.{AreMarkedWith, bad_with, bads, why_at}
use Rattle.nc_fetch.proofs.Growing.{set_more}
use Rattle.nc_restore.specs.Reading.{AreOutside}
use Rattle.nc_restore.specs.Restoring.{AreUntried, ComesFromOutside, TooFewOutside, bads_outside, untried, why_outside}

pub untried_first : (n : ℕ) (P : Clouds) (whys : List (Option Why)) → n ≤ 10 → AreMarkedWith untried 10 P whys → AreUntried n P whys
untried_first n P whys narrow marked = record { each = λ c l. marked.each c (omega (arith, l, narrow)) }

-- ---- the list of bad clouds

pub outside_more : (P : Clouds) (whys table : List (Option Why)) (k : ℕ) (why : Option Why) → k < 10 → AreOutside P whys k table → why ≡ why_outside P whys k → AreOutside P whys (k + 1) (set table k why)
outside_more P whys table k why low are is = record { long = length-set table k why ∙ are.long; each = set_more None (why_outside P whys) k table why (omega (arith, low, are.long)) are.each is }

pub outside_listed : (P : Clouds) (whys table : List (Option Why)) (n : ℕ) → n ≤ 10 → AreOutside P whys 10 table → bads table 0 n ≡ bads_outside P whys n
outside_listed P whys table n narrow are =
    let whole : n - 0 ≡ n = omega arith in
    ap (some_row (λ c. bad_with c (why_at table c)) 0) whole
    ∙ some_same (λ c. bad_with c (why_at table c)) (λ c. bad_with c (why_outside P whys c)) 0 n (λ c low high. ap (bad_with c) (are.each c (omega (arith, high, narrow))))

-- ---- the file

module _ {A : Type 0} (F : FleetGhosts A) (name : List ℕ) (m : Live) (old new : A) (P : Clouds) (before whys : List (Option Why)) (marked : AreUntried (F.clouds old) P before) where
  pub comes_outside : (file : List ℕ) → ComesFromUnmarked F name m old new before whys file → ComesFromOutside F name m old new P file
  comes_outside file comes = record {
    before = before;
    marked = marked;
    whys = whys;
    up_to = comes.up_to;
    within = comes.within;
    tried = comes.tried;
    alone = comes.alone;
    enough = comes.enough;
    long = comes.long;
    is_file = comes.is_file;
  }

  pub too_few_outside : (list : List Bad) → TooFewUnmarked F name m old new before whys → list ≡ bads_outside P whys (F.clouds old) → TooFewOutside F name m old new P list
  too_few_outside list few listed = record { before = before; marked = marked; whys = whys; tried = few.tried; alone = few.alone; few = few.few; listed = listed }
