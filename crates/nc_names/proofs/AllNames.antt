-- Where no list failed, the names are all that there are.
use Rattle.std.proofs.Common.{◌≡◌, ◌<◌, ℕ, false, List}
use Rattle.nc_cloud.specs.Contents.{Contents}
use Rattle.nc_state.specs.Clouds.{Clouds}
use Rattle.nc_state.specs.Standing.{AreNames}
use Rattle.nc_names.specs.Listing.{AreNamesOutside}

pub all_names : (n : ℕ) (F : Contents) (X : Clouds) (names : List (List ℕ)) → ((c : ℕ) → c < n → X c ≡ false) → AreNamesOutside n F X names → AreNames n F names
all_names n F X names none are = record {
  all = λ c place l there. are.all c place l (none c l) there;
  only = are.only;
  sorted = are.sorted;
}
