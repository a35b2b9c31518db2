-- The code that is drawn for a file.
use Rattle.std.proofs.Common.{◌≡◌, ℕ, List, refl, ap, ◌∙◌}
use Rattle.nc_code.specs.Parts.{CodeParts}
use Rattle.nc_nextloss.specs.GoodCodes.{GoodParts}
use Rattle.nc_search.specs.Searches.{IsStart}
use Rattle.nc_search.specs.Starts.{start_block, start_code}

start_width : (n : ℕ) (block : List ℕ) → (start_code n block).width ≡ n
unfolding start_code
start_width n block = refl

-- it is for so many clouds
pub width_is : (n : ℕ) (key : List ℕ) (budget index : ℕ) (good : GoodParts) → IsStart n key budget index good → good.code.width ≡ n
width_is n key budget index good is = ap (λ (k : CodeParts). k.width) is.gives.code ∙ start_width n (start_block n key index)
