use Rattle.std.proofs.Common.{◌≡◌, ◌∙◌, ap, List, ℕ, refl}
use Rattle.nc_code.specs.Parts.{CodeParts}
use Rattle.nc_search.specs.Starts.{start_code}
use Rattle.nc_bench.proofs.mixing.code_of.Goals as goal

start_width : (width : ℕ) (block : List ℕ) → (start_code width block).width ≡ width
unfolding start_code
start_width width block = refl

pub returns-in-Found-clause-width : goal.returns-in-Found-clause-width
returns-in-Found-clause-width c =
    ap (λ (k : CodeParts). k.width) (c.code.ensures.code ∙ c.in-Found.ensures.gives.code) ∙ start_width _ _
