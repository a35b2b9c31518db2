-- A vector that shows dependent rows refutes that the code is MDS.
use Rattle.std.proofs.Common.{ℕ, List}
use Rattle.nc_code.specs.Parts.{CodeParts}
use Rattle.nc_code.specs.Codes.{IsPairMds, IsMds}
use Rattle.nc_mds.specs.Verdicts.{ShowsDependent, IsFirstPair}

pub shown_dependent : (code : CodeParts) (a b : ℕ) (v : List ℕ) → ShowsDependent code a b v → IsPairMds code a b → ⊥
shown_dependent code a b v s mds = s.not_zero (mds.free.only_zeros v s.bytes s.sent s.place s.within)

pub first_not_mds : (code : CodeParts) (a b : ℕ) (v : List ℕ) → IsFirstPair code a b v → IsMds code → ⊥
first_not_mds code a b v f mds = shown_dependent code a b v f.first.shown (mds a b f.first.less f.first.in_width)
