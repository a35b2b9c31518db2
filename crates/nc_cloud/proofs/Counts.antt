-- Counts of failures over several rounds.
use Rattle.std.proofs.Common.{◌≡◌, ◌≤◌, ◌∙◌, ℕ, arith}
use Rattle.nc_cloud.specs.Contents.{Grows, Rose}
use Rattle.nc_cloud.specs.Deciding.{HasCause}
use Rattle.nc_cloud.specs.declared.deciding.RoundFault.{RoundFault}
use Rattle.nc_cloud.specs.declared.deciding.RoundFault.TheVariants.{Cloud, Memory}

-- counts that grew and then rose have risen
pub rose_more : (a b c : ℕ) → a ≤ b → Rose b c → Rose a c
rose_more a b c low rose = omega (arith, low, rose)

-- the cause of a round is that of all, where no count changed before it
pub later_round : (exact : Type 0) (before mid now : ℕ → ℕ) → Grows before mid → (exact → (c : ℕ) → mid c ≡ before c) → (fault : RoundFault) → HasCause exact mid now fault → HasCause exact before now fault
later_round exact before mid now grows clean (Cloud c) is =
    let low : before c ≤ mid c = grows c in
    (rose_more (before c) (mid c) (now c) low is.0, λ told d below. is.1 told d below ∙ clean told d)
later_round exact before mid now grows clean Memory is = tt
