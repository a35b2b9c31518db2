-- What a command that writes does.
use Rattle.std.specs.Prelude.{ℕ, ◌≡◌, ◌-◌, ◌^◌, Option, Some, List, Result, Ok, Err}
use Rattle.nc_meta.specs.declared.meta.Meta.{Meta}
use Rattle.nc_meta.specs.declared.meta.Meta.TheVariants as meta
use Rattle.nc_nextloss.specs.GoodCodes.{GoodParts}
use Rattle.nc_cloud.specs.declared.deciding.RoundFault.{RoundFault}
use Rattle.nc_cloud.specs.declared.deciding.RoundFault.TheVariants as round
use Rattle.nc_cloud.specs.declared.fleet.Fleet.{Ghosts as FleetGhosts}
use Rattle.nc_cloud.specs.Contents.{Write}
use Rattle.nc_cloud.specs.Deciding.{IsFirstToRise}
use Rattle.nc_settle.specs.declared.settled.Settled.{Settled}
use Rattle.nc_state.specs.Holding.{top_generation}
use Rattle.nc_write.specs.declared.fault.WriteFault.{WriteFault}
use Rattle.nc_write.specs.declared.fault.WriteFault.TheVariants as fault
use Rattle.nc_write.specs.declared.sealing.VersionWrites.{VersionWrites}
use Rattle.nc_write.specs.InTurn.{WroteInTurn, rounds_of}
use Rattle.nc_write.specs.Putting.{IsPutOf}

-- after this metadata there is no generation
abbrev pub IsWorn : Option Meta → Type 0
IsWorn top = top_generation top ≡ 2 ^ 64 - 2

-- the answer of a command whose rounds were answered so, which writes this metadata
abbrev pub answer_by : Meta → Result (Unit {0}) RoundFault → Result Settled WriteFault
answer_by m (Ok done) = Ok (record { top = Some m })
answer_by m (Err (round.Cloud c)) = Err (fault.Cloud c)
answer_by m (Err round.Memory) = Err fault.Memory

-- A command that writes after this metadata: no generation was left, or no memory was found for its writes, and nothing was
-- done; or its writes were prepared, rounds whose last writes this metadata, and then made in turn.
pub data WriteDid {A : Type 0} (F : FleetGhosts A) (top : Option Meta) (Prepares : Meta → List (List Write) → Type 0) (old new : A) (result : Result Settled WriteFault) : Type 0 where
  was_worn : IsWorn top → new ≡ old → result ≡ Err fault.Worn → WriteDid F top Prepares old new result
  unprepared : (IsWorn top → ⊥) → new ≡ old → result ≡ Err fault.Memory → WriteDid F top Prepares old new result
  in_turn : (IsWorn top → ⊥) → (m : Meta) (rounds : List (List Write)) (answer : Result (Unit {0}) RoundFault) → Prepares m rounds → WroteInTurn F rounds old new answer
      → result ≡ answer_by m answer → WriteDid F top Prepares old new result

-- the rounds of a put of the file v after this metadata, by this code
pub record PreparesPut (n : ℕ) (name : List ℕ) (top : Option Meta) (good : GoodParts) (v : List ℕ) (m : Meta) (rounds : List (List Write)) : Type 0 where
  pub version : VersionWrites
  pub of : IsPutOf n name top good v version
  pub is_meta : m ≡ meta.Live version.live
  pub are_rounds : rounds ≡ rounds_of version

-- why a command that writes wasn't done
abbrev pub HasWriteCause : Type 0 → (ℕ → ℕ) → (ℕ → ℕ) → WriteFault → Type 0
HasWriteCause exact before now (fault.Cloud c) = IsFirstToRise exact before now c
HasWriteCause exact before now fault.Worn = Unit {0}
HasWriteCause exact before now fault.Memory = Unit {0}
