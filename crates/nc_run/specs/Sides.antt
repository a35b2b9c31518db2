-- What a run works on, and what it takes of its input.
use Rattle.std.specs.Prelude.{ℕ, ◌≡◌, ◌≤◌, Bool, true, false, List, [], Ok}
use Rattle.std.specs.declared.result.Result.{Result}
use Rattle.nc_stream.specs.declared.input.InputFault.{InputFault}
use Rattle.nc_stream.specs.declared.source.Source.{Ghosts as SourceGhosts}
use Rattle.nc_stream.specs.Input.{FailsBy, Reads}
use Rattle.nc_words.specs.declared.act.Act.TheVariants as act
use Rattle.nc_words.specs.declared.act.Command.{Command}
use Rattle.nc_words.specs.declared.act.Command.TheVariants.{Act, Batch}

-- a number of clouds that files are spread over
abbrev pub IsWide : ℕ → Type 0
IsWide n = (4 ≤ n) × (n ≤ 10)

-- the clouds, the input and the output of a run
pub record Sides (A B C : Type 0) : Type 0 where
  pub fleet : A
  pub source : B
  pub out : C

abbrev pub sides : {A B C : Type 0} → A → B → C → Sides A B C
sides fleet source out = record { fleet = fleet; source = source; out = out }

-- the commands that read the input
abbrev pub reads_input : Command → Bool
reads_input (Act (act.Put name)) = true
reads_input Batch = true
reads_input other = false

-- the input was read to its end, or wasn't, for this cause
pub record TakesInput {B : Type 0} (S : SourceGhosts B) (old new : B) (result : Result (List ℕ) InputFault) : Type 0 where
  pub reads : Reads (S.left old) (S.left new) result
  pub fails : FailsBy S.counts_exactly (S.faults old) (S.faults new) result

-- the same where the command reads the input, else it is left alone
abbrev pub TakesIf : {B : Type 0} → Bool → SourceGhosts B → B → B → Result (List ℕ) InputFault → Type 0
TakesIf true S old new result = TakesInput S old new result
TakesIf false S old new result = (result ≡ Ok []) × (new ≡ old)
