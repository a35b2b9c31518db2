-- What a repair asks the survivors for, and what they hold.
use Rattle.std.specs.Prelude.{ℕ, ◌≡◌, ◌-◌, List, All, map}
use Rattle.nc_name.specs.declared.key.Key.{Key}
use Rattle.nc_code.specs.Parts.{PlanParts}
use Rattle.nc_cloud.specs.declared.fleet.Ask.{Ask}
use Rattle.nc_cloud.specs.Contents.{Contents}
use Rattle.nc_cloud.specs.Fleet.{Answers, asked}
use Rattle.nc_cloud.specs.Rounds.{row}
use Rattle.nc_meta.specs.declared.meta.Live.{Live}
use Rattle.nc_download.specs.declared.judging.Wanted.{Wanted}
use Rattle.nc_download.specs.Chunks.{ask_of, wanted_of}
use Rattle.nc_mix.specs.Regenerating.{survivor}
use Rattle.nc_repair.specs.Survivors.{chosen_row}

-- the chunk that the plan takes from cloud t
abbrev pub chosen_of : ℕ → List ℕ → Live → PlanParts → ℕ → Wanted
chosen_of n name m plan t = wanted_of n name m (chosen_row plan t) t

-- the ask of the survivor at position k for it
abbrev pub survivor_ask : ℕ → List ℕ → Live → PlanParts → ℕ → ℕ → ℕ × Key × ℕ
survivor_ask n name m plan lost k = ask_of (chosen_of n name m plan (survivor lost k))

-- one for each survivor, in order
pub record AreSurvivorAsks (n : ℕ) (name : List ℕ) (m : Live) (plan : PlanParts) (lost : ℕ) (asks : List Ask) : Type 0 where
  pub are : map asked asks ≡ row (survivor_ask n name m plan lost) 0 (n - 1)

-- the answers are what the clouds hold
abbrev pub AreAnswers : List Ask → Contents → Type 0
AreAnswers asks F = All (λ a. Answers a (F a.cloud a.key)) asks
