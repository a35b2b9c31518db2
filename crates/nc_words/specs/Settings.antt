-- What may be chosen for a run.
use Rattle.std.specs.Prelude.{◌≤◌, replicate}
use Rattle.nc_words.specs.declared.setting.Setting.{Setting}

-- where nothing is chosen
abbrev pub standard : Setting
standard = record { seed = replicate 32 0; budget = 64; workers = 1 }

-- the numbers are in their ranges
pub record IsSetting (s : Setting) : Type 0 where
  pub some_candidates : 1 ≤ s.budget
  pub few_candidates : s.budget ≤ 4096
  pub some_workers : 1 ≤ s.workers
  pub few_workers : s.workers ≤ 16
