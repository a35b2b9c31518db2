-- What is asked of a vault.
use Rattle.std.specs.Prelude.{ℕ, ◌≢◌, ◌<◌, ◌==◌, ◌||◌, Bool, true, false, Option, None, Some, List}
use Rattle.nc_words.specs.declared.act.Act.{Act}
use Rattle.nc_words.specs.declared.act.Act.TheVariants as act
use Rattle.nc_words.specs.declared.setting.Setting.{Setting}

-- an act, what was chosen for it, and the bytes that a put stores
pub record Task : Type 0 where
  pub setting : Setting
  pub act : Act
  pub bytes : List ℕ

abbrev pub task_of : Setting → Act → List ℕ → Task
task_of s a bytes = record { setting = s; act = a; bytes = bytes }

-- the name that an act is about, where it is about one
abbrev pub subject : Act → Option (List ℕ)
subject (act.Put name) = Some name
subject (act.Get name) = Some name
subject (act.Remove name) = Some name
subject (act.Stat name) = Some name
subject act.List = None
subject (act.Repair cloud) = None
subject (act.Restore first second) = None
subject act.Scrub = None
subject act.Recover = None

-- the acts that write objects of all names that stand on clouds, one after the other
abbrev pub sweeps : Act → Bool
sweeps (act.Repair cloud) = true
sweeps (act.Restore first second) = true
sweeps act.Recover = true
sweeps other = false

-- the clouds that an act makes whole: once it is done they are damaged no more
abbrev pub heals : Act → ℕ → Bool
heals (act.Repair cloud) c = c == cloud
heals (act.Restore first None) c = c == first
heals (act.Restore first (Some second)) c = c == first || c == second
heals other c = false

-- the clouds that it makes whole are among n, and two of them differ
abbrev pub FitsWidth : ℕ → Act → Type 0
FitsWidth n (act.Repair cloud) = cloud < n
FitsWidth n (act.Restore first None) = first < n
FitsWidth n (act.Restore first (Some second)) = (first < n) × (second < n) × (second ≢ first)
FitsWidth n other = Unit {0}
