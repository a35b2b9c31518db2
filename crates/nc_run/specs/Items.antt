-- What a run is asked to do, one thing after the other.
use Rattle.std.specs.Prelude.{ℕ, ◌≡◌, ◌==◌, Bool, true, false, Option, None, Some, List, [], ◌∷◌, map, if◌then◌else◌}
use Rattle.nc_words.specs.declared.act.Command.{Command}
use Rattle.nc_words.specs.declared.act.Command.TheVariants.{Act, Batch, Mill}
use Rattle.nc_words.specs.declared.act.Request.{Request}
use Rattle.nc_words.specs.declared.setting.Setting.{Setting}
use Rattle.nc_words.specs.Acts.{Task, task_of}
use Rattle.nc_words.specs.Lines.{IsOutside, LineAsks}
use Rattle.nc_run.specs.Turns.{Turn}

-- ---- lines

-- the line that a byte stands before
abbrev pub onto : ℕ → List (List ℕ) → List (List ℕ)
onto b [] = (b ∷ []) ∷ []
onto b (line ∷ lines) = (b ∷ line) ∷ lines

-- the lines of a text: each ends at a line feed, the last one also at the end
abbrev pub lines_of : List ℕ → List (List ℕ)
lines_of [] = []
lines_of (b ∷ bytes) = if b == 10 then [] ∷ lines_of bytes else onto b (lines_of bytes)

-- ---- items

-- one thing to do: a task, or what a line of a batch asks for
pub data Item : Type 0 where
  Alone : Task → Item
  InLine : Setting → List ℕ → Item

abbrev pub is_batch : Command → Bool
is_batch Batch = true
is_batch other = false

-- the commands that do acts on the clouds
abbrev pub does_acts : Command → Bool
does_acts (Mill number) = false
does_acts other = true

-- what is to be done, in this order; a mill does nothing to the clouds
abbrev pub items_by : Setting → Command → List ℕ → List Item
items_by s (Act a) input = Alone (task_of s a input) ∷ []
items_by s Batch input = map (InLine s) (lines_of input)
items_by s (Mill number) input = []

abbrev pub items_of : Request → List ℕ → List Item
items_of r input = items_by r.setting r.command input

-- the item asks n clouds for this task
abbrev pub Wants : ℕ → Item → Task → Type 0
Wants n (Alone own) task = task ≡ own
Wants n (InLine s line) task = (task.setting ≡ s) × LineAsks n line task.act task.bytes

-- the turns do what the first items ask for, and these are left
abbrev pub Fit : {A : Type 0} → ℕ → List Item → List (Turn A) → List Item → Type 0
Fit n items [] left = left ≡ items
Fit n [] (t ∷ ts) left = ⊥
Fit n (i ∷ is) (t ∷ ts) left = Wants n i t.task × Fit n is ts left

-- and another turn does what the next item asks for
abbrev pub FitsNext : {A : Type 0} → ℕ → List Item → Option (Turn A) → Type 0
FitsNext n left None = Unit {0}
FitsNext n [] (Some t) = ⊥
FitsNext n (i ∷ is) (Some t) = Wants n i t.task

-- the next item is a line
abbrev pub NextIsLine : List Item → Type 0
NextIsLine (InLine s line ∷ is) = Unit {0}
NextIsLine other = ⊥

-- the next item is a line that asks for nothing
abbrev pub NextAsksNothing : ℕ → List Item → Type 0
NextAsksNothing n (InLine s line ∷ is) = IsOutside n line
NextAsksNothing n other = ⊥
