-- What an act makes of a name.
use Rattle.std.specs.Prelude.{ℕ, ◌≡◌, ◌<◌, ◌≤◌, ◌+◌, ◌-◌, ◌^◌, Bool, true, false, Option, Some, List}
use Rattle.std.specs.Option.{option_map}
use Rattle.nc_code.specs.Good.{IsGood, plan_of}
use Rattle.nc_code.specs.Parts.{PlanParts}
use Rattle.nc_meta.specs.declared.meta.Live.{Live}
use Rattle.nc_meta.specs.declared.meta.Meta.{Meta}
use Rattle.nc_meta.specs.declared.meta.Meta.TheVariants as meta
use Rattle.nc_nextloss.specs.GoodCodes.{GoodParts}
use Rattle.nc_repair.specs.Mending.{IsRepaired}
use Rattle.nc_search.specs.Searches.{IsMend, IsStart, NoMend, NoStart}
use Rattle.nc_search.specs.Stream.{draw_key}
use Rattle.nc_state.specs.Holding.{top_generation}
use Rattle.nc_state.specs.Versions.{Version, is_stored, meta_of, version_generation}
use Rattle.nc_state.specs.Versions.Version.{Stored}
use Rattle.nc_write.specs.Putting.{IsPutBy}
use Rattle.nc_write.specs.Removing.{IsRemoval}
use Rattle.nc_words.specs.declared.act.Act.{Act}
use Rattle.nc_words.specs.declared.act.Act.TheVariants as act
use Rattle.nc_words.specs.declared.setting.Setting.{Setting}
use Rattle.nc_words.specs.Acts.{Task}
use Rattle.nc_vault.specs.declared.fault.Fault.{Fault}
use Rattle.nc_vault.specs.declared.fault.Fault.TheVariants as fault

-- the generations of the name are used up
abbrev pub HasNoNext : Version → Type 0
HasNoNext x = 2 ^ 64 - 2 ≤ version_generation x

-- there is a generation after that of x
abbrev pub HasNext : Version → Type 0
HasNext x = version_generation x < 2 ^ 64 - 2

-- what the codes of the version after this metadata are drawn with
abbrev pub next_key : Setting → List ℕ → Option Meta → List ℕ
next_key s name top = draw_key s.seed name (top_generation top + 1)

-- y is the file v, stored after x by the first good code that is drawn for it
pub record IsPut (n : ℕ) (s : Setting) (name v : List ℕ) (x y : Version) : Type 0 where
  pub index : ℕ
  pub good : GoodParts
  pub drawn : IsStart n (next_key s name (meta_of x)) s.budget index good
  pub made : IsPutBy n good v x y

-- the plan that metadata has for the loss of cloud i, if any
abbrev pub stored_plan : Live → ℕ → Option PlanParts
stored_plan m i = option_map (λ w. plan_of w i) m.witnesses

-- y is the file x after the repair of cloud i, by the first good code that is drawn for it, which has a witness for each next loss
pub record IsRepair (n : ℕ) (s : Setting) (i : ℕ) (name : List ℕ) (x y : Version) : Type 0 where
  pub old : Live
  pub top : meta_of x ≡ Some (meta.Live old)
  pub index : ℕ
  pub plan : PlanParts
  pub good : GoodParts
  pub drawn : IsMend old.code (stored_plan old i) i (next_key s name (meta_of x)) s.budget index plan good
  pub is_good : IsGood good.code good.witnesses
  pub made : IsRepaired n i good x y

-- the act makes the version y of the version x of a name
abbrev pub MakesBy : ℕ → Task → Act → List ℕ → Version → Version → Type 0
MakesBy n task (act.Put own) name x y = IsPut n task.setting name task.bytes x y
MakesBy n task (act.Remove own) name x y = IsRemoval n x y
MakesBy n task (act.Repair i) name x y = IsRepair n task.setting i name x y
MakesBy n task other name x y = ⊥

abbrev pub Makes : ℕ → Task → List ℕ → Version → Version → Type 0
Makes n task name x y = MakesBy n task task.act name x y

-- once the act is done, a name that was at x is at z: at what a put, a removal or the repair of a file makes of x, else still at x
abbrev pub BringsBy : ℕ → Task → Act → List ℕ → Version → Version → Type 0
BringsBy n task (act.Put own) name x z = MakesBy n task (act.Put own) name x z
BringsBy n task (act.Remove own) name x z = MakesBy n task (act.Remove own) name x z
BringsBy n task (act.Repair i) name (Stored old v) z = MakesBy n task (act.Repair i) name (Stored old v) z
BringsBy n task other name x z = z ≡ x

abbrev pub Brings : ℕ → Task → List ℕ → Version → Version → Type 0
Brings n task name x z = BringsBy n task task.act name x z

-- none of the candidates that may be looked at is good
abbrev pub NoCandidate : ℕ → Setting → Act → List ℕ → Version → Type 0
NoCandidate n s (act.Put own) name x = NoStart n (next_key s name (meta_of x)) s.budget
NoCandidate n s (act.Repair i) name (Stored old v) = NoMend old.code (stored_plan old i) i (next_key s name (Some (meta.Live old))) s.budget
NoCandidate n s other name x = ⊥

-- the act would make a new version of x
abbrev pub renews : Act → Version → Bool
renews (act.Put own) x = true
renews (act.Remove own) x = is_stored x
renews (act.Repair i) x = is_stored x
renews other x = false

-- this keeps the act from being done with a name at x: it has no file, its generations are used up, or no candidate is good
abbrev pub Prevents : ℕ → Task → List ℕ → Version → Fault → Type 0
Prevents n task name x fault.NoFile = (task.act ≡ act.Remove name) × (is_stored x ≡ false)
Prevents n task name x fault.Worn = (renews task.act x ≡ true) × HasNoNext x
Prevents n task name x (fault.Spent tried) = (tried ≡ task.setting.budget) × HasNext x × NoCandidate n task.setting task.act name x
Prevents n task name x other = ⊥
