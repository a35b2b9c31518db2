-- What a get of a mill gives, and why it stops.
use Rattle.std.proofs.Common.{◌≡◌, ◌+◌, ◌≤◌, ◌||◌, ℕ, zero, suc, Bool, true, false, if◌then◌else◌, Option, List, [], refl, sym, ap₂, subst}
use Rattle.nc_state.specs.Clouds.{Clouds, count_of}
use Rattle.nc_state.specs.Entries.{Entry}
use Rattle.nc_state.specs.Showing.{AreBearable, ReadsAs, together}
use Rattle.nc_state.specs.Versions.Version.{Stored}
use Rattle.nc_words.specs.declared.act.Act.TheVariants as act
use Rattle.nc_words.specs.Acts.{Task, task_of}
use Rattle.nc_vault.specs.Acting.{Acted}
use Rattle.nc_vault.specs.Counting.{failing_in}
use Rattle.nc_vault.specs.Replies.{RepliesWith}
use Rattle.nc_vault.specs.Showing.{ReadsFile, ReadsNone}
use Rattle.nc_vault.specs.declared.fault.Fault.{Fault}
use Rattle.nc_vault.specs.declared.fault.Fault.TheVariants as fault
use Rattle.nc_vault.specs.declared.reply.Reply.{Reply}
use Rattle.nc_vault.specs.declared.reply.Reply.TheVariants as reply
use Rattle.nc_history.specs.Values.{GetIsAnswered}
use Rattle.nc_history.proofs.GetLaws.{nothing_else_stops_get}
use Rattle.nc_mill.specs.declared.job.Job.{Job}
use Rattle.nc_mill.specs.declared.sure.Sure.{Sure}
use Rattle.nc_mill.specs.Ends.{GetEnds, MayGive}
use Rattle.nc_mill.specs.Mills.{mill_name}
use Rattle.nc_mill.specs.Stages.{KeepsFile}
use Rattle.nc_mill.specs.Sures.{count_in, held_by, sure_clouds}
use Rattle.nc_mill.proofs.ActLaws.{fails_not, none_fails, replied}

-- ---- where no cloud fails, the damaged ones are bearable

or_none : (a b : Bool) → b ≡ false → (a || b) ≡ a
or_none true b none = refl
or_none false b none = none

same_count : (n : ℕ) (D E : Clouds) → ((c : ℕ) → D c ≡ E c) → count_of n D ≡ count_of n E
same_count zero D E same = refl
same_count (suc n) D E same = ap₂ (λ b rest. (if b then 1 else 0) + rest) (same n) (same_count n D E same)

module _ (job : Job) (old new : Sure) (width : count_in old ≡ job.width) (k : KeepsFile job (held_by old)) where
  abbrev n : ℕ
  n = job.width

  abbrev task : Task
  task = task_of job.setting (act.Get mill_name) []

  abbrev X : Clouds
  X = failing_in sure_clouds (act.Get mill_name) old new

  bearable : AreBearable n k.vault.damaged X
  bearable =
      subst (λ (count : ℕ). count ≤ 2)
      (sym (same_count n (together k.vault.damaged X) k.vault.damaged (λ c. or_none (k.vault.damaged c) (X c) (none_fails (act.Get mill_name) old new c))))
      k.stands.few

  answered : (answer : Reply) → RepliesWith n task k.vault X answer → GetIsAnswered n k.vault mill_name answer
  answered answer replies = record { get = task; is_get = refl; failing = X; bearable = bearable; replies = replies }

  -- ---- why it stops

  no_file : ReadsNone n k.vault X mill_name → ⊥
  no_file none =
      let shown : none.version ≡ Stored k.meta job.file = subst (λ (e : Entry). ReadsAs n k.vault.contents X mill_name e none.version) k.file none.shown in
      none.no_file k.meta job.file shown

  get_stops : (cause : Fault) (after : Option ℕ) → RepliesWith n task k.vault X (reply.Stopped cause after) → GetEnds job (reply.Stopped cause after)
  get_stops fault.NoFile after replies = no_file (replies bearable)
  get_stops (fault.Cloud c) after replies = fails_not (act.Get mill_name) old new c replies
  get_stops fault.Memory after replies = tt
  get_stops other after replies = nothing_else_stops_get n k.vault mill_name other after (answered (reply.Stopped other after) replies)

  -- ---- what it gives

  got_file : (bytes : List ℕ) → ReadsFile n k.vault X mill_name bytes → bytes ≡ job.file
  got_file bytes file =
      let shown : Stored file.meta bytes ≡ Stored k.meta job.file = subst (λ (e : Entry). ReadsAs n k.vault.contents X mill_name e (Stored file.meta bytes)) k.file file.shown in
      cc

  get_ends : (answer : Reply) → Acted sure_clouds task old new answer → GetEnds job answer
  get_ends (reply.Bytes bytes) acted = got_file bytes (replied n task old new width k.vault k.contents k.stands (reply.Bytes bytes) acted bearable)
  get_ends (reply.Stopped cause after) acted = get_stops cause after (replied n task old new width k.vault k.contents k.stands (reply.Stopped cause after) acted)
  get_ends (reply.Stored generation) acted = acted.kind
  get_ends (reply.Removed generation) acted = acted.kind
  get_ends (reply.Listing rows) acted = acted.kind
  get_ends (reply.About generation len witnessed) acted = acted.kind
  get_ends (reply.Repaired files) acted = acted.kind
  get_ends (reply.Restored objects) acted = acted.kind
  get_ends (reply.Settled names) acted = acted.kind
  get_ends (reply.Damage flaws) acted = acted.kind

  -- by the name that it was given
  module _ (name : List ℕ) (is_name : name ≡ mill_name) (answer : Reply) (acted : Acted sure_clouds (task_of job.setting (act.Get name) []) old new answer) where
    pub get_done : GetEnds job answer
    get_done = get_ends answer (subst (λ (own : List ℕ). Acted sure_clouds (task_of job.setting (act.Get own) []) old new answer) is_name acted)

-- ---- what the mill does then

may_stop_get : (job : Job) (cause : Fault) (after : Option ℕ) → GetEnds job (reply.Stopped cause after) → MayGive (reply.Stopped cause after)
may_stop_get job fault.Memory after ends = tt
may_stop_get job other after ends = ends

pub may_give : (job : Job) (answer : Reply) → GetEnds job answer → MayGive answer
may_give job (reply.Bytes bytes) ends = tt
may_give job (reply.Stopped cause after) ends = may_stop_get job cause after ends
may_give job other ends = ends

pub gives_file : (job : Job) (answer : Reply) (bytes : List ℕ) → GetEnds job answer → answer ≡ reply.Bytes bytes → bytes ≡ job.file
gives_file job answer bytes ends is = subst (GetEnds job) is ends
