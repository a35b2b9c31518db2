-- What the put of a mill leaves, and why it stops.
use Rattle.std.proofs.Common.{◌≡◌, ◌∙◌, ◌-◌, ◌^◌, ◌≤◌, ℕ, None, Some, List, [], inl, ◌∷◌, Contains, length, take, refl, sym, ap, subst, arith}
use Rattle.nc_cloud.specs.Contents.{Contents, nothing}
use Rattle.nc_state.specs.Clouds.{no_cloud}
use Rattle.nc_state.specs.Entries.Entry.{Rest}
use Rattle.nc_state.specs.Vaults.{IsVault}
use Rattle.nc_state.specs.Versions.Version.{Never}
use Rattle.nc_state.proofs.EmptyLaw.{empty_stands}
use Rattle.nc_words.specs.declared.act.Act.TheVariants as act
use Rattle.nc_words.specs.Acts.{Task, task_of}
use Rattle.nc_vault.specs.Acting.{Acted}
use Rattle.nc_vault.specs.Counting.{failing_in}
use Rattle.nc_vault.specs.Makings.{IsPut, Prevents}
use Rattle.nc_vault.specs.Replies.{IsPrevented, StopsFor}
use Rattle.nc_vault.specs.Vaults.{IsDoneWith, StandsDone}
use Rattle.nc_vault.specs.declared.fault.Fault.{Fault}
use Rattle.nc_vault.specs.declared.fault.Fault.TheVariants as fault
use Rattle.nc_vault.specs.declared.reply.Reply.{Reply}
use Rattle.nc_vault.specs.declared.reply.Reply.TheVariants as reply
use Rattle.nc_vault.proofs.Members.{in_one, take_past, take_whole}
use Rattle.nc_history.specs.Histories.{empty_vault}
use Rattle.nc_mill.specs.declared.job.Job.{Job}
use Rattle.nc_mill.specs.declared.milled.MillFault.{MillFault}
use Rattle.nc_mill.specs.declared.sure.Sure.{Sure}
use Rattle.nc_mill.specs.Ends.{MayStop, MayStore, PutEnds, PutStops, RefusesRun, mill_fault, stop_of}
use Rattle.nc_mill.specs.Mills.{mill_name}
use Rattle.nc_mill.specs.Stages.{FitsMill, StoresFile}
use Rattle.nc_mill.specs.Sures.{count_in, held_by, sure_clouds}
use Rattle.nc_mill.proofs.ActLaws.{fails_not, left_so, replied}

module _ (job : Job) (old new : Sure) where
  abbrev n : ℕ
  n = job.width

  abbrev task : Task
  task = task_of job.setting (act.Put mill_name) job.file

  -- ---- why it stops

  prevented : (cause : Fault) → IsPrevented n task empty_vault cause → Prevents n task mill_name Never cause
  prevented cause p =
      let here : p.name ≡ mill_name = in_one mill_name p.name (subst (λ (ns : List (List ℕ)). Contains ns p.name) p.works_on p.among) in
      subst (λ (name : List ℕ). Prevents n task name Never cause) here p.prevents

  put_stops : (cause : Fault) → StopsFor n task empty_vault (failing_in sure_clouds task.act old new) cause → PutStops job cause
  put_stops fault.NoFile stops = let wrong : act.Put mill_name ≡ act.Remove mill_name = (prevented fault.NoFile stops).0 in absurd cc
  put_stops (fault.Cloud c) stops = fails_not task.act old new c stops
  put_stops (fault.Damaged c r how) stops = stops
  put_stops (fault.Short bads) stops = stops
  put_stops (fault.Conflict generation a b) stops = stops
  put_stops (fault.Misplaced c a w) stops = stops
  put_stops (fault.Unsound a b) stops = stops
  put_stops fault.Worn stops = let worn : 2 ^ 64 - 2 ≤ 0 = (prevented fault.Worn stops).1 in absurd (omega (arith, worn))
  put_stops (fault.Spent tried) stops = let p = prevented (fault.Spent tried) stops in (p.0, p.2)
  put_stops fault.Memory stops = tt

  -- ---- what it leaves

  put_stored : StandsDone n task empty_vault (held_by new) → StoresFile job no_cloud (held_by new)
  put_stored end =
      let names : List (List ℕ) = end.done.names in
      let works : names ≡ mill_name ∷ [] = end.done.works_on in
      let among : Contains (take (length names) names) mill_name =
      subst (λ (ns : List (List ℕ)). Contains ns mill_name) (sym (take_whole names ∙ works)) (0, omega arith, refl) in
      let here : IsDoneWith n task empty_vault end.vault mill_name = end.done.reached.finished mill_name among in
      let put : IsPut n job.setting mill_name job.file Never here.version = here.brought in
      record {
        index = put.index;
        good = put.good;
        drawn = put.drawn;
        vault = end.vault;
        contents = end.contents;
        stands = end.stands;
        damaged = end.done.damaged;
        file = here.rests ∙ ap Rest put.made.is;
        others = λ name other.
            (end.done.reached.others name (λ there. other (in_one mill_name name (subst (λ (ns : List (List ℕ)). Contains ns name) (take_past names ∙ works) there)))).entry;
      }

  module _ (fits : FitsMill job) (width : count_in old ≡ job.width) (empty : held_by old ≡ nothing) where
    stood : IsVault n empty_vault
    stood = empty_stands n fits.wide fits.narrow

    pub put_ends : (answer : Reply) → Acted sure_clouds task old new answer → PutEnds job (held_by new) answer
    put_ends (reply.Stored generation) acted = put_stored (left_so n task old new width empty_vault (sym empty) stood (reply.Stored generation) acted)
    put_ends (reply.Stopped cause after) acted = put_stops cause (replied n task old new width empty_vault (sym empty) stood (reply.Stopped cause after) acted)
    put_ends (reply.Removed generation) acted = acted.kind
    put_ends (reply.Bytes bytes) acted = acted.kind
    put_ends (reply.Listing rows) acted = acted.kind
    put_ends (reply.About generation len witnessed) acted = acted.kind
    put_ends (reply.Repaired files) acted = acted.kind
    put_ends (reply.Restored objects) acted = acted.kind
    put_ends (reply.Settled names) acted = acted.kind
    put_ends (reply.Damage flaws) acted = acted.kind

    -- ---- by the name and the bytes that it was given

    module _ (name bytes : List ℕ) (is_name : name ≡ mill_name) (is_file : bytes ≡ job.file) (answer : Reply)
        (acted : Acted sure_clouds (task_of job.setting (act.Put name) bytes) old new answer) where
      pub put_done : PutEnds job (held_by new) answer
      put_done =
          put_ends answer
          (subst (λ (v : List ℕ). Acted sure_clouds (task_of job.setting (act.Put mill_name) v) old new answer) is_file
          (subst (λ (own : List ℕ). Acted sure_clouds (task_of job.setting (act.Put own) bytes) old new answer) is_name acted))

-- ---- what the mill does then

may_stop : (job : Job) (cause : Fault) → PutStops job cause → MayStop cause
may_stop job (fault.Spent tried) stops = tt
may_stop job fault.Memory stops = tt
may_stop job other stops = stops

pub may_store : (job : Job) (G : Contents) (answer : Reply) → PutEnds job G answer → MayStore answer
may_store job G (reply.Stored generation) ends = tt
may_store job G (reply.Stopped cause after) ends = may_stop job cause ends
may_store job G other ends = ends

pub is_stored_by : (job : Job) (G : Contents) (answer : Reply) → PutEnds job G answer → None ≡ stop_of answer → StoresFile job no_cloud G
is_stored_by job G (reply.Stored generation) ends none = ends
is_stored_by job G (reply.Stopped cause after) ends none = absurd cc
is_stored_by job G other ends none = absurd ends

refuses : (job : Job) (cause : Fault) → PutStops job cause → RefusesRun job (mill_fault cause)
refuses job (fault.Spent tried) stops = (stops.0, inl stops.1)
refuses job fault.Memory stops = tt
refuses job other stops = tt

pub put_refuses : (job : Job) (G : Contents) (answer : Reply) (cause : MillFault) → PutEnds job G answer → Some cause ≡ stop_of answer → RefusesRun job cause
put_refuses job G (reply.Stopped why after) cause ends is =
    let same : cause ≡ mill_fault why = cc in
    subst (RefusesRun job) (sym same) (refuses job why ends)
put_refuses job G other cause ends is = absurd cc
