-- What the repair of a mill leaves, and why it stops.
use Rattle.std.proofs.Common.{◌≡◌, ◌≢◌, ◌∙◌, ◌+◌, ◌*◌, ◌≤◌, ◌-◌, ◌^◌, ◌==◌, ◌⊎◌, ℕ, zero, suc, true, false, if◌then◌else◌, None, Some, List, [], ◌∷◌, AllPairs, Contains, inl, inr, refl, sym, ap, ap₂, subst, arith, Fits, w64}
use Rattle.std.specs.Cmp.Lexicographic.{slice_cmp}
use Rattle.std.specs.Ordering.{nat_cmp, ordering_reverse}
use Rattle.std.specs.declared.cmp.Ordering.{Ordering}
use Rattle.std.specs.declared.cmp.Ordering.TheVariants.{Greater, Less}
use Rattle.std.proofs.lemmas.Cmp.{nat_list_cmp_total}
use Rattle.nc_name.specs.Names.{IsName}
use Rattle.nc_cloud.specs.Contents.{Contents}
use Rattle.nc_nextloss.specs.GoodCodes.{GoodParts}
use Rattle.nc_search.specs.Searches.{IsStart}
use Rattle.nc_state.specs.Clouds.{Clouds, no_cloud, with_cloud}
use Rattle.nc_state.specs.Entries.{Entry}
use Rattle.nc_state.specs.Entries.Entry.{Rest}
use Rattle.nc_state.specs.Vaults.{IsVault, Vault, version_in}
use Rattle.nc_state.specs.Versions.{Version, is_stored, value_of, version_generation}
use Rattle.nc_state.specs.Versions.Version.{Never, Removed, Stored}
use Rattle.nc_state.specs.Weighing.{settled}
use Rattle.nc_state.proofs.VaultLaws.{unlisted_rests}
use Rattle.nc_words.specs.declared.act.Act.TheVariants as act
use Rattle.nc_words.specs.declared.setting.Setting.{Setting}
use Rattle.nc_words.specs.Acts.{Task, task_of}
use Rattle.nc_write.specs.Putting.{put_meta}
use Rattle.nc_vault.specs.Acting.{Acted}
use Rattle.nc_vault.specs.Counting.{failing_in}
use Rattle.nc_vault.specs.Makings.{Prevents}
use Rattle.nc_vault.specs.Replies.{CountsFiles, IsPrevented, StopsFor, file_count}
use Rattle.nc_vault.specs.Vaults.{StandsDone}
use Rattle.nc_vault.specs.declared.fault.Fault.{Fault}
use Rattle.nc_vault.specs.declared.fault.Fault.TheVariants as fault
use Rattle.nc_vault.specs.declared.reply.Reply.{Reply}
use Rattle.nc_vault.specs.declared.reply.Reply.TheVariants as reply
use Rattle.nc_vault.proofs.Members.{among_or_not, in_none}
use Rattle.nc_history.specs.Repairs.{DoesRepair, FilesAreGood}
use Rattle.nc_history.proofs.RepairLaws.{repair_keeps_files, repaired_is_good}
use Rattle.nc_mill.specs.declared.job.Job.{Job}
use Rattle.nc_mill.specs.declared.milled.MillFault.{MillFault}
use Rattle.nc_mill.specs.declared.sure.Sure.{Sure}
use Rattle.nc_mill.specs.Ends.{MayRepair, MayStop, MendEnds, MendStops, RefusesRun, mill_fault, stop_of}
use Rattle.nc_mill.specs.Mills.{DrawsNoRepair, mill_draw, mill_name}
use Rattle.nc_mill.specs.Stages.{KeepsFile, StoresFile}
use Rattle.nc_mill.specs.Sures.{count_in, held_by, sure_clouds}
use Rattle.nc_mill.proofs.ActLaws.{fails_not, is_file_or_not, left_so, replied}

-- ---- the version that was put

first_generation : (n : ℕ) (good : GoodParts) (v : List ℕ) → version_generation (Stored (put_meta n None good v) v) ≡ 1
unfolding put_meta
first_generation n good v = refl

draws_no_repair : (n : ℕ) (s : Setting) (lost index : ℕ) (good : GoodParts) (v : List ℕ) (tried : ℕ) → IsStart n (mill_draw s 1) s.budget index good
    → Prevents n (task_of s (act.Repair lost) []) mill_name (Stored (put_meta n None good v) v) (fault.Spent tried)
    → (tried ≡ s.budget) × DrawsNoRepair n s lost
unfolding put_meta
draws_no_repair n s lost index good v tried drawn p = (p.0, record { index = index; good = good; drawn = drawn; none = p.2 })

-- ---- names in a list

in_later : (x y : List ℕ) (xs : List (List ℕ)) → Contains xs y → Contains (x ∷ xs) y
in_later x y xs (k, l, e) = (suc k, omega (arith, l), e)

not_first : (x y : List ℕ) (xs : List (List ℕ)) → x ≢ y → Contains (x ∷ xs) y → Contains xs y
not_first x y xs differ (zero, l, e) = absurd (differ e)
not_first x y xs differ (suc k, l, e) = (k, omega (arith, l), e)

-- names in order
abbrev AreSorted : List (List ℕ) → Type 0
AreSorted names = AllPairs (λ a b. slice_cmp nat_cmp a b ≡ Less) names

not_itself : (a : List ℕ) → slice_cmp nat_cmp a a ≡ Less → ⊥
not_itself a is =
    let e : Less ≡ ordering_reverse Less = subst (λ (o : Ordering). o ≡ ordering_reverse o) is (nat_list_cmp_total.antisymm a a) in
    let f : Less ≡ Greater = e in
    absurd cc

sorted_later : (x : List ℕ) (xs : List (List ℕ)) → AreSorted (x ∷ xs) → AreSorted xs
sorted_later x xs sorted = λ i j d early within. sorted (suc i) (suc j) d (omega (arith, early)) (omega (arith, within))

first_only : (x y : List ℕ) (xs : List (List ℕ)) → AreSorted (x ∷ xs) → Contains xs y → y ≡ x → ⊥
first_only x y xs sorted (k, l, e) same =
    let less : slice_cmp nat_cmp x y ≡ Less = subst (λ (b : List ℕ). slice_cmp nat_cmp x b ≡ Less) e (sorted 0 (suc k) y (omega arith) (omega (arith, l))) in
    not_itself x (subst (λ (b : List ℕ). slice_cmp nat_cmp x b ≡ Less) same less)

-- ---- what is kept

kept_by : (job : Job) (G : Contents) (W : Vault) (x : Version) → W.contents ≡ G → IsVault job.width W → W.entries mill_name ≡ Rest x → value_of x ≡ Some job.file → KeepsFile job G
kept_by job G W (Stored meta u) at stands rests value =
    let same : u ≡ job.file = cc in
    record { vault = W; contents = at; stands = stands; meta = meta; file = rests ∙ ap (λ (bytes : List ℕ). Rest (Stored meta bytes)) same }
kept_by job G W Never at stands rests value = absurd cc
kept_by job G W (Removed generation) at stands rests value = absurd cc

module _ (job : Job) (old new : Sure) (k : StoresFile job (with_cloud no_cloud job.lost) (held_by old)) where
  abbrev n : ℕ
  n = job.width

  abbrev lost : ℕ
  lost = job.lost

  abbrev v : List ℕ
  v = job.file

  abbrev task : Task
  task = task_of job.setting (act.Repair job.lost) []

  abbrev V : Vault
  V = k.vault

  abbrev X : Clouds
  X = failing_in sure_clouds (act.Repair lost) old new

  abbrev put : Version
  put = Stored (put_meta n None k.good v) v

  version_here : version_in n V mill_name ≡ put
  version_here = ap (λ (e : Entry). settled n V.contents mill_name e) k.file

  version_other : (name : List ℕ) → name ≢ mill_name → version_in n V name ≡ Never
  version_other name other = ap (λ (e : Entry). settled n V.contents name e) (k.others name other)

  -- ---- why it stops

  prevented : (cause : Fault) → IsPrevented n task V cause → Prevents n task mill_name put cause ⊎ ((name : List ℕ) × Prevents n task name Never cause)
  prevented cause p =
      elim (is_file_or_not p.name) [
        | inl same ↦ inl (subst (λ (x : Version). Prevents n task mill_name x cause) version_here (subst (λ (name : List ℕ). Prevents n task name (version_in n V name) cause) same p.prevents))
        | inr other ↦ inr (p.name, subst (λ (x : Version). Prevents n task p.name x cause) (version_other p.name other) p.prevents)
      ]

  mend_stops : (cause : Fault) → StopsFor n task V X cause → MendStops job cause
  mend_stops fault.NoFile stops =
      elim (prevented fault.NoFile stops) [
        | inl here ↦ let wrong : act.Repair lost ≡ act.Remove mill_name = here.0 in absurd cc
        | inr other ↦ let wrong : act.Repair lost ≡ act.Remove other.0 = other.1.0 in absurd cc
      ]
  mend_stops (fault.Cloud c) stops = fails_not (act.Repair lost) old new c stops
  mend_stops (fault.Damaged c r how) stops =
      let damaged : (c == lost) ≡ true = sym (ap (λ (D : Clouds). D c) k.damaged) ∙ stops.damaged in
      let wrong : true ≡ false = sym damaged ∙ stops.other in
      absurd cc
  mend_stops (fault.Short bads) stops = stops
  mend_stops (fault.Conflict generation a b) stops = stops
  mend_stops (fault.Misplaced c a w) stops = stops
  mend_stops (fault.Unsound a b) stops = stops
  mend_stops fault.Worn stops =
      elim (prevented fault.Worn stops) [
        | inl here ↦
            let worn : 2 ^ 64 - 2 ≤ version_generation put = here.1 in
            let first : version_generation put ≡ 1 = first_generation n k.good v in
            absurd (omega (arith, worn, first))
        | inr other ↦ let wrong : false ≡ true = other.1.0 in absurd cc
      ]
  mend_stops (fault.Spent tried) stops =
      elim (prevented (fault.Spent tried) stops) [
        | inl here ↦ draws_no_repair n job.setting lost k.index k.good v tried k.drawn here
        | inr other ↦ absurd other.1.2
      ]
  mend_stops fault.Memory stops = tt

  -- ---- one file is repaired

  count_others : (names : List (List ℕ)) → ((name : List ℕ) → Contains names name → name ≢ mill_name) → file_count n V names ≡ 0
  count_others [] none = refl
  count_others (x ∷ xs) none =
      ap₂ (λ b rest. (if b then 1 else 0) + rest) (ap is_stored (version_other x (none x (0, omega arith, refl))))
      (count_others xs (λ name among. none name (in_later x name xs among)))

  count_one : (names : List (List ℕ)) → AreSorted names → Contains names mill_name → file_count n V names ≡ 1
  count_one [] sorted among = absurd (in_none mill_name among)
  count_one (x ∷ xs) sorted among =
      elim (is_file_or_not x) [
        | inl same ↦
            ap₂ (λ b rest. (if b then 1 else 0) + rest) (ap is_stored (ap (version_in n V) same ∙ version_here))
            (count_others xs (λ name later is. first_only x name xs sorted later (is ∙ sym same)))
        | inr other ↦
            ap₂ (λ b rest. (if b then 1 else 0) + rest) (ap is_stored (version_other x other))
            (count_one xs (sorted_later x xs sorted) (not_first x mill_name xs other among))
      ]

  module _ (is_name : IsName mill_name) where
    repairs_one : (files : ℕ) → CountsFiles n V files → files ≡ 1
    repairs_one files counts =
        elim (among_or_not counts.names mill_name) [
          | inl among ↦ counts.is ∙ count_one counts.names counts.are_names.sorted among
          | inr out ↦
              let never : V.entries mill_name ≡ Rest Never = unlisted_rests n V.contents V.entries V.damaged counts.names mill_name k.stands counts.are_names is_name out in
              let wrong : Rest put ≡ Rest Never = sym k.file ∙ never in
              absurd cc
        ]

    mend_keeps : StandsDone n task V (held_by new) → KeepsFile job (held_by new)
    mend_keeps end =
        let does : DoesRepair n lost task V end.vault = record { is_repair = refl; stood = k.stands; done = end.done } in
        let good : FilesAreGood end.vault = repaired_is_good n lost task V end.vault does in
        let rests : (x : Version) × (end.vault.entries mill_name ≡ Rest x) = good.rests mill_name is_name in
        let now : value_of (version_in n end.vault mill_name) ≡ value_of rests.0 = ap (λ (e : Entry). value_of (settled n end.vault.contents mill_name e)) rests.1 in
        let same : value_of (version_in n end.vault mill_name) ≡ value_of (version_in n V mill_name) = repair_keeps_files n lost task V end.vault mill_name does is_name in
        kept_by job (held_by new) end.vault rests.0 end.contents end.stands rests.1 (sym now ∙ same ∙ ap value_of version_here)

    module _ (width : count_in old ≡ job.width) where
      pub mend_ends : (answer : Reply) → Acted sure_clouds task old new answer → MendEnds job (held_by new) answer
      mend_ends (reply.Repaired files) acted =
          let counts : CountsFiles n V files = replied n task old new width V k.contents k.stands (reply.Repaired files) acted in
          (repairs_one files counts, mend_keeps (left_so n task old new width V k.contents k.stands (reply.Repaired files) acted))
      mend_ends (reply.Stopped cause after) acted = mend_stops cause (replied n task old new width V k.contents k.stands (reply.Stopped cause after) acted)
      mend_ends (reply.Stored generation) acted = acted.kind
      mend_ends (reply.Removed generation) acted = acted.kind
      mend_ends (reply.Bytes bytes) acted = acted.kind
      mend_ends (reply.Listing rows) acted = acted.kind
      mend_ends (reply.About generation len witnessed) acted = acted.kind
      mend_ends (reply.Restored objects) acted = acted.kind
      mend_ends (reply.Settled names) acted = acted.kind
      mend_ends (reply.Damage flaws) acted = acted.kind

-- ---- what the mill does then

may_stop : (job : Job) (cause : Fault) → MendStops job cause → MayStop cause
may_stop job (fault.Spent tried) stops = tt
may_stop job fault.Memory stops = tt
may_stop job other stops = stops

pub may_repair : (job : Job) (G : Contents) (answer : Reply) → MendEnds job G answer → MayRepair answer
may_repair job G (reply.Repaired files) ends = tt
may_repair job G (reply.Stopped cause after) ends = may_stop job cause ends
may_repair job G other ends = ends

pub repairs_file : (job : Job) (G : Contents) (answer : Reply) (files : ℕ) → MendEnds job G answer → answer ≡ reply.Repaired files → (files ≡ 1) × KeepsFile job G
repairs_file job G answer files ends is = subst (MendEnds job G) is ends

refuses : (job : Job) (cause : Fault) → MendStops job cause → RefusesRun job (mill_fault cause)
refuses job (fault.Spent tried) stops = (stops.0, inr stops.1)
refuses job fault.Memory stops = tt
refuses job other stops = tt

pub mend_refuses : (job : Job) (G : Contents) (answer : Reply) (cause : MillFault) → MendEnds job G answer → Some cause ≡ stop_of answer → RefusesRun job cause
mend_refuses job G (reply.Stopped why after) cause ends is =
    let same : cause ≡ mill_fault why = cc in
    subst (RefusesRun job) (sym same) (refuses job why ends)
mend_refuses job G other cause ends is = absurd cc

-- of one file, one chunk of each other cloud
pub fetched_by : (files others width : ℕ) → files ≡ 1 → others ≡ width - 1 → 4 ≤ width → files * others + 1 ≡ width
fetched_by files others width one is wide =
    let all : 1 * others + 1 ≡ width = omega (arith, is, wide) in
    ap (λ (k : ℕ). k * others + 1) one ∙ all

pub few_fetched : (files others width : ℕ) → files ≡ 1 → others ≡ width - 1 → width ≤ 10 → Fits w64 (files * others)
few_fetched files others width one is narrow = subst (λ (k : ℕ). Fits w64 (k * others)) (sym one) (omega (arith, is, narrow))
