-- What the definitions say of the acts on all names.
use Rattle.std.proofs.Common.{◌≡◌, ◌+◌, ◌++◌, ◌==◌, if◌then◌else◌, ℕ, Bool, true, false, Option, Some, List, [], ◌∷◌, Contains, length, inl, inr, refl, sym, ap, ◌∙◌, subst, arith}
use Rattle.nc_cloud.specs.Contents.{Contents, Grows}
use Rattle.nc_cloud.specs.Fleet.{got_count}
use Rattle.nc_cloud.specs.declared.deciding.RoundFault.{RoundFault}
use Rattle.nc_cloud.specs.declared.deciding.RoundFault.TheVariants as round
use Rattle.nc_cloud.specs.declared.fleet.Fleet.{Ghosts as FleetGhosts}
use Rattle.nc_cloud.proofs.Counts.{rose_more}
use Rattle.nc_name.specs.declared.key.Key.{Key}
use Rattle.nc_name.specs.declared.key.Key.TheVariants as key
use Rattle.nc_name.specs.Counts.{Rose}
use Rattle.nc_name.specs.Keys.{name_of}
use Rattle.nc_state.specs.Clouds.{Clouds}
use Rattle.nc_state.specs.Showing.{AreBearable, together}
use Rattle.nc_state.specs.Standing.{AreNames}
use Rattle.nc_state.specs.Vaults.{Vault, version_in}
use Rattle.nc_state.specs.Versions.{Version, is_stored}
use Rattle.nc_state.specs.Versions.Version.{Never, Removed, Stored}
use Rattle.nc_words.specs.declared.act.Act.{Act}
use Rattle.nc_words.specs.declared.act.Act.TheVariants as act
use Rattle.nc_words.specs.declared.setting.Setting.{Setting}
use Rattle.nc_words.specs.Acts.{Task, heals, sweeps, task_of}
use Rattle.nc_vault.specs.declared.fault.Fault.{Fault}
use Rattle.nc_vault.specs.declared.fault.Fault.TheVariants as fault
use Rattle.nc_vault.specs.declared.reply.Reply.{Reply}
use Rattle.nc_vault.specs.declared.reply.Reply.TheVariants as reply
use Rattle.nc_vault.specs.Acting.{Changes, IfDone, IsReplyTo, StaysBefore}
use Rattle.nc_vault.specs.Counting.{CostsBy, CountsSay, CountsTell, FailedToList, NamesCloud, NamesNone, ReadsFor, RestoreTells, StayHealed, TookBy, TookFrom, bears_failures, chunks_from, failing_in, lists, may_read_chunks, restores}
use Rattle.nc_vault.specs.Faults.{fault_of_round}
use Rattle.nc_vault.specs.Parts.{AtMost, CleanPart, IsSeenCause, PartCounts, PartCountsBy, PartIsShort, PartStops, RestoreCounts, TookPart, TooFewShow, counted_in}
use Rattle.nc_vault.specs.Replies.{FindsDamaged, FindsTooFew, HealsDamaged, IsPrevented, RepliesWith, StopsFor, file_count, wrong_among, wrong_in}
use Rattle.nc_vault.specs.Makings.{Prevents}
use Rattle.nc_vault.specs.Saying.{LeavesName, SaysBy, StopsAtName, SweepRefuses}
use Rattle.nc_vault.specs.Seeing.{SeesFor, only_reads}
use Rattle.nc_vault.specs.Sweeping.{files_among, sweep_reply}
use Rattle.nc_vault.specs.Vaults.{StandsAtEnd, StandsDone, TellsDone, WorksOn}
use Rattle.nc_vault.proofs.ChunksStay.{wrong_there as wrong_count_there}
use Rattle.nc_vault.proofs.OneName.{rose_is}

-- what holds of a repair, of recovery and of a restore holds of each act on all names
pub by_sweep : (P : Act → Type 0) → ((i : ℕ) → P (act.Repair i)) → P act.Recover → ((first : ℕ) (second : Option ℕ) → P (act.Restore first second)) → (a : Act) → sweeps a ≡ true → P a
by_sweep P repair recover restore (act.Put name) is = absurd cc
by_sweep P repair recover restore (act.Get name) is = absurd cc
by_sweep P repair recover restore (act.Remove name) is = absurd cc
by_sweep P repair recover restore act.List is = absurd cc
by_sweep P repair recover restore (act.Stat name) is = absurd cc
by_sweep P repair recover restore (act.Repair i) is = repair i
by_sweep P repair recover restore act.Scrub is = absurd cc
by_sweep P repair recover restore (act.Restore first second) is = restore first second
by_sweep P repair recover restore act.Recover is = recover

-- a failed round of lists says nothing of a name
pub list_refuses : (n : ℕ) (s : Setting) (a : Act) (F G : Contents) (f : RoundFault) (after : Option ℕ) → SweepRefuses n s a F G (fault_of_round f) after
list_refuses n s a F G (round.Cloud c) after = tt
list_refuses n s a F G round.Memory after = tt

-- stopped at a name, for whichever cause
pub name_refuses : (n : ℕ) (s : Setting) (a : Act) (F G : Contents) (f : Fault) (after : Option ℕ) → StopsAtName n s a F G f after → SweepRefuses n s a F G f after
name_refuses n s a F G fault.NoFile after stops = stops
name_refuses n s a F G (fault.Cloud c) after stops = tt
name_refuses n s a F G (fault.Damaged c r how) after stops = stops
name_refuses n s a F G (fault.Short bads) after stops = stops
name_refuses n s a F G (fault.Conflict g c d) after stops = stops
name_refuses n s a F G (fault.Misplaced c d w) after stops = stops
name_refuses n s a F G (fault.Unsound c d) after stops = stops
name_refuses n s a F G fault.Worn after stops = stops
name_refuses n s a F G (fault.Spent tried) after stops = stops
name_refuses n s a F G fault.Memory after stops = tt

module _ (a : Act) (is : sweeps a ≡ true) where
  pub sweep_works : (n : ℕ) (G : Contents) (names : List (List ℕ)) → AreNames n G names → WorksOn n G a names
  sweep_works n G names = by_sweep (λ (x : Act). AreNames n G names → WorksOn n G x names) (λ i are. are) (λ are. are) (λ first second are. are) a is

  pub sweep_only : (n : ℕ) (G : Contents) (names : List (List ℕ)) → WorksOn n G a names → AreNames n G names
  sweep_only n G names = by_sweep (λ (x : Act). WorksOn n G x names → AreNames n G names) (λ i are. are) (λ are. are) (λ first second are. are) a is

  pub sweep_lists : lists a ≡ true
  sweep_lists = by_sweep (λ (x : Act). lists x ≡ true) (λ i. refl) refl (λ first second. refl) a is

  pub sweep_bears : bears_failures a ≡ false
  sweep_bears = by_sweep (λ (x : Act). bears_failures x ≡ false) (λ i. refl) refl (λ first second. refl) a is

  pub sweep_tells : (k : ℕ) → TellsDone a (Some k) k
  sweep_tells k = by_sweep (λ (x : Act). TellsDone x (Some k) k) (λ i. refl) refl (λ first second. refl) a is

  pub sweep_stopped : (f : Fault) (k : ℕ) → IsReplyTo a (reply.Stopped f (Some k))
  sweep_stopped f k = by_sweep (λ (x : Act). IsReplyTo x (reply.Stopped f (Some k))) (λ i. tt) tt (λ first second. tt) a is

  pub sweep_changes : (F G : Contents) → Changes a F G
  sweep_changes F G = by_sweep (λ (x : Act). Changes x F G) (λ i. tt) tt (λ first second. tt) a is

  -- it reads chunks or not, however it is answered
  pub sweep_reads : (answer : Reply) → may_read_chunks a answer ≡ may_read_chunks a (reply.Settled 0)
  sweep_reads answer = by_sweep (λ (x : Act). may_read_chunks x answer ≡ may_read_chunks x (reply.Settled 0)) (λ i. refl) refl (λ first second. refl) a is

  pub sweep_says : (n : ℕ) (s : Setting) (bytes : List ℕ) (F G : Contents) (f : Fault) (after : Option ℕ) → SweepRefuses n s a F G f after
      → SaysBy n (task_of s a bytes) F G a (reply.Stopped f after)
  sweep_says n s bytes F G f after =
      by_sweep (λ (x : Act). SweepRefuses n s x F G f after → SaysBy n (task_of s x bytes) F G x (reply.Stopped f after)) (λ i refuses. refuses) (λ refuses. refuses) (λ first second refuses. refuses) a is

  pub sweep_untold : (n : ℕ) (f : Fault) (after : Option ℕ) (before now : ℕ → ℕ) → TookBy n a (reply.Stopped f after) before now
  sweep_untold n f after before now = by_sweep (λ (x : Act). TookBy n x (reply.Stopped f after) before now) (λ i. tt) tt (λ first second. tt) a is

  module _ {A : Type 0} (F : FleetGhosts A) (old new : A) (answer : Reply) where
    pub sweep_sees : SeesFor (only_reads a) F old new a answer
    sweep_sees = by_sweep (λ (x : Act). SeesFor (only_reads x) F old new x answer) (λ i. tt) tt (λ first second. tt) a is

    pub sweep_unread : (V : Vault) → ReadsFor (only_reads a) F old new a answer V
    sweep_unread V = by_sweep (λ (x : Act). ReadsFor (only_reads x) F old new x answer V) (λ i. tt) tt (λ first second. tt) a is

-- ---- files and chunks

-- one name more
pub files_more : (n : ℕ) (a : Act) (V : Vault) (names : List (List ℕ)) (name : List ℕ) → files_among n a V (names ++ name ∷ []) ≡ files_among n a V names + counted_in n a V name
files_more n a V [] name = let x : ℕ = counted_in n a V name in let e : x + 0 ≡ 0 + x = omega arith in e
files_more n a V (first ∷ names) name =
    let x : ℕ = counted_in n a V first in
    let y : ℕ = files_among n a V names in
    let z : ℕ = counted_in n a V name in
    let e : x + (y + z) ≡ x + y + z = omega arith in
    ap (λ (k : ℕ). x + k) (files_more n a V names name) ∙ e

-- of all names a repair counts their files
files_all : (n i : ℕ) (V : Vault) (names : List (List ℕ)) → files_among n (act.Repair i) V names ≡ file_count n V names
files_all n i V [] = refl
files_all n i V (name ∷ names) = ap (λ (k : ℕ). (if is_stored (version_in n V name) then 1 else 0) + k) (files_all n i V names)

-- of all names a restore counts the chunks that aren't right
objects_all : (n first : ℕ) (second : Option ℕ) (V : Vault) (names : List (List ℕ)) → files_among n (act.Restore first second) V names ≡ wrong_among n (heals (act.Restore first second)) V names
objects_all n first second V [] = refl
objects_all n first second V (name ∷ names) =
    ap (λ (k : ℕ). wrong_in n (heals (act.Restore first second)) V.contents name (version_in n V name) + k) (objects_all n first second V names)

-- as many chunks aren't right where the objects of the name are the same
module _ (n : ℕ) (P : Clouds) (F G : Contents) (name : List ℕ) (same : (c : ℕ) (place : Key) → name_of place ≡ name → G c place ≡ F c place) where
  wrong_there : (x : Version) → wrong_in n P G name x ≡ wrong_in n P F name x
  wrong_there Never = refl
  wrong_there (Removed generation) = refl
  wrong_there (Stored m v) = wrong_count_there n name m F G (λ c slot row. same c (key.Chunk name slot row) refl) v P

-- what is counted of a name stays while its version and its objects do
pub counted_same : (a : Act) → sweeps a ≡ true → (n : ℕ) (V W : Vault) (name : List ℕ) → version_in n W name ≡ version_in n V name
    → ((c : ℕ) (place : Key) → name_of place ≡ name → W.contents c place ≡ V.contents c place) → counted_in n a W name ≡ counted_in n a V name
counted_same a is n V W name version same =
    by_sweep (λ (x : Act). counted_in n x W name ≡ counted_in n x V name) (λ i. ap (λ (x : Version). if is_stored x then 1 else 0) version) refl
    (λ first second.
    ap (λ (x : Version). wrong_in n (heals (act.Restore first second)) W.contents name x) version
    ∙ wrong_there n (heals (act.Restore first second)) V.contents W.contents name same (version_in n V name))
    a is

got_none : (before : ℕ) → before ≡ got_count before 0
got_none before = omega arith

got_then : (before first more : ℕ) → got_count (got_count before first) more ≡ got_count before (first + more)
got_then before first more = omega arith

if_more : (b : Bool) (x y : ℕ) → (if b then 0 else x + y) ≡ (if b then 0 else x) + (if b then 0 else y)
if_more true x y = refl
if_more false x y = refl

if_none : (b : Bool) → ◌≡◌ {A = ℕ} (if b then 0 else 0) 0
if_none true = refl
if_none false = refl

took_then : (n : ℕ) (a : Act) → ((x y c : ℕ) → chunks_from a (x + y) c ≡ chunks_from a x c + chunks_from a y c) → (before mid now : ℕ → ℕ) (x y : ℕ) → TookFrom n before mid (chunks_from a x)
    → TookFrom n mid now (chunks_from a y) → TookFrom n before now (chunks_from a (x + y))
took_then n a more before mid now x y first second c l =
    second c l ∙ ap (λ (k : ℕ). got_count k (chunks_from a y c)) (first c l) ∙ got_then (before c) (chunks_from a x c) (chunks_from a y c)
    ∙ ap (got_count (before c)) (sym (more x y c))

module _ (a : Act) (is : sweeps a ≡ true) where
  pub took_none : (n : ℕ) (before now : ℕ → ℕ) → ((c : ℕ) → now c ≡ before c) → TookPart n a 0 before now
  took_none n before now same =
      by_sweep (λ (x : Act). TookPart n x 0 before now) (λ i c l. same c ∙ got_none (before c) ∙ ap (got_count (before c)) (sym (if_none (c == i))))
      (λ c l. same c ∙ got_none (before c)) (λ first second. tt) a is

  pub took_more : (n : ℕ) (before mid now : ℕ → ℕ) (x y : ℕ) → TookPart n a x before mid → TookPart n a y mid now → TookPart n a (x + y) before now
  took_more n before mid now x y =
      by_sweep (λ (r : Act). TookPart n r x before mid → TookPart n r y mid now → TookPart n r (x + y) before now)
      (λ i. took_then n (act.Repair i) (λ p q c. if_more (c == i) p q) before mid now x y) (took_then n act.Recover (λ p q c. refl) before mid now x y)
      (λ first second one more. tt) a is

  -- no more files than names
  pub most_none : AtMost a 0 0
  most_none = by_sweep (λ (x : Act). AtMost x 0 0) (λ i. omega arith) (omega arith) (λ first second. tt) a is

  pub most_more : (x y done : ℕ) → AtMost a x done → AtMost a y 1 → AtMost a (x + y) (done + 1)
  most_more x y done =
      by_sweep (λ (r : Act). AtMost r x done → AtMost r y 1 → AtMost r (x + y) (done + 1)) (λ i low one. omega (arith, low, one)) (λ low one. omega (arith, low, one))
      (λ first second low one. tt) a is

-- what isn't read first nor then isn't read
pub costs_then : (b : Bool) (before mid now : ℕ → ℕ) → CostsBy b before mid → CostsBy b mid now → CostsBy b before now
costs_then true before mid now first second = tt
costs_then false before mid now first second = λ c. second c ∙ first c

pub costs_none : (b : Bool) (before now : ℕ → ℕ) → ((c : ℕ) → now c ≡ before c) → CostsBy b before now
costs_none true before now same = tt
costs_none false before now same = same

-- ---- a name that it can't be done with

-- its cause is that of the act, where no count changed before
tell_counts : {A : Type 0} (F : FleetGhosts A) (a : Act) (old mid new : A) (done : ℕ) (f : Fault) → bears_failures a ≡ false → Grows (F.faults old) (F.faults mid)
    → (F.counts_exactly → (c : ℕ) → F.faults mid c ≡ F.faults old c) → PartCounts F.counts_exactly (F.faults mid) (F.faults new) f → CountsTell F a old new (reply.Stopped f (Some done))
tell_counts F a old mid new done fault.NoFile bears grows clean is = subst (λ (b : Bool). NamesNone b F a old new) (sym bears) (λ exact c within. is exact c ∙ clean exact c)
tell_counts F a old mid new done (fault.Cloud c) bears grows clean is =
    subst (λ (b : Bool). NamesCloud b F a old new c (Some done)) (sym bears)
    (inl (record { rose_here = rose_more (F.faults old c) (F.faults mid c) (F.faults new c) (grows c) is.0; least = λ exact d low within. is.1 exact d low ∙ clean exact d }))
tell_counts F a old mid new done (fault.Damaged c r how) bears grows clean is = λ exact d low. is exact d low ∙ clean exact d
tell_counts F a old mid new done (fault.Short bads) bears grows clean is = tt
tell_counts F a old mid new done (fault.Conflict g x y) bears grows clean is = subst (λ (b : Bool). NamesNone b F a old new) (sym bears) (λ exact c within. is exact c ∙ clean exact c)
tell_counts F a old mid new done (fault.Misplaced d x y) bears grows clean is = subst (λ (b : Bool). NamesNone b F a old new) (sym bears) (λ exact c within. is exact c ∙ clean exact c)
tell_counts F a old mid new done (fault.Unsound x y) bears grows clean is = subst (λ (b : Bool). NamesNone b F a old new) (sym bears) (λ exact c within. is exact c ∙ clean exact c)
tell_counts F a old mid new done fault.Worn bears grows clean is = subst (λ (b : Bool). NamesNone b F a old new) (sym bears) (λ exact c within. is exact c ∙ clean exact c)
tell_counts F a old mid new done (fault.Spent tried) bears grows clean is = subst (λ (b : Bool). NamesNone b F a old new) (sym bears) (λ exact c within. is exact c ∙ clean exact c)
tell_counts F a old mid new done fault.Memory bears grows clean is = tt

restore_counts : {A : Type 0} (F : FleetGhosts A) (a : Act) (old mid new : A) (done : ℕ) (f : Fault) → Grows (F.faults old) (F.faults mid) → (F.counts_exactly → StayHealed a (F.faults old) (F.faults mid))
    → RestoreCounts F.counts_exactly a (F.faults mid) (F.faults new) f → RestoreTells F a old new (reply.Stopped f (Some done))
restore_counts F a old mid new done (fault.Cloud c) grows clean is =
    inl (record { rose_here = rose_more (F.faults old c) (F.faults mid c) (F.faults new c) (grows c) is.rose_here; least = λ exact d low on. is.least exact d low on ∙ clean exact d on })
restore_counts F a old mid new done fault.Memory grows clean is = tt
restore_counts F a old mid new done fault.NoFile grows clean is = λ exact k on. is exact k on ∙ clean exact k on
restore_counts F a old mid new done (fault.Damaged c r how) grows clean is = λ exact k on. is exact k on ∙ clean exact k on
restore_counts F a old mid new done (fault.Short bads) grows clean is = (
  λ exact k on. is.0 exact k on ∙ clean exact k on,
  record { each = λ b among why. rose_more (F.faults old b.cloud) (F.faults mid b.cloud) (F.faults new b.cloud) (grows b.cloud) (is.1.each b among why) },
)
restore_counts F a old mid new done (fault.Conflict g x y) grows clean is = λ exact k on. is exact k on ∙ clean exact k on
restore_counts F a old mid new done (fault.Misplaced d x y) grows clean is = λ exact k on. is exact k on ∙ clean exact k on
restore_counts F a old mid new done (fault.Unsound x y) grows clean is = λ exact k on. is exact k on ∙ clean exact k on
restore_counts F a old mid new done fault.Worn grows clean is = λ exact k on. is exact k on ∙ clean exact k on
restore_counts F a old mid new done (fault.Spent tried) grows clean is = λ exact k on. is exact k on ∙ clean exact k on

pub part_counts : (a : Act) → sweeps a ≡ true → {A : Type 0} (F : FleetGhosts A) (old mid new : A) (done : ℕ) (f : Fault) → Grows (F.faults old) (F.faults mid)
    → (F.counts_exactly → CleanPart a (F.faults old) (F.faults mid)) → PartCountsBy F.counts_exactly a (F.faults mid) (F.faults new) f → CountsSay F a old new (reply.Stopped f (Some done))
part_counts a act_is F old mid new done f grows =
    by_sweep (λ (x : Act). (F.counts_exactly → CleanPart x (F.faults old) (F.faults mid)) → PartCountsBy F.counts_exactly x (F.faults mid) (F.faults new) f → CountsSay F x old new (reply.Stopped f (Some done)))
    (λ i clean is. tell_counts F (act.Repair i) old mid new done f refl grows clean is) (λ clean is. tell_counts F act.Recover old mid new done f refl grows clean is)
    (λ first second clean is. restore_counts F (act.Restore first second) old mid new done f grows clean is) a act_is

pub part_rose : (a : Act) → sweeps a ≡ true → (exact : Type 0) (before now : ℕ → ℕ) (c : ℕ) → PartCountsBy exact a before now (fault.Cloud c) → Rose (before c) (now c)
part_rose a act_is exact before now c =
    by_sweep (λ (x : Act). PartCountsBy exact x before now (fault.Cloud c) → Rose (before c) (now c)) (λ i is. is.0) (λ is. is.0) (λ first second is. is.rose_here) a act_is

pub list_names : (a : Act) → sweeps a ≡ true → {A : Type 0} (F : FleetGhosts A) (old new : A) (c : ℕ) → FailedToList F a old new c (Some 0) → CountsSay F a old new (reply.Stopped (fault.Cloud c) (Some 0))
list_names a act_is F old new c =
    by_sweep (λ (x : Act). FailedToList F x old new c (Some 0) → CountsSay F x old new (reply.Stopped (fault.Cloud c) (Some 0))) (λ i failed. inr failed) (λ failed. inr failed) (λ first second failed. inr failed) a act_is

pub list_memory : (a : Act) → sweeps a ≡ true → {A : Type 0} (F : FleetGhosts A) (old new : A) → CountsSay F a old new (reply.Stopped fault.Memory (Some 0))
list_memory a act_is F old new = by_sweep (λ (x : Act). CountsSay F x old new (reply.Stopped fault.Memory (Some 0))) (λ i. tt) tt (λ first second. tt) a act_is

pub clean_none : (a : Act) → sweeps a ≡ true → (before now : ℕ → ℕ) → ((c : ℕ) → now c ≡ before c) → CleanPart a before now
clean_none a act_is before now same = by_sweep (λ (x : Act). CleanPart x before now) (λ i. same) same (λ first second c on. same c) a act_is

pub clean_then : (a : Act) → sweeps a ≡ true → (before mid now : ℕ → ℕ) → CleanPart a before mid → CleanPart a mid now → CleanPart a before now
clean_then a act_is before mid now =
    by_sweep (λ (x : Act). CleanPart x before mid → CleanPart x mid now → CleanPart x before now) (λ i one two c. two c ∙ one c) (λ one two c. two c ∙ one c)
    (λ first second one two c on. two c on ∙ one c on) a act_is

pub part_before : (G M H : Contents) (done : ℕ) (f : Fault) → (IsSeenCause f → H ≡ M) → (done ≡ 0 → M ≡ G) → StaysBefore G H (reply.Stopped f (Some done))
part_before G M H done fault.NoFile kept unchanged = tt
part_before G M H done (fault.Cloud c) kept unchanged = tt
part_before G M H done (fault.Damaged c r how) kept unchanged = tt
part_before G M H done (fault.Short bads) kept unchanged = tt
part_before G M H done (fault.Conflict g x y) kept unchanged = λ first. kept tt ∙ unchanged first
part_before G M H done (fault.Misplaced c x y) kept unchanged = λ first. kept tt ∙ unchanged first
part_before G M H done (fault.Unsound x y) kept unchanged = tt
part_before G M H done fault.Worn kept unchanged = tt
part_before G M H done (fault.Spent tried) kept unchanged = tt
part_before G M H done fault.Memory kept unchanged = tt

-- why a name of W stops it is why one of V does, where W has the version and the damaged clouds of V
module _ {A : Type 0} (F : FleetGhosts A) (n : ℕ) (task : Task) (names : List (List ℕ)) (name : List ℕ) (among : Contains names name) (V W : Vault) (works : WorksOn n V.contents task.act names) (act_is : sweeps task.act ≡ true)
    (version : version_in n W name ≡ version_in n V name) (damaged : W.damaged ≡ V.damaged) (old mid new : A) (clouds : F.clouds mid ≡ n) (grows : Grows (F.faults old) (F.faults mid)) where
  failed_since : (c : ℕ) → Rose (F.faults mid c) (F.faults new c) → failing_in F task.act old new c ≡ true
  failed_since c rose = rose_is (F.faults old c) (F.faults new c) _ (rose_more (F.faults old c) (F.faults mid c) (F.faults new c) (grows c) rose)

  -- a restore that finds too few good clouds
  too_few : TooFewShow F task.act mid new W → AreBearable n (together V.damaged (heals task.act)) (failing_in F task.act old new) → ⊥
  too_few shows few =
      shows.each (failing_in F task.act old new) (record { each = λ c within rose. failed_since c rose })
      (subst (λ (k : ℕ). AreBearable k (together W.damaged (heals task.act)) (failing_in F task.act old new)) (sym clouds)
      (subst (λ (D : Clouds). AreBearable n (together D (heals task.act)) (failing_in F task.act old new)) (sym damaged) few))

  short_stops : (b : Bool) → PartIsShort b F task.act mid new W → FindsTooFew b n task.act V (failing_in F task.act old new)
  short_stops true shows = (
    subst (λ (D : Clouds). HealsDamaged n task.act D) damaged (subst (λ (k : ℕ). HealsDamaged k task.act W.damaged) clouds shows.heals_one),
    too_few shows,
  )
  short_stops false never = absurd never

  prevented : (cause : Fault) → Prevents (F.clouds mid) task name (version_in (F.clouds mid) W name) cause → IsPrevented n task V cause
  prevented cause prevents = record {
    names = names;
    works_on = works;
    name = name;
    among = among;
    prevents =
        subst (λ (x : Version). Prevents n task name x cause) version
        (subst (λ (k : ℕ). Prevents k task name (version_in k W name) cause) clouds prevents);
  }

  pub part_stops : (f : Fault) → PartCountsBy F.counts_exactly task.act (F.faults mid) (F.faults new) f → PartStops F task name mid new f W → StopsFor n task V (failing_in F task.act old new) f
  part_stops fault.NoFile counts stops = absurd stops
  part_stops (fault.Cloud c) counts stops = failed_since c (part_rose task.act act_is F.counts_exactly (F.faults mid) (F.faults new) c counts)
  part_stops (fault.Damaged c r how) counts stops =
      subst (λ (D : Clouds). FindsDamaged n task.act D c) damaged (subst (λ (k : ℕ). FindsDamaged k task.act W.damaged c) clouds stops)
  part_stops (fault.Short bads) counts stops = short_stops (restores task.act) stops
  part_stops (fault.Conflict g x y) counts stops = absurd stops
  part_stops (fault.Misplaced c x y) counts stops = absurd stops
  part_stops (fault.Unsound x y) counts stops = absurd stops
  part_stops fault.Worn counts stops = prevented fault.Worn stops
  part_stops (fault.Spent tried) counts stops = prevented (fault.Spent tried) stops
  part_stops fault.Memory counts stops = tt

-- ---- it is done

module _ (a : Act) (is : sweeps a ≡ true) (k files : ℕ) where
  pub done_kind : IsReplyTo a (sweep_reply a k files)
  done_kind = by_sweep (λ (x : Act). IsReplyTo x (sweep_reply x k files)) (λ i. tt) tt (λ first second. tt) a is

  pub done_counts : {A : Type 0} (F : FleetGhosts A) (old new : A) → (F.counts_exactly → CleanPart a (F.faults old) (F.faults new)) → CountsSay F a old new (sweep_reply a k files)
  done_counts F old new = by_sweep (λ (x : Act). (F.counts_exactly → CleanPart x (F.faults old) (F.faults new)) → CountsSay F x old new (sweep_reply x k files)) (λ i clean exact c within. clean exact c)
      (λ clean exact c within. clean exact c) (λ first second clean. clean) a is

  pub done_took : (n : ℕ) (before now : ℕ → ℕ) → TookPart n a files before now → TookBy n a (sweep_reply a k files) before now
  done_took n before now =
      by_sweep (λ (x : Act). TookPart n x files before now → TookBy n x (sweep_reply x k files) before now) (λ i took. took) (λ took. tt) (λ first second took. tt) a is

  pub done_before : (G H : Contents) → StaysBefore G H (sweep_reply a k files)
  done_before G H = by_sweep (λ (x : Act). StaysBefore G H (sweep_reply x k files)) (λ i. tt) tt (λ first second. tt) a is

  pub done_end : (n : ℕ) (s : Setting) (bytes : List ℕ) (V : Vault) (G : Contents) → StandsDone n (task_of s a bytes) V G → StandsAtEnd n (task_of s a bytes) V G (sweep_reply a k files)
  done_end n s bytes V G =
      by_sweep (λ (x : Act). StandsDone n (task_of s x bytes) V G → StandsAtEnd n (task_of s x bytes) V G (sweep_reply x k files)) (λ i done. done) (λ done. done) (λ first second done. done) a is

  pub done_tidy : (P : Type 0) → P → IfDone (sweep_reply a k files) P
  done_tidy P = by_sweep (λ (x : Act). P → IfDone (sweep_reply x k files) P) (λ i tidy. tidy) (λ tidy. tidy) (λ first second tidy. tidy) a is

module _ (a : Act) (is : sweeps a ≡ true) (n : ℕ) (s : Setting) (bytes : List ℕ) (names : List (List ℕ)) (files : ℕ) where
  pub done_says : (F G : Contents) → AreNames n F names → AtMost a files (length names) → ((name : List ℕ) → Contains names name → LeavesName n s a name F G)
      → SaysBy n (task_of s a bytes) F G a (sweep_reply a (length names) files)
  done_says F G are =
      by_sweep (λ (x : Act). AtMost x files (length names) → ((name : List ℕ) → Contains names name → LeavesName n s x name F G) → SaysBy n (task_of s x bytes) F G x (sweep_reply x (length names) files))
      (λ i few each. record { names = names; are_names = are; few = few; each = each })
      (λ few each. record { names = names; are_names = are; is = refl; each = each })
      (λ first second few each. record { names = names; are_names = are; each = each })
      a is

  pub done_replies : (V : Vault) (X : Clouds) → AreNames n V.contents names → files ≡ files_among n a V names → RepliesWith n (task_of s a bytes) V X (sweep_reply a (length names) files)
  done_replies V X are =
      by_sweep (λ (x : Act). files ≡ files_among n x V names → RepliesWith n (task_of s x bytes) V X (sweep_reply x (length names) files))
      (λ i count. record { names = names; are_names = are; is = count ∙ files_all n i V names })
      (λ count. record { names = names; are_names = are; is = refl })
      (λ first second count. record { names = names; are_names = are; is = count ∙ objects_all n first second V names })
      a is
