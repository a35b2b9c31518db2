-- What a get gives after a history.
use Rattle.std.proofs.Common.{◌≡◌, ◌≢◌, ◌∙◌, ℕ, Bool, true, false, Option, None, Some, List, [], Contains, inl, inr, refl, sym, subst}
use Rattle.nc_meta.specs.declared.meta.Live.{Live}
use Rattle.nc_state.specs.Clouds.{Clouds}
use Rattle.nc_state.specs.Showing.{AreBearable}
use Rattle.nc_state.specs.Vaults.{Vault}
use Rattle.nc_state.specs.Versions.{Version, value_of}
use Rattle.nc_state.specs.Versions.Version.{Never, Removed, Stored}
use Rattle.nc_words.specs.declared.act.Act.{Act}
use Rattle.nc_words.specs.declared.act.Act.TheVariants as act
use Rattle.nc_words.specs.Acts.{Task}
use Rattle.nc_vault.specs.Counting.{bears_failures, restores}
use Rattle.nc_vault.specs.Replies.{CannotBe, FindsDamaged, FindsNoFile, FindsTooFew, IsPrevented, RepliesBy, StopsFor}
use Rattle.nc_vault.specs.Showing.{ReadsFile, ReadsNone}
use Rattle.nc_vault.specs.Vaults.{WorksOn}
use Rattle.nc_vault.specs.declared.fault.Fault.{Fault}
use Rattle.nc_vault.specs.declared.fault.Fault.TheVariants as fault
use Rattle.nc_vault.specs.declared.reply.Reply.TheVariants as reply
use Rattle.nc_vault.proofs.Members.{in_none}
use Rattle.nc_history.specs.Histories.{Happening}
use Rattle.nc_history.specs.Laws.{EnoughAreGood, LastDoneIsGot, NeverPutHasNoFile, NoFileIsRight, NoneDoneIsUnfinished, NothingElseStopsGet, PutIsFound, PutThenGet, RemovedIsGone}
use Rattle.nc_history.specs.Values.{GaveLast, GetIsAnswered, IsAllowed, MayStopGet, new_value_by, since, unfinished}
use Rattle.nc_history.proofs.ActLaws.{own_value}
use Rattle.nc_history.proofs.EntryLaws.{MayShow, read_shows}
use Rattle.nc_history.proofs.HistoryLaws.{history_shows, last_shows}

-- ---- what the name shows by the answer

bytes_shown : (n : ℕ) (W : Vault) (name v : List ℕ) → GetIsAnswered n W name (reply.Bytes v) → MayShow (W.entries name) (Some v)
bytes_shown n W name v answered =
    let file : ReadsFile n W answered.failing name v =
    subst (λ (a : Act). RepliesBy n W answered.failing a (reply.Bytes v)) answered.is_get answered.replies answered.bearable in
    read_shows n W.contents answered.failing name (W.entries name) (Stored file.meta v) file.shown

no_value : (x : Version) → ((m : Live) (v : List ℕ) → x ≢ Stored m v) → value_of x ≡ None
no_value Never none = refl
no_value (Removed generation) none = refl
no_value (Stored m v) none = absurd (none m v refl)

none_shown : (n : ℕ) (W : Vault) (name : List ℕ) (after : Option ℕ) → GetIsAnswered n W name (reply.Stopped fault.NoFile after) → MayShow (W.entries name) None
none_shown n W name after answered =
    let none : ReadsNone n W answered.failing name =
    subst (λ (a : Act). FindsNoFile n answered.get W answered.failing a) answered.is_get answered.replies answered.bearable in
    let shown = read_shows n W.contents answered.failing name (W.entries name) none.version none.shown in
    subst (MayShow (W.entries name)) (no_value none.version none.no_file) shown

-- ---- why it stops

cannot_be : (n : ℕ) (W : Vault) (X : Clouds) (b : Bool) → AreBearable n W.damaged X → CannotBe n W X b → ⊥
cannot_be n W X true few is = is few
cannot_be n W X false few is = is

-- a get works on no name, so none prevents it
none_prevents : (n : ℕ) (get : Task) (W : Vault) (name : List ℕ) (cause : Fault) → get.act ≡ act.Get name → IsPrevented n get W cause → ⊥
none_prevents n get W name cause is prevented =
    let works : prevented.names ≡ [] = subst (λ (a : Act). WorksOn n W.contents a prevented.names) is prevented.works_on in
    in_none prevented.name (subst (λ (ns : List (List ℕ)). Contains ns prevented.name) works prevented.among)

stops_only : (n : ℕ) (get : Task) (W : Vault) (X : Clouds) (name : List ℕ) (cause : Fault) → get.act ≡ act.Get name → AreBearable n W.damaged X
    → StopsFor n get W X cause → MayStopGet X cause
stops_only n get W X name fault.NoFile is few stops = tt
stops_only n get W X name (fault.Cloud c) is few stops = stops
stops_only n get W X name (fault.Damaged c r how) is few stops = subst (λ (a : Act). FindsDamaged n a W.damaged c) is stops
stops_only n get W X name (fault.Short bads) is few stops = subst (λ (a : Act). FindsTooFew (restores a) n a W X) is stops few
stops_only n get W X name (fault.Conflict generation a b) is few stops = cannot_be n W X (bears_failures get.act) few stops
stops_only n get W X name (fault.Misplaced c a w) is few stops = stops
stops_only n get W X name (fault.Unsound a b) is few stops = cannot_be n W X (bears_failures get.act) few stops
stops_only n get W X name fault.Worn is few stops = none_prevents n get W name fault.Worn is stops
stops_only n get W X name (fault.Spent tried) is few stops = none_prevents n get W name (fault.Spent tried) is stops
stops_only n get W X name fault.Memory is few stops = tt

pub nothing_else_stops_get : NothingElseStopsGet
nothing_else_stops_get n W name cause after answered =
    stops_only n answered.get W answered.failing name cause answered.is_get answered.bearable answered.replies

pub enough_are_good : EnoughAreGood
enough_are_good n W name bads after answered = nothing_else_stops_get n W name (fault.Short bads) after answered

-- ---- after a history

pub last_done_is_got : LastDoneIsGot
last_done_is_got n hs V W name v gave history answered = last_shows n hs V W name (Some v) gave history (bytes_shown n W name v answered)

pub no_file_is_right : NoFileIsRight
no_file_is_right n hs V W name after gave history answered = last_shows n hs V W name None gave history (none_shown n W name after answered)

pub none_done_is_unfinished : NoneDoneIsUnfinished
none_done_is_unfinished n hs W name v history none answered =
    elim (history_shows n hs _ W name (Some v) history none (bytes_shown n W name v answered)) [
      | inl never ↦ absurd (let wrong : Some v ≡ None = never in cc)
      | inr among ↦ among
    ]

none_in : (values : List (Option (List ℕ))) (shown : Option (List ℕ)) → values ≡ [] → Contains values shown → ⊥
none_in values shown none among = in_none shown (subst (λ (l : List (Option (List ℕ))). Contains l shown) none among)

pub never_put_has_no_file : NeverPutHasNoFile
never_put_has_no_file n hs W name v history none nothing answered =
    none_in (unfinished hs name) (Some v) nothing (none_done_is_unfinished n hs W name v history none answered)

-- ---- where nothing since is unfinished

only_value : (name : List ℕ) (hs : List Happening) (gave : GaveLast name hs) (shown : Option (List ℕ)) → unfinished (since gave) name ≡ [] → IsAllowed gave shown → shown ≡ gave.value
only_value name hs gave shown nothing allowed =
    elim allowed [
      | inl is ↦ is
      | inr among ↦ absurd (none_in (unfinished (since gave) name) shown nothing among)
    ]

-- what a put gives its own name, and a removal
put_gives : (name : List ℕ) (hs : List Happening) (gave : GaveLast name hs) → gave.task.act ≡ act.Put name → gave.value ≡ Some gave.task.bytes
put_gives name hs gave put =
    let gives : new_value_by (act.Put name) gave.task.bytes name ≡ Some gave.value =
    subst (λ (a : Act). new_value_by a gave.task.bytes name ≡ Some gave.value) put gave.gives in
    let same : Some (Some gave.task.bytes) ≡ Some gave.value = sym (own_value name name (Some gave.task.bytes) refl) ∙ gives in
    cc

removal_gives : (name : List ℕ) (hs : List Happening) (gave : GaveLast name hs) → gave.task.act ≡ act.Remove name → gave.value ≡ None
removal_gives name hs gave removal =
    let gives : new_value_by (act.Remove name) gave.task.bytes name ≡ Some gave.value =
    subst (λ (a : Act). new_value_by a gave.task.bytes name ≡ Some gave.value) removal gave.gives in
    let same : Some None ≡ Some gave.value = sym (own_value name name None refl) ∙ gives in
    cc

pub put_then_get : PutThenGet
put_then_get n hs V W name v gave history put nothing answered =
    let is : Some v ≡ gave.value = only_value name hs gave (Some v) nothing (last_done_is_got n hs V W name v gave history answered) in
    let same : Some v ≡ Some gave.task.bytes = is ∙ put_gives name hs gave put in
    cc

pub put_is_found : PutIsFound
put_is_found n hs V W name after gave history put nothing answered =
    let is : None ≡ gave.value = only_value name hs gave None nothing (no_file_is_right n hs V W name after gave history answered) in
    let wrong : None ≡ Some gave.task.bytes = is ∙ put_gives name hs gave put in
    absurd cc

pub removed_is_gone : RemovedIsGone
removed_is_gone n hs V W name v gave history removal nothing answered =
    let is : Some v ≡ gave.value = only_value name hs gave (Some v) nothing (last_done_is_got n hs V W name v gave history answered) in
    let wrong : Some v ≡ None = is ∙ removal_gives name hs gave removal in
    absurd cc
