-- What a get finds after a drive.
use Rattle.std.proofs.Common.{◌≡◌, ◌∙◌, ◌⊎◌, inl, inr, Option, List, [], ◌∷◌, ℕ, codes, refl, sym, ap, subst}
use Rattle.nc_state.specs.Clouds.{Clouds, no_cloud}
use Rattle.nc_state.specs.Showing.{AreBearable}
use Rattle.nc_state.specs.Vaults.{IsVault, Vault}
use Rattle.nc_words.specs.declared.act.Act.{Act}
use Rattle.nc_words.specs.declared.act.Act.TheVariants as act
use Rattle.nc_words.specs.declared.act.Command.TheVariants as command
use Rattle.nc_words.specs.Words.{Means, arguments}
use Rattle.nc_words.proofs.OneMeaning.{one_command}
use Rattle.nc_memory.specs.declared.memory.MemFleet.{MemFleet}
use Rattle.nc_memory.specs.Memory.{contents_of, width_of}
use Rattle.nc_vault.specs.declared.fault.Fault.{Fault}
use Rattle.nc_vault.specs.declared.fault.Fault.TheVariants as fault
use Rattle.nc_vault.specs.declared.reply.Reply.{Reply}
use Rattle.nc_vault.specs.declared.reply.Reply.TheVariants as reply
use Rattle.nc_vault.specs.Acting.{IsReplyTo}
use Rattle.nc_vault.specs.Counting.{failing_in}
use Rattle.nc_vault.specs.Replies.{RepliesTo, RepliesWith}
use Rattle.nc_run.specs.declared.status.Status.{Status}
use Rattle.nc_run.specs.declared.status.Status.TheVariants as st
use Rattle.nc_history.specs.Histories.{Happening, HistoryTo, empty_vault}
use Rattle.nc_history.specs.Values.{GetIsAnswered, MayStopGet}
use Rattle.nc_history.proofs.GetLaws.{last_done_is_got, no_file_is_right, nothing_else_stops_get, put_then_get}
use Rattle.nc_history.proofs.LossLaws.{damage_is}
use Rattle.nc_state.proofs.EmptyLaw.{empty_stands}
use Rattle.nc_drive.specs.declared.event.Event.{Event}
use Rattle.nc_drive.specs.declared.outcome.Outcome.{Outcome}
use Rattle.nc_drive.specs.Fleets.{clouds}
use Rattle.nc_drive.specs.Laws.{FewCausesStop, GetAfter, LastDoneIsPrinted, NoFileIsRemoved, NothingBegins, PutIsPrinted, damaged_in, history_of}
use Rattle.nc_drive.specs.Marks.{HistoryStands}
use Rattle.nc_drive.proofs.OneActLaws.{Answered, AskFor, Ended, OfVault, StoppedFor, fault_answer, run_answered, was_done, was_not}
use Rattle.nc_drive.proofs.RunLaws.{for_vault}

-- ---- clouds without objects

pub nothing_begins : NothingBegins
nothing_begins events old new outcomes d =
    let stands : IsVault (width_of old) empty_vault = empty_stands (width_of old) d.wide.0 d.wide.1 in
    d.driven.stands empty_vault (sym d.empty) stands d.few

all_damage : (n : ℕ) (hs : List Happening) (V W : Vault) → HistoryTo n hs V W → W.damaged ≡ damaged_in hs V.damaged
all_damage n [] V W same = ap (λ (U : Vault). U.damaged) same
all_damage n (h ∷ hs) V W (U, happens, stands, later) =
    all_damage n hs U W later ∙ ap (λ (D : Clouds). damaged_in hs D) (damage_is n h V U happens)

-- ---- how a get is answered

get_asks : (n : ℕ) (words : List (List ℕ)) (name : List ℕ) → arguments words ≡ codes "get" ∷ name ∷ [] → AskFor n words (act.Get name)
get_asks n words name is = record {
  only = λ request asks.
      one_command n (codes "get" ∷ name ∷ []) request.command (command.Act (act.Get name))
      (subst (λ (given : List (List ℕ)). Means n given request.command) is asks.command.means) refl;
  reads_none = refl;
}

bytes_answer : (name : List ℕ) (answer : Reply) (status : Status) (out : List ℕ) → IsReplyTo (act.Get name) answer → status ≡ st.Ok → Ended answer status out → answer ≡ reply.Bytes out
bytes_answer name (reply.Bytes v) status out kind ok (was_done done is said) = ap reply.Bytes (sym said)
bytes_answer name (reply.Bytes v) status out kind ok (was_not undone is) = absurd cc
bytes_answer name (reply.Stopped cause after) status out kind ok (was_done done is said) = absurd cc
bytes_answer name (reply.Stopped cause after) status out kind ok (was_not undone is) =
    let wrong : st.Ok ≡ st.Vault cause = sym ok ∙ is in
    absurd cc
bytes_answer name (reply.Stored generation) status out kind ok ended = absurd kind
bytes_answer name (reply.Removed generation) status out kind ok ended = absurd kind
bytes_answer name (reply.Listing rows) status out kind ok ended = absurd kind
bytes_answer name (reply.About generation len witnessed) status out kind ok ended = absurd kind
bytes_answer name (reply.Repaired files) status out kind ok ended = absurd kind
bytes_answer name (reply.Restored objects) status out kind ok ended = absurd kind
bytes_answer name (reply.Settled names) status out kind ok ended = absurd kind
bytes_answer name (reply.Damage flaws) status out kind ok ended = absurd kind

-- ---- after a drive

module _ (events : List Event) (old mid new : MemFleet) (outcomes : List Outcome) (name : List ℕ) (o : Outcome) (a : GetAfter events old mid new outcomes name o) where
  abbrev n : ℕ
  n = width_of old

  abbrev stands : HistoryStands n (history_of a.drive) empty_vault (contents_of mid)
  stands = nothing_begins events old mid outcomes a.drive

  answered : OfVault o.status → Answered (act.Get name) mid new o.status o.out ⊎ (o.status ≡ st.Vault fault.Memory)
  answered of =
      run_answered a.words (act.Get name) a.given mid new o.status o.out (get_asks (width_of mid) a.words name a.asks) of a.run.done a.run.next a.run.runs

  -- its answer on the vault that the history leads to
  abbrev on_vault : (g : Answered (act.Get name) mid new o.status o.out) (answer : Reply) → g.answer ≡ answer → GetIsAnswered n stands.vault name answer
  on_vault g answer is =
      let wide : width_of mid ≡ n = a.drive.driven.width in
      let here : IsVault (width_of mid) stands.vault = subst (λ (k : ℕ). IsVault k stands.vault) (sym wide) stands.stands in
      let replies : RepliesTo clouds g.task mid new g.answer stands.vault =
      for_vault (width_of mid) (contents_of mid) (RepliesTo clouds g.task mid new g.answer) (g.acted.replies tt) stands.vault stands.contents here in
      let there : RepliesWith n g.task stands.vault (failing_in clouds g.task.act mid new) g.answer =
      subst (λ (k : ℕ). RepliesWith k g.task stands.vault (failing_in clouds g.task.act mid new) g.answer) wide replies in
      let damaged : stands.vault.damaged ≡ damaged_in (history_of a.drive) no_cloud = all_damage n (history_of a.drive) empty_vault stands.vault stands.history in
      record {
        get = g.task;
        is_get = g.is_act;
        failing = failing_in clouds (act.Get name) mid new;
        bearable = subst (λ (D : Clouds). AreBearable n D (failing_in clouds (act.Get name) mid new)) (sym damaged) a.bearable;
        replies = subst (λ (r : Reply). RepliesWith n g.task stands.vault (failing_in clouds (act.Get name) mid new) r) is
            (subst (λ (k : Act). RepliesWith n g.task stands.vault (failing_in clouds k mid new) g.answer) g.is_act there);
      }

  printed_bytes : o.status ≡ st.Ok → GetIsAnswered n stands.vault name (reply.Bytes o.out)
  printed_bytes ok =
      elim (answered (subst (λ (s : Status). OfVault s) (sym ok) tt)) [
        | inl g ↦
            on_vault g (reply.Bytes o.out)
            (bytes_answer name g.answer o.status o.out (subst (λ (k : Act). IsReplyTo k g.answer) g.is_act g.acted.kind) ok g.ended)
        | inr memory ↦
            let wrong : st.Ok ≡ st.Vault fault.Memory = sym ok ∙ memory in
            absurd cc
      ]

  abbrev stopped_by : (g : Answered (act.Get name) mid new o.status o.out) (cause : Fault) → o.status ≡ st.Vault cause
      → (after : Option ℕ) × GetIsAnswered n stands.vault name (reply.Stopped cause after)
  stopped_by g cause is =
      let s : StoppedFor cause g.answer = fault_answer g.answer o.status o.out cause is g.ended in
      (s.after, on_vault g (reply.Stopped cause s.after) s.is)

  no_file : o.status ≡ st.Vault fault.NoFile → (after : Option ℕ) × GetIsAnswered n stands.vault name (reply.Stopped fault.NoFile after)
  no_file is =
      elim (answered (subst (λ (s : Status). OfVault s) (sym is) tt)) [
        | inl g ↦ stopped_by g fault.NoFile is
        | inr memory ↦
            let wrong : st.Vault fault.NoFile ≡ st.Vault fault.Memory = sym is ∙ memory in
            absurd cc
      ]

  may_stop : (cause : Fault) → o.status ≡ st.Vault cause → MayStopGet (failing_in clouds (act.Get name) mid new) cause
  may_stop cause is =
      elim (answered (subst (λ (s : Status). OfVault s) (sym is) tt)) [
        | inl g ↦
            let stopped = stopped_by g cause is in
            nothing_else_stops_get n stands.vault name cause stopped.0 stopped.1
        | inr memory ↦
            let there : st.Vault cause ≡ st.Vault fault.Memory = sym is ∙ memory in
            let same : cause ≡ fault.Memory = cc in
            subst (λ (f : Fault). MayStopGet (failing_in clouds (act.Get name) mid new) f) (sym same) tt
      ]

pub last_done_is_printed : LastDoneIsPrinted
last_done_is_printed events old mid new outcomes name o a gave ok =
    let s = nothing_begins events old mid outcomes a.drive in
    last_done_is_got (width_of old) (history_of a.drive) empty_vault s.vault name o.out gave s.history (printed_bytes events old mid new outcomes name o a ok)

pub no_file_is_removed : NoFileIsRemoved
no_file_is_removed events old mid new outcomes name o a gave is =
    let s = nothing_begins events old mid outcomes a.drive in
    let stopped = no_file events old mid new outcomes name o a is in
    no_file_is_right (width_of old) (history_of a.drive) empty_vault s.vault name stopped.0 gave s.history stopped.1

pub few_causes_stop : FewCausesStop
few_causes_stop events old mid new outcomes name o cause a is = may_stop events old mid new outcomes name o a cause is

pub put_is_printed : PutIsPrinted
put_is_printed events old mid new outcomes name o a gave is none ok =
    let s = nothing_begins events old mid outcomes a.drive in
    put_then_get (width_of old) (history_of a.drive) empty_vault s.vault name o.out gave s.history is none (printed_bytes events old mid new outcomes name o a ok)
