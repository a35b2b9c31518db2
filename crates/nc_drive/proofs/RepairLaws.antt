-- What a repair leaves after a drive.
use Rattle.std.proofs.Common.{◌≡◌, ◌∙◌, ◌+◌, ℕ, false, None, Some, List, inl, inr, [], ◌∷◌, codes, refl, sym, ap, subst, arith}
use Rattle.nc_state.specs.Vaults.{IsVault, Vault}
use Rattle.nc_words.specs.declared.act.Act.{Act}
use Rattle.nc_words.specs.declared.act.Act.TheVariants as act
use Rattle.nc_words.specs.declared.act.Command.{Command}
use Rattle.nc_words.specs.declared.act.Command.TheVariants as command
use Rattle.nc_words.specs.Numbers.{IsNumber}
use Rattle.nc_words.specs.Words.{AsksRepair, Means, arguments}
use Rattle.nc_words.proofs.OneMeaning.{one_command}
use Rattle.nc_memory.specs.declared.memory.MemFleet.{MemFleet}
use Rattle.nc_memory.specs.Memory.{chunk_gets_of, contents_of, width_of}
use Rattle.nc_vault.specs.declared.fault.Fault.TheVariants as fault
use Rattle.nc_vault.specs.declared.reply.Reply.{Reply}
use Rattle.nc_vault.specs.declared.reply.Reply.TheVariants as reply
use Rattle.nc_vault.specs.Acting.{IsReplyTo}
use Rattle.nc_vault.specs.Counting.{TookBy, failing_in}
use Rattle.nc_vault.specs.Replies.{RepliesBy, RepliesTo, RepliesWith}
use Rattle.nc_vault.specs.Vaults.{ActKeeps, StandsAtEnd, StandsDone}
use Rattle.nc_run.specs.declared.status.Status.{Status}
use Rattle.nc_run.specs.declared.status.Status.TheVariants as st
use Rattle.nc_run.specs.Texts.{text_of}
use Rattle.nc_history.specs.Histories.{empty_vault}
use Rattle.nc_history.specs.Repairs.{DoesRepair}
use Rattle.nc_history.proofs.RepairLaws.{repaired_is_good, repaired_is_whole}
use Rattle.nc_drive.specs.Fleets.{clouds}
use Rattle.nc_drive.specs.Laws.{AcknowledgedRepair, Repaired, history_of}
use Rattle.nc_drive.specs.Marks.{HistoryStands}
use Rattle.nc_drive.proofs.GetLaws.{nothing_begins}
use Rattle.nc_drive.proofs.OneActLaws.{Answered, AskFor, Ended, OfVault, run_answered, was_done, was_not}
use Rattle.nc_drive.proofs.RunLaws.{for_vault}

-- ---- its words

-- among more clouds the words still ask for it
asked_alone : (text : List ℕ) (cloud : ℕ) → IsNumber text cloud → AsksRepair (cloud + 1) (codes "repair" ∷ text ∷ []) cloud
asked_alone text cloud is = record { text = text; words_are = refl; number = record { number = is; within = omega arith } }

same_number : (text other : List ℕ) (a b : ℕ) → text ≡ other → IsNumber text a → IsNumber other b → b ≡ a
same_number text other a b same x y =
    let here : IsNumber text b = subst (λ (t : List ℕ). IsNumber t b) (sym same) y in
    here.value_is ∙ sym x.value_is

asked_cloud : (n : ℕ) (text : List ℕ) (cloud : ℕ) (c : Command) → IsNumber text cloud → Means n (codes "repair" ∷ text ∷ []) c → c ≡ command.Act (act.Repair cloud)
asked_cloud n text cloud (command.Act (act.Repair own)) is means =
    let words : codes "repair" ∷ text ∷ [] ≡ codes "repair" ∷ means.text ∷ [] = means.words_are in
    let same : text ≡ means.text = cc in
    ap (λ (k : ℕ). command.Act (act.Repair k)) (same_number text means.text cloud own same is means.number.number)
asked_cloud n text cloud (command.Act (act.Restore first None)) is means =
    let words : codes "repair" ∷ text ∷ [] ≡ codes "restore" ∷ means.text ∷ [] = means.words_are in
    absurd cc
asked_cloud n text cloud (command.Act (act.Restore first (Some second))) is means =
    let words : codes "repair" ∷ text ∷ [] ≡ codes "restore" ∷ means.text ∷ means.other ∷ [] = means.words_are in
    absurd cc
asked_cloud n text cloud (command.Act other) is means =
    one_command (cloud + 1) (codes "repair" ∷ text ∷ []) (command.Act other) (command.Act (act.Repair cloud)) means (asked_alone text cloud is)
asked_cloud n text cloud command.Batch is means =
    one_command (cloud + 1) (codes "repair" ∷ text ∷ []) command.Batch (command.Act (act.Repair cloud)) means (asked_alone text cloud is)
asked_cloud n text cloud (command.Mill number) is means =
    one_command (cloud + 1) (codes "repair" ∷ text ∷ []) (command.Mill number) (command.Act (act.Repair cloud)) means (asked_alone text cloud is)

repair_asks : (n : ℕ) (words : List (List ℕ)) (text : List ℕ) (cloud : ℕ) → IsNumber text cloud → arguments words ≡ codes "repair" ∷ text ∷ []
    → AskFor n words (act.Repair cloud)
repair_asks n words text cloud is given = record {
  only = λ request asks.
      asked_cloud n text cloud request.command is (subst (λ (ws : List (List ℕ)). Means n ws request.command) given asks.command.means);
  reads_none = refl;
}

-- ---- its answer

record DidRepair (answer : Reply) (out : List ℕ) : Type 0 where
  files : ℕ
  is : answer ≡ reply.Repaired files
  printed : out ≡ text_of false (reply.Repaired files)

did_repair : (cloud : ℕ) (answer : Reply) (status : Status) (out : List ℕ) → IsReplyTo (act.Repair cloud) answer → status ≡ st.Ok → Ended answer status out → DidRepair answer out
did_repair cloud (reply.Repaired files) status out kind ok (was_done done is said) = record { files = files; is = refl; printed = said }
did_repair cloud (reply.Repaired files) status out kind ok (was_not undone is) = absurd cc
did_repair cloud (reply.Stopped cause after) status out kind ok (was_done done is said) = absurd cc
did_repair cloud (reply.Stopped cause after) status out kind ok (was_not undone is) =
    let wrong : st.Ok ≡ st.Vault cause = sym ok ∙ is in
    absurd cc
did_repair cloud (reply.Bytes v) status out kind ok ended = absurd kind
did_repair cloud (reply.Stored generation) status out kind ok ended = absurd kind
did_repair cloud (reply.Removed generation) status out kind ok ended = absurd kind
did_repair cloud (reply.Listing rows) status out kind ok ended = absurd kind
did_repair cloud (reply.About generation len witnessed) status out kind ok ended = absurd kind
did_repair cloud (reply.Restored objects) status out kind ok ended = absurd kind
did_repair cloud (reply.Settled names) status out kind ok ended = absurd kind
did_repair cloud (reply.Damage flaws) status out kind ok ended = absurd kind

-- ---- what it leaves of a vault

module _ (cloud : ℕ) (mid new : MemFleet) (status : Status) (out : List ℕ) (g : Answered (act.Repair cloud) mid new status out) (V : Vault)
    (at : V.contents ≡ contents_of mid) (stands : IsVault (width_of mid) V) (ok : status ≡ st.Ok) where
  abbrev n : ℕ
  n = width_of mid

  did : DidRepair g.answer out
  did = did_repair cloud g.answer status out (subst (λ (k : Act). IsReplyTo k g.answer) g.is_act g.acted.kind) ok g.ended

  end : StandsDone n g.task V (contents_of new)
  end =
      let keeps : ActKeeps clouds n g.task mid new g.answer V =
      for_vault n (contents_of mid) (ActKeeps clouds n g.task mid new g.answer) (g.acted.stands tt) V at stands in
      subst (λ (r : Reply). StandsAtEnd n g.task V (contents_of new) r) did.is keeps.end

  replies : RepliesBy n V (failing_in clouds g.task.act mid new) (act.Repair cloud) (reply.Repaired did.files)
  replies =
      let answered : RepliesTo clouds g.task mid new g.answer V =
      for_vault n (contents_of mid) (RepliesTo clouds g.task mid new g.answer) (g.acted.replies tt) V at stands in
      let there : RepliesWith n g.task V (failing_in clouds g.task.act mid new) (reply.Repaired did.files) =
      subst (λ (r : Reply). RepliesWith n g.task V (failing_in clouds g.task.act mid new) r) did.is answered in
      subst (λ (a : Act). RepliesBy n V (failing_in clouds g.task.act mid new) a (reply.Repaired did.files)) g.is_act there

  took : TookBy n (act.Repair cloud) (reply.Repaired did.files) (chunk_gets_of mid) (chunk_gets_of new)
  took =
      subst (λ (r : Reply). TookBy n (act.Repair cloud) r (chunk_gets_of mid) (chunk_gets_of new)) did.is
      (subst (λ (a : Act). TookBy n a g.answer (chunk_gets_of mid) (chunk_gets_of new)) g.is_act g.acted.took)

  does : DoesRepair n cloud g.task V end.vault
  does = record { is_repair = g.is_act; stood = stands; done = end.done }

  repaired : Repaired n cloud V mid new out
  repaired = record {
    files = did.files;
    counts = replies;
    printed = did.printed;
    took = took;
    task = g.task;
    left = end.vault;
    contents = end.contents;
    stands = end.stands;
    repairs = does;
    good = repaired_is_good n cloud g.task V end.vault does;
    whole = repaired_is_whole n cloud g.task V end.vault does;
  }

pub acknowledged_repair : AcknowledgedRepair
acknowledged_repair events old mid new outcomes text cloud o a ok =
    let before : HistoryStands (width_of old) (history_of a.drive) empty_vault (contents_of mid) = nothing_begins events old mid outcomes a.drive in
    let of : OfVault o.status = subst (λ (s : Status). OfVault s) (sym ok) tt in
    let wide : width_of mid ≡ width_of old = a.drive.driven.width in
    let here : IsVault (width_of mid) before.vault = subst (λ (k : ℕ). IsVault k before.vault) (sym wide) before.stands in
    elim (run_answered a.words (act.Repair cloud) a.given mid new o.status o.out (repair_asks (width_of mid) a.words text cloud a.is_number a.asks) of
    a.run.done a.run.next a.run.runs) [
      | inl g ↦
          (before, subst (λ (k : ℕ). Repaired k cloud before.vault mid new o.out) wide (repaired cloud mid new o.status o.out g before.vault before.contents here ok))
      | inr memory ↦
          let wrong : st.Ok ≡ st.Vault fault.Memory = sym ok ∙ memory in
          absurd cc
    ]
