-- A run of one act: what it did, and how it ended.
use Rattle.std.proofs.Common.{◌≡◌, ◌∙◌, ◌++◌, ◌⊎◌, ℕ, true, false, Option, None, Some, List, [], ◌∷◌, append-nil, inl, inr, refl, sym, ap, subst}
use Rattle.nc_words.specs.declared.act.Act.{Act}
use Rattle.nc_words.specs.declared.act.Command.{Command}
use Rattle.nc_words.specs.declared.act.Command.TheVariants as command
use Rattle.nc_words.specs.declared.act.Request.{Request}
use Rattle.nc_words.specs.declared.setting.Setting.{Setting}
use Rattle.nc_words.specs.Acts.{Task, task_of}
use Rattle.nc_words.specs.Words.{Asks}
use Rattle.nc_stream.specs.declared.memory.MemSink.{MemSink}
use Rattle.nc_memory.specs.declared.memory.MemFleet.{MemFleet}
use Rattle.nc_memory.specs.Memory.{width_of}
use Rattle.nc_vault.specs.declared.fault.Fault.{Fault}
use Rattle.nc_vault.specs.declared.fault.Fault.TheVariants as fault
use Rattle.nc_vault.specs.declared.reply.Reply.{Reply}
use Rattle.nc_vault.specs.declared.reply.Reply.TheVariants as reply
use Rattle.nc_vault.specs.Acting.{Acted}
use Rattle.nc_run.specs.declared.status.Status.{Status}
use Rattle.nc_run.specs.declared.status.Status.TheVariants as st
use Rattle.nc_run.specs.Course.{Course, Ends, SaysBy}
use Rattle.nc_run.specs.Ending.{HowEnded, IsRefused, status_of}
use Rattle.nc_run.specs.Items.{Fit, FitsNext, Item, NextAsksNothing, NextIsLine, is_batch, items_by}
use Rattle.nc_run.specs.Items.Item.{Alone}
use Rattle.nc_run.specs.Sides.{reads_input, sides}
use Rattle.nc_run.specs.Texts.{text_of}
use Rattle.nc_run.specs.Turns.{Takes, TakesAll, TakesNext, Turn, is_done}
use Rattle.nc_drive.specs.Fleets.{clouds, output, written_to}
use Rattle.nc_drive.specs.Outcomes.{GoesBy, Runs, not_read, was_milled, was_refused, was_run, was_unbegun}
use Rattle.nc_drive.proofs.RunLaws.{EndedSo, ended_so, ending_of}

-- ---- its act

-- how a run of one act ended: its act was done, and its text was printed, or it wasn't
pub data Ended (answer : Reply) (status : Status) (out : List ℕ) : Type 0 where
  was_done : is_done answer ≡ true → status ≡ st.Ok → out ≡ text_of false answer → Ended answer status out
  was_not : is_done answer ≡ false → status ≡ status_of answer → Ended answer status out

record OneTurn (task : Task) (old new : MemFleet) (status : Status) (out : List ℕ) : Type 0 where
  turn : Turn MemFleet
  is_task : turn.task ≡ task
  takes : Takes clouds old turn
  after : new ≡ turn.after
  ended : Ended turn.answer status out

-- no line of a batch is left
record NoLine (n : ℕ) (left : List Item) : Type 0 where
  is_none : NextIsLine left → ⊥
  asks : NextAsksNothing n left → ⊥

-- a run that ended so did all that it was to do
all_ok : (n : ℕ) (left : List Item) (done : List (Turn MemFleet)) (status : Status) → NoLine n left → Ends n left done None status → (status ≡ st.WriteFault → ⊥)
    → (status ≡ st.Ok) × (left ≡ [])
all_ok n left done st.Ok no_line ends complete = (refl, ends)
all_ok n left done (st.Width w) no_line ends complete = absurd ends
all_ok n left done st.Usage no_line ends complete = absurd ends
all_ok n left done (st.Name cause) no_line ends complete = absurd ends
all_ok n left done (st.BatchLine k) no_line ends complete = absurd (no_line.asks ends.1)
all_ok n left done st.TooLong no_line ends complete = absurd ends
all_ok n left done st.ReadFault no_line ends complete = absurd ends
all_ok n left done st.WriteFault no_line ends complete = absurd (complete refl)
all_ok n left done (st.Vault fault.Memory) no_line ends complete = absurd (no_line.is_none ends)
all_ok n left done (st.Vault cause) no_line ends complete = absurd ends

module _ (task : Task) (old new : MemFleet) (sink filled : MemSink) (n : ℕ) (e : HowEnded) (out : List ℕ) (empty : written_to sink ≡ [])
    (printed : written_to filled ≡ out) (complete : e.status ≡ st.WriteFault → ⊥) where
  abbrev Turned : Type 0
  Turned = OneTurn task old new e.status out

  one_left : (left : List Item) → left ≡ Alone task ∷ [] → left ≡ [] → ⊥
  one_left left is none =
      let wrong : Alone task ∷ [] ≡ [] = sym is ∙ none in
      absurd cc

  alone : (left : List Item) → left ≡ Alone task ∷ [] → NoLine n left
  alone left is = subst (λ (items : List Item). NoLine n items) (sym is) (record { is_none = λ line. line; asks = λ line. line })

  nothing : (left : List Item) → left ≡ [] → NoLine n left
  nothing left is = subst (λ (items : List Item). NoLine n items) (sym is) (record { is_none = λ line. line; asks = λ line. line })

  wants : (left : List Item) (t : Turn MemFleet) → left ≡ Alone task ∷ [] → FitsNext n left (Some t) → t.task ≡ task
  wants left t is fits =
      let there : FitsNext n (Alone task ∷ []) (Some t) = subst (λ (items : List Item). FitsNext n items (Some t)) is fits in
      there

  wants_none : (left : List Item) (t : Turn MemFleet) → left ≡ [] → FitsNext n left (Some t) → ⊥
  wants_none left t is fits = subst (λ (items : List Item). FitsNext n items (Some t)) is fits

  said : (t : Turn MemFleet) (s : Status) → s ≡ st.Ok → SaysBy output false (t ∷ []) sink filled s → out ≡ text_of false t.answer
  said t s ok says =
      let there : SaysBy output false (t ∷ []) sink filled st.Ok = subst (λ (k : Status). SaysBy output false (t ∷ []) sink filled k) ok says in
      let whole : written_to filled ≡ written_to sink ++ (text_of false t.answer ++ []) = there in
      sym printed ∙ whole ∙ ap (λ (l : List ℕ). l ++ (text_of false t.answer ++ [])) empty ∙ append-nil (text_of false t.answer)

  by_turns : (left : List Item) (middle : MemFleet) (done : List (Turn MemFleet)) (next : Option (Turn MemFleet)) → Fit n (Alone task ∷ []) done left
      → FitsNext n left next → TakesAll clouds old done middle → TakesNext clouds middle next new → Ends n left done next e.status
      → SaysBy output false done sink filled e.status → Turned
  by_turns left middle [] None fit fits all one ends says = absurd (one_left left fit (all_ok n left [] e.status (alone left fit) ends complete).1)
  by_turns left middle [] (Some t) fit fits all one ends says = record {
    turn = t;
    is_task = wants left t fit fits;
    takes = subst (λ (s : MemFleet). Takes clouds s t) all one.0;
    after = one.1;
    ended = was_not ends.0 ends.1;
  }
  by_turns left middle (t ∷ []) None fit fits all one ends says =
      let ok : e.status ≡ st.Ok = (all_ok n left (t ∷ []) e.status (nothing left fit.1) ends complete).0 in
      record {
        turn = t;
        is_task = fit.0;
        takes = all.0;
        after = one ∙ all.2;
        ended = was_done all.1 ok (said t e.status ok says);
      }
  by_turns left middle (t ∷ []) (Some u) fit fits all one ends says = absurd (wants_none left u fit.1 fits)
  by_turns left middle (t ∷ u ∷ ts) next fit fits all one ends says = absurd fit.1

  one_turn : Course clouds output n false (Alone task ∷ []) old new sink filled (Some e) → Turned
  one_turn c = by_turns c.left c.middle c.done c.next c.fit c.fits_next c.takes_all c.takes_next c.ends.ends c.says

-- ---- how it is answered

-- the answer of this act, which was run on the clouds, and what status and output say of it
pub record Answered (a : Act) (old new : MemFleet) (status : Status) (out : List ℕ) : Type 0 where
  pub task : Task
  pub is_act : task.act ≡ a
  pub answer : Reply
  pub acted : Acted clouds task old new answer
  pub ended : Ended answer status out

answered_turn : (a : Act) (task : Task) (old new : MemFleet) (status : Status) (out : List ℕ) → task.act ≡ a → OneTurn task old new status out → Answered a old new status out
answered_turn a task old new status out is t =
    let acted : Acted clouds t.turn.task old t.turn.after t.turn.answer = subst (λ (s : MemFleet). Acted clouds t.turn.task s t.turn.after t.turn.answer) t.takes.from_here t.takes.acted in
    record {
      task = t.turn.task;
      is_act = ap (λ (k : Task). k.act) t.is_task ∙ is;
      answer = t.turn.answer;
      acted = subst (λ (s : MemFleet). Acted clouds t.turn.task old s t.turn.answer) (sym t.after) acted;
      ended = t.ended;
    }

-- a run that ended with its command done, or with a cause of the vault, was run on the clouds
abbrev pub OfVault : Status → Type 0
OfVault st.Ok = Unit {0}
OfVault (st.Vault cause) = Unit {0}
OfVault other = ⊥

not_refused : (status : Status) → OfVault status → IsRefused status → ⊥
not_refused st.Ok of refused = refused
not_refused (st.Width w) of refused = of
not_refused st.Usage of refused = of
not_refused (st.Name cause) of refused = of
not_refused (st.BatchLine k) of refused = of
not_refused st.TooLong of refused = of
not_refused st.ReadFault of refused = of
not_refused st.WriteFault of refused = of
not_refused (st.Vault cause) of refused = refused

-- words that ask for this act alone, which reads no input
pub record AskFor (n : ℕ) (words : List (List ℕ)) (a : Act) : Type 0 where
  pub only : (request : Request) → Asks n words request → request.command ≡ command.Act a
  pub reads_none : reads_input (command.Act a) ≡ false

module _ (words : List (List ℕ)) (a : Act) (given : List ℕ) (old new : MemFleet) (status : Status) (out : List ℕ) (ask : AskFor (width_of old) words a) (of : OfVault status) where
  not_unread : (wanted : Command) → wanted ≡ command.Act a → reads_input wanted ≡ true → ⊥
  not_unread wanted is reads =
      let wrong : false ≡ true = sym (ap reads_input is ∙ ask.reads_none) ∙ reads in
      absurd cc

  not_mill : (wanted : Command) (number : ℕ) → wanted ≡ command.Act a → wanted ≡ command.Mill number → ⊥
  not_mill wanted number is mills =
      let wrong : command.Act a ≡ command.Mill number = sym is ∙ mills in
      absurd cc

  course_turn : (input : List ℕ) (setting : Setting) (wanted : Command) (sink filled : MemSink) (e : HowEnded) → wanted ≡ command.Act a → written_to sink ≡ []
      → written_to filled ≡ out → (e.status ≡ st.WriteFault → ⊥)
      → Course clouds output (width_of old) (is_batch wanted) (items_by setting wanted input) old new sink filled (Some e)
      → OneTurn (task_of setting a input) old new e.status out
  course_turn input setting wanted sink filled e is empty printed complete c =
      one_turn (task_of setting a input) old new sink filled (width_of old) e out empty printed complete
      (subst (λ (k : Command). Course clouds output (width_of old) (is_batch k) (items_by setting k input) old new sink filled (Some e)) is c)

  -- it was done so, or memory ran out while the words were read
  pub run_answered : (done : List (Turn MemFleet)) (next : Option (Turn MemFleet)) → Runs words given old new (Some status) out done next
      → Answered a old new status out ⊎ (status ≡ st.Vault fault.Memory)
  run_answered done next r = by_goes r.goes
    where
      ended : EndedSo r.ending status
      ended = ending_of r.ending status r.is

      same : (e : HowEnded) → r.ending ≡ Some e → status ≡ e.status
      same e ends =
          let there : Some status ≡ Some e.status = ended_so r.ending e (Some status) r.is ends in
          cc

      by_goes : GoesBy words (sides old r.source r.sink) (sides new r.read r.filled) r.ending done next → Answered a old new status out ⊎ (status ≡ st.Vault fault.Memory)
      by_goes (was_refused e ends refused idle) = absurd (not_refused status of (subst (λ (s : Status). IsRefused s) (sym (same e ends)) refused))
      by_goes (was_unbegun e ends memory u idle) = inr (same e ends ∙ memory)
      by_goes (not_read request asks unread idle) = absurd (not_unread request.command (ask.only request asks) unread.reads)
      by_goes (was_milled request asks mills idle) = absurd (not_mill request.command mills.number (ask.only request asks) mills.asks)
      by_goes (was_run request asks ran is_done is_next) =
          let complete : ended.by.status ≡ st.WriteFault → ⊥ = λ failed. r.complete (ap (λ (s : Status). Some s) (sym ended.status_is ∙ failed)) in
          let course : Course clouds output (width_of old) (is_batch request.command) (items_by request.setting request.command ran.input) old new r.sink r.filled (Some ended.by) =
          subst (λ (o : Option HowEnded). Course clouds output (width_of old) (is_batch request.command) (items_by request.setting request.command ran.input) old new r.sink r.filled o)
          ended.ends ran.course in
          let turn : OneTurn (task_of request.setting a ran.input) old new ended.by.status out =
          course_turn ran.input request.setting request.command r.sink r.filled ended.by (ask.only request asks) r.unwritten r.printed complete course in
          inl (subst (λ (s : Status). Answered a old new s out) ended.status_is
          (answered_turn a (task_of request.setting a ran.input) old new ended.by.status out refl turn))

-- ---- an act that stopped

pub record StoppedFor (cause : Fault) (answer : Reply) : Type 0 where
  pub after : Option ℕ
  pub is : answer ≡ reply.Stopped cause after

stopped_for : (answer : Reply) (cause : Fault) → is_done answer ≡ false → status_of answer ≡ st.Vault cause → StoppedFor cause answer
stopped_for (reply.Stopped own after) cause undone is =
    let same : own ≡ cause = cc in
    record { after = after; is = ap (λ (f : Fault). reply.Stopped f after) same }
stopped_for (reply.Bytes v) cause undone is = absurd cc
stopped_for (reply.Stored generation) cause undone is = absurd cc
stopped_for (reply.Removed generation) cause undone is = absurd cc
stopped_for (reply.Listing rows) cause undone is = absurd cc
stopped_for (reply.About generation len witnessed) cause undone is = absurd cc
stopped_for (reply.Repaired files) cause undone is = absurd cc
stopped_for (reply.Restored objects) cause undone is = absurd cc
stopped_for (reply.Settled names) cause undone is = absurd cc
stopped_for (reply.Damage flaws) cause undone is = absurd cc

pub fault_answer : (answer : Reply) (status : Status) (out : List ℕ) (cause : Fault) → status ≡ st.Vault cause → Ended answer status out → StoppedFor cause answer
fault_answer answer status out cause is (was_done done ok said) =
    let wrong : st.Ok ≡ st.Vault cause = sym ok ∙ is in
    absurd cc
fault_answer answer status out cause is (was_not undone by) = stopped_for answer cause undone (sym by ∙ is)
