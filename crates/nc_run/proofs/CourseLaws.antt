-- The acts of a run, one after the other, and its ends.
use Rattle.std.proofs.Common.{◌≡◌, ◌≤◌, ◌+◌, ◌++◌, ◌∙◌, Bool, true, Err, Option, None, Some, List, [], ◌∷◌, ℕ, length, map, refl, sym, ap, subst, arith, append_assoc, append-nil, length-append}
use Rattle.std.proofs.KnownBytes.{Appends-trans, Appends-nil}
use Rattle.std.specs.Io.KnownBytes.{Appends}
use Rattle.nc_stream.specs.declared.sink.Sink.{Ghosts as SinkGhosts}
use Rattle.nc_cloud.specs.declared.fleet.Fleet.{Ghosts as FleetGhosts}
use Rattle.nc_words.specs.Acts.{Task}
use Rattle.nc_words.specs.Lines.{IsOutside}
use Rattle.nc_words.specs.Sending.{Sends}
use Rattle.nc_words.specs.declared.setting.Setting.{Setting}
use Rattle.nc_vault.specs.declared.fault.Fault.{Fault}
use Rattle.nc_vault.specs.declared.fault.Fault.TheVariants as fault
use Rattle.nc_vault.specs.declared.reply.Reply.{Reply}
use Rattle.nc_vault.specs.declared.reply.Reply.TheVariants as reply
use Rattle.nc_vault.specs.Acting.{Acted}
use Rattle.nc_run.specs.declared.ending.Ending.{Ending}
use Rattle.nc_run.specs.declared.status.Status.{Status}
use Rattle.nc_run.specs.declared.status.Status.TheVariants as st
use Rattle.nc_run.specs.declared.turned.Turned.TheVariants.{GoesOn, Cut, Unwritten, Stopped}
use Rattle.nc_run.specs.declared.watching.Watch.{Ghosts as WatchGhosts}
use Rattle.nc_run.specs.Course.{EndsWith, Says, line_in}
use Rattle.nc_run.specs.Ending.{CountsStream, IsEarly, IsRefused, after_of, plain, status_of}
use Rattle.nc_run.specs.Items.{Fit, Item, Wants, lines_of}
use Rattle.nc_run.specs.Items.Item.{InLine}
use Rattle.nc_run.specs.Texts.{text_of}
use Rattle.nc_run.specs.Turning.{LetsGoOn, TurnLeaves, ending_at}
use Rattle.nc_run.specs.Turns.{Takes, TakesAll, Turn, WasDone, is_done, texts_of}
use Rattle.nc_run.specs.Watching.{CourseShown, begun_at}

-- ---- one turn more

takes_more : {A : Type 0} (F : FleetGhosts A) (old middle : A) (ts : List (Turn A)) (t : Turn A)
    → TakesAll F old ts middle → Takes F middle t → WasDone t → TakesAll F old (ts ++ t ∷ []) t.after
takes_more F old middle [] t all takes was = (record { from_here = takes.from_here ∙ all; acted = takes.acted }, was, refl)
takes_more F old middle (u ∷ us) t all takes was = (all.0, all.1, takes_more F u.after middle us t all.2 takes was)

fit_more : {A : Type 0} (n : ℕ) (items : List Item) (ts : List (Turn A)) (t : Turn A) (i : Item) (left : List Item)
    → Fit n items ts (i ∷ left) → Wants n i t.task → Fit n items (ts ++ t ∷ []) left
fit_more n items [] t i left fit wants = subst (λ (all : List Item). Fit n all (t ∷ []) left) fit (wants, refl)
fit_more n [] (u ∷ us) t i left fit wants = absurd fit
fit_more n (j ∷ js) (u ∷ us) t i left fit wants = (fit.0, fit_more n js us t i left fit.1 wants)

texts_more : {A : Type 0} (batch : Bool) (ts : List (Turn A)) (t : Turn A) → texts_of batch (ts ++ t ∷ []) ≡ texts_of batch ts ++ text_of batch t.answer
texts_more batch [] t = append-nil (text_of batch t.answer)
texts_more batch (u ∷ us) t =
    ap (λ (l : List ℕ). text_of batch u.answer ++ l) (texts_more batch us t) ∙ sym (append_assoc (text_of batch u.answer) (texts_of batch us) (text_of batch t.answer))

begun_more : {A : Type 0} (ts : List (Turn A)) (t : Turn A) (earlier : List A) → begun_at (ts ++ t ∷ []) earlier ≡ t.before ∷ begun_at ts earlier
begun_more [] t earlier = refl
begun_more (u ∷ us) t earlier = begun_more us t (u.before ∷ earlier)

length_more : {A : Type 0} (ts : List (Turn A)) (t : Turn A) → length (ts ++ t ∷ []) ≡ length ts + 1
length_more ts t = length-append ts (t ∷ [])

none_more : {A : Type 0} (ts : List (Turn A)) (t : Turn A) → ts ++ t ∷ [] ≡ [] → ⊥
none_more [] t none = absurd cc
none_more (u ∷ us) t none = absurd cc

-- an act that wasn't stopped was done
pub done_unless : (r : Reply) → ((cause : Fault) (after : Option ℕ) → r ≡ reply.Stopped cause after → ⊥) → is_done r ≡ true
done_unless (reply.Stopped cause after) not = absurd (not cause after refl)
done_unless other not = refl

-- ---- where a run is

-- So far these acts were done, `count` of them, and the rest of what was asked for is left.
pub record Did {A W : Type 0} (F : FleetGhosts A) (V : WatchGhosts W A) (n : ℕ) (items rest : List Item) (old now : A) (start end : W)
    (count : ℕ) : Type 0 where
  pub done : List (Turn A)
  pub takes_all : TakesAll F old done now
  pub fit : Fit n items done rest
  pub known : V.knows start end (begun_at done []) now
  pub clouds : F.clouds now ≡ n
  pub counted : count ≡ length done

-- and their texts were written
pub record SoFar {A C W : Type 0} (F : FleetGhosts A) (K : SinkGhosts C) (V : WatchGhosts W A) (n : ℕ) (batch : Bool) (items rest : List Item)
    (old now : A) (out out_now : C) (start end : W) (count : ℕ) : Type 0 where
  pub did : Did F V n items rest old now start end count
  pub says : Appends (K.written out) (K.written out_now) (texts_of batch did.done)
  pub later : K.faults out ≤ K.faults out_now
  pub same : K.counts_exactly → K.faults out_now ≡ K.faults out
  pub quiet : did.done ≡ [] → out_now ≡ out

-- The run ended so after its acts, and what its ending says is right.
pub record Closes {A C W : Type 0} (F : FleetGhosts A) (K : SinkGhosts C) (V : WatchGhosts W A) (n : ℕ) (batch : Bool) (items : List Item)
    (old new : A) (out out_new : C) (start end : W) (e : Ending) : Type 0 where
  pub begun : IsRefused e.status → ⊥
  pub late : IsEarly e.status → ⊥
  pub shown : CourseShown F K V n batch items old new out out_new start end (Some e)
  pub write : CountsStream st.WriteFault K.counts_exactly (K.faults out) (K.faults out_new) e.status

abbrev turn_at : {A : Type 0} → Task → A → A → Reply → Turn A
turn_at task before after answer = record { task = task; before = before; after = after; answer = answer }

-- one act more was done
abbrev did_more : {A W : Type 0} (F : FleetGhosts A) (V : WatchGhosts W A) (n : ℕ) (items : List Item) (i : Item) (left : List Item)
    (old now new : A) (start mid end : W) (count : ℕ) (task : Task) (answer : Reply)
    → Did F V n items (i ∷ left) old now start mid count → Acted F task now new answer → is_done answer ≡ true
    → LetsGoOn V mid end new → Wants n i task → Did F V n items left old new start end (count + 1)
did_more {A} F V n items i left old now new start mid end count task answer did acted was goes wants =
    let t : Turn A = turn_at task now new answer in
    record {
      done = did.done ++ t ∷ [];
      takes_all = takes_more F old now did.done t did.takes_all (record { from_here = refl; acted = acted }) was;
      fit = fit_more n items did.done t i left did.fit wants;
      known = subst (λ (l : List A). V.knows start end l new) (sym (begun_more did.done t [])) (goes.known start (begun_at did.done []) now did.known);
      clouds = acted.clouds ∙ did.clouds;
      counted = ap (λ (k : ℕ). k + 1) did.counted ∙ sym (length_more did.done t);
    }

module _ {A C W : Type 0} (F : FleetGhosts A) (K : SinkGhosts C) (V : WatchGhosts W A) (n : ℕ) (batch : Bool) (items : List Item) where
  -- nothing was done yet
  pub none_yet : (old : A) (out : C) (start : W) → F.clouds old ≡ n → V.knows start start [] old
      → SoFar F K V n batch items items old old out out start start 0
  none_yet old out start clouds begins = record {
    did = record { done = []; takes_all = refl; fit = refl; known = begins; clouds = clouds; counted = refl };
    says = Appends-nil (K.written out);
    later = omega arith;
    same = λ exact. refl;
    quiet = λ none. refl;
  }

  -- where the lines of a text are left, its first line is the next one
  pub at_line : {old now : A} {out out_now : C} {start mid : W} {count : ℕ} (s : Setting) (text line after : List ℕ) → lines_of text ≡ line ∷ lines_of after
      → SoFar F K V n batch items (map (InLine s) (lines_of text)) old now out out_now start mid count
      → SoFar F K V n batch items (InLine s line ∷ map (InLine s) (lines_of after)) old now out out_now start mid count
  at_line {old} {now} {out} {out_now} {start} {mid} {count} s text line after is =
      subst (λ (lines : List (List ℕ)). SoFar F K V n batch items (map (InLine s) lines) old now out out_now start mid count) is

  module _ {old now : A} {out out_now : C} {start mid : W} {rest : List Item} {count : ℕ}
      (before : SoFar F K V n batch items rest old now out out_now start mid count) where
    -- the run ended where it is
    rests : (status : Status) → EndsWith n batch rest before.did.done None (plain status) → Says K batch before.did.done out out_now (Some (plain status))
        → (status ≡ st.WriteFault → ⊥) → (IsRefused status → ⊥) → (IsEarly status → ⊥)
        → (e : Ending) → e ≡ plain status → Closes F K V n batch items old now out out_now start mid e
    rests status ends says not begun late e is =
        subst (λ (x : Ending). Closes F K V n batch items old now out out_now start mid x) (sym is)
        record {
          begun = begun;
          late = late;
          shown = record {
            course = record {
              done = before.did.done;
              middle = now;
              next = None;
              takes_all = before.did.takes_all;
              takes_next = refl;
              left = rest;
              fit = before.did.fit;
              fits_next = tt;
              ends = ends;
              says = says;
              quiet = before.quiet;
            };
            knows = record { known = before.did.known; why = λ none. absurd cc };
          };
          write = record { later = before.later; failed = λ failed. absurd (not failed); same = λ exact other. before.same exact };
        }

    -- all was done
    pub all_of : rest ≡ [] → (e : Ending) → e ≡ plain st.Ok → Closes F K V n batch items old now out out_now start mid e
    all_of none = rests st.Ok (record { ends = none; line = refl; after = refl }) before.says (λ f. absurd cc) (λ r. r) (λ r. r)

  module _ {old now : A} {out out_now : C} {start mid : W} {s : Setting} {line : List ℕ} {left : List Item} {count : ℕ}
      (before : SoFar F K V n batch items (InLine s line ∷ left) old now out out_now start mid count) where
    -- the next line asks for nothing
    pub outside_of : IsOutside n line → (e : Ending) → e ≡ plain (st.BatchLine (count + 1)) → Closes F K V n batch items old now out out_now start mid e
    outside_of outside =
        rests before (st.BatchLine (count + 1)) (record { ends = (ap (λ (k : ℕ). k + 1) before.did.counted, outside); line = refl; after = refl })
        before.says (λ f. absurd cc) (λ r. r) (λ r. r)

    -- memory ran out while it was read
    pub memory_of : (e : Ending) → e ≡ plain (st.Vault fault.Memory) → Closes F K V n batch items old now out out_now start mid e
    memory_of = rests before (st.Vault fault.Memory) (record { ends = tt; line = refl; after = refl }) before.says (λ f. absurd cc) (λ r. r) (λ r. r)

  module _ {old now : A} {out out_now : C} {start mid : W} {i : Item} {left : List Item} {count : ℕ}
      (before : SoFar F K V n batch items (i ∷ left) old now out out_now start mid count) where
    -- the next act was done, and its text written
    pub more_of : {task : Task} {new : A} {out_new : C} {end : W} → TurnLeaves F K V batch task now new out_now out_new mid end GoesOn → Wants n i task
        → SoFar F K V n batch items left old new out out_new start end (count + 1)
    more_of {task} {new} {out_new} {end} turn wants =
        let t : Turn A = turn_at task now new turn.answer in
        record {
          did = did_more F V n items i left old now new start mid end count task turn.answer before.did turn.acted turn.went.0 turn.went.1 wants;
          says = subst (λ (l : List ℕ). Appends (K.written out) (K.written out_new) l) (sym (texts_more batch before.did.done t))
              (Appends-trans (K.written out) (K.written out_now) (K.written out_new) (texts_of batch before.did.done) (text_of batch turn.answer) before.says turn.went.2.all);
          later = omega (arith, before.later, turn.went.2.counts.later);
          same = λ exact. turn.went.2.counts.same exact ∙ before.same exact;
          quiet = λ none. absurd (none_more before.did.done t none);
        }

    -- it was done, and the watcher ended the run
    pub cut_of : {task : Task} {new : A} {out_new : C} {end : W} → TurnLeaves F K V batch task now new out_now out_new mid end Cut → Wants n i task
        → CourseShown F K V n batch items old new out out_new start end None
    cut_of {task} {new} {out_new} {end} turn wants = record {
      course = record {
        done = before.did.done;
        middle = now;
        next = Some (turn_at task now new turn.answer);
        takes_all = before.did.takes_all;
        takes_next = (record { from_here = refl; acted = turn.acted }, refl);
        left = i ∷ left;
        fit = before.did.fit;
        fits_next = wants;
        ends = turn.went.0;
        says = subst (λ (x : C). Appends (K.written out) (K.written x) (texts_of batch before.did.done)) (sym turn.went.2) before.says;
        quiet = λ none. turn.went.2 ∙ before.quiet none;
      };
      knows = record { known = turn.went.1.known start (begun_at before.did.done []) now before.did.known; why = λ none. turn.went.1.why };
    }

    -- it was done, and its text couldn't be written
    pub unwritten_of : {task : Task} {new : A} {out_new : C} {end : W} → TurnLeaves F K V batch task now new out_now out_new mid end Unwritten → Wants n i task
        → (e : Ending) → e ≡ ending_at st.WriteFault (line_in batch (count + 1)) None → Closes F K V n batch items old new out out_new start end e
    unwritten_of {task} {new} {out_new} {end} turn wants e is =
        let t : Turn A = turn_at task now new turn.answer in
        let sends : Sends {T = Unit {0}} K (text_of batch turn.answer) out_now out_new (Err turn.went.2.fault) = turn.went.2.sends in
        let did : Did F V n items left old new start end (count + 1) =
        did_more F V n items i left old now new start mid end count task turn.answer before.did turn.acted turn.went.0 turn.went.1 wants in
        subst (λ (x : Ending). Closes F K V n batch items old new out out_new start end x) (sym is)
        record {
          begun = λ r. r;
          late = λ r. r;
          shown = record {
            course = record {
              done = before.did.done ++ t ∷ [];
              middle = new;
              next = None;
              takes_all = did.takes_all;
              takes_next = refl;
              left = left;
              fit = did.fit;
              fits_next = tt;
              ends = record {
                ends = omega (arith, length_more before.did.done t);
                line = ap (line_in batch) did.counted;
                after = refl;
              };
              says = record {
                early = before.did.done;
                last = t;
                are = refl;
                front = sends.some.front;
                rest = sends.some.rest;
                parts = sends.some.parts;
                wrote = Appends-trans (K.written out) (K.written out_now) (K.written out_new) (texts_of batch before.did.done) sends.some.front before.says sends.some.appends;
                failed = omega (arith, before.later, sends.counts.failed);
              };
              quiet = λ none. absurd (none_more before.did.done t none);
            };
            knows = record { known = did.known; why = λ none. absurd cc };
          };
          write = record {
            later = omega (arith, before.later, sends.counts.later);
            failed = λ failed. omega (arith, before.later, sends.counts.failed);
            same = λ exact other. absurd (other refl);
          };
        }

    -- it wasn't done
    pub stopped_of : {task : Task} {new : A} {out_new : C} {end : W} {cause : Fault} {after : Option ℕ}
        → TurnLeaves F K V batch task now new out_now out_new mid end (Stopped cause after) → Wants n i task
        → (e : Ending) → e ≡ ending_at (st.Vault cause) (line_in batch (count + 1)) after → Closes F K V n batch items old new out out_new start end e
    stopped_of {task} {new} {out_new} {end} {cause} {after} turn wants e is =
        subst (λ (x : Ending). Closes F K V n batch items old new out out_new start end x) (sym is)
        record {
          begun = λ r. r;
          late = λ r. r;
          shown = record {
            course = record {
              done = before.did.done;
              middle = now;
              next = Some (turn_at task now new turn.answer);
              takes_all = before.did.takes_all;
              takes_next = (record { from_here = refl; acted = turn.acted }, refl);
              left = i ∷ left;
              fit = before.did.fit;
              fits_next = wants;
              ends = record {
                ends = (ap is_done turn.went.0, sym (ap status_of turn.went.0));
                line = ap (λ (k : ℕ). line_in batch (k + 1)) before.did.counted;
                after = sym (ap after_of turn.went.0);
              };
              says = subst (λ (x : C). Appends (K.written out) (K.written x) (texts_of batch before.did.done)) (sym turn.went.2) before.says;
              quiet = λ none. turn.went.2 ∙ before.quiet none;
            };
            knows = record {
              known = subst (λ (x : W). V.knows start x (begun_at before.did.done []) now) (sym turn.went.1) before.did.known;
              why = λ none. absurd cc;
            };
          };
          write = record {
            later = subst (λ (x : C). K.faults out ≤ K.faults x) (sym turn.went.2) before.later;
            failed = λ failed. absurd cc;
            same = λ exact other. ap (λ (x : C). K.faults x) turn.went.2 ∙ before.same exact;
          };
        }
