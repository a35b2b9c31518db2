-- What the watcher of a run keeps at its end.
use Rattle.std.proofs.Common.{◌≡◌, ◌≤◌, ◌<◌, ◌∙◌, ◌+◌, ℕ, suc, Option, None, Some, IsNone, IfSome, List, [], ◌∷◌, length, inl, inr, refl, sym, ap, subst, arith}
use Rattle.nc_words.specs.declared.act.Request.{Request}
use Rattle.nc_words.specs.Words.{Asks}
use Rattle.nc_stream.specs.declared.memory.MemSink.{MemSink}
use Rattle.nc_stream.specs.declared.memory.MemSource.{MemSource}
use Rattle.nc_memory.specs.declared.memory.MemFleet.{MemFleet}
use Rattle.nc_memory.specs.Memory.{log_of, width_of}
use Rattle.nc_memory.specs.Moments.{now_of}
use Rattle.nc_memory.specs.Record.{counted}
use Rattle.nc_memory.specs.Rounds.{rounds_in}
use Rattle.nc_vault.specs.declared.fault.Fault.TheVariants as fault
use Rattle.nc_run.specs.declared.status.Status.{Status}
use Rattle.nc_run.specs.declared.status.Status.TheVariants as st
use Rattle.nc_run.specs.declared.watching.Watch.{Ghosts as WatchGhosts}
use Rattle.nc_run.specs.Ending.{HowEnded, IsRefused}
use Rattle.nc_run.specs.Running.{DoesRequest, IsAnswered}
use Rattle.nc_run.specs.Sides.{Sides, sides}
use Rattle.nc_run.specs.Turns.{TakesAll, TakesNext, Turn}
use Rattle.nc_run.specs.Watching.{DoesShown, Knows, KnowsBy, ShownBy, ShownIn, begun_at}
use Rattle.nc_drive.specs.declared.driving.Ending.{Ending}
use Rattle.nc_drive.specs.declared.limit.Limit.{Limit}
use Rattle.nc_drive.specs.Endings.{IsEnding, RunsUntil}
use Rattle.nc_drive.specs.Fleets.{clouds, input, left_of, output, written_to}
use Rattle.nc_drive.specs.Limits.{LimitKnows, limit_ends, limit_knows}
use Rattle.nc_drive.specs.Outcomes.{GoesBy, NoActs, Runs, not_read, status_in, was_milled, was_refused, was_run, was_unbegun}
use Rattle.nc_drive.proofs.RunLaws.{refused_early}

-- the watcher
abbrev pub limit : WatchGhosts Limit MemFleet
limit = record { knows = limit_knows; why = limit_ends }

begun_count : {A : Type 0} (ts : List (Turn A)) (earlier : List A) → length (begun_at ts earlier) ≡ length ts + length earlier
begun_count [] earlier = omega arith
begun_count (t ∷ ts) earlier =
    let later : length (begun_at ts (t.before ∷ earlier)) ≡ length ts + suc (length earlier) = begun_count ts (t.before ∷ earlier) in
    omega (arith, later)

-- a run without a status was ended by its watcher
no_ending : (ending : Option HowEnded) → status_in ending ≡ None → IsNone ending
no_ending None is = refl
no_ending (Some e) is = absurd cc

no_acts : NoActs [] None
no_acts = record { none = refl; none_next = refl }

module _ (words : List (List ℕ)) (given : List ℕ) (round : ℕ) (old new : MemFleet) (source read : MemSource) (sink filled : MemSink)
    (start end : Limit) (result : Option Status) (e : Ending) (round_is : start.round ≡ round) (none : start.done ≡ 0) (since : start.since ≡ now_of old)
    (ahead : rounds_in (log_of old) ≤ round) (unread : left_of source ≡ given) (unwritten : written_to sink ≡ [])
    (answered : IfSome result (IsAnswered clouds input output words (sides old source sink) (sides new read filled)))
    (kept : IsEnding result filled end e) (ending : Option HowEnded) (is : status_in ending ≡ result) where
  abbrev Goes : List (Turn MemFleet) → Option (Turn MemFleet) → Type 0
  Goes done next = GoesBy words (sides old source sink) (sides new read filled) ending done next

  runs : (done : List (Turn MemFleet)) (next : Option (Turn MemFleet)) → Goes done next → Runs words given old new e.status e.out done next
  runs done next goes =
      subst (λ (s : Option Status). Runs words given old new s e.out done next) (sym kept.status_is) (record {
        source = source;
        read = read;
        sink = sink;
        filled = filled;
        unread = unread;
        unwritten = unwritten;
        answered = answered;
        ending = ending;
        is = is;
        goes = goes;
        printed = kept.out;
        complete = kept.complete;
      })

  ran_until : (done : List (Turn MemFleet)) (next : Option (Turn MemFleet)) (middle : MemFleet) → Goes done next → TakesAll clouds old done middle
      → TakesNext clouds middle next new → Knows limit start end done middle new ending → RunsUntil words given round old new e
  ran_until done next middle goes all one w =
      let known : LimitKnows start end (begun_at done []) middle = w.known in
      let many : length (begun_at done []) ≡ length done + 0 = begun_count done [] in
      let done_here : e.done ≡ end.done = kept.done in
      let counts_here : end.done ≡ counted (start.done + length (begun_at done [])) = known.counts in
      let round_here : end.round ≡ start.round = known.round in
      record {
        done = done;
        next = next;
        runs = runs done next goes;
        middle = middle;
        takes_all = all;
        takes_next = one;
        counts = omega (arith, done_here, counts_here, many, none);
        since = kept.since ∙ known.since;
        ahead = subst (λ (k : ℕ). rounds_in (log_of middle) ≤ k) round_is known.ahead;
        reached = λ ended.
            let why : end.round < rounds_in (log_of new) = w.why (no_ending ending (is ∙ sym kept.status_is ∙ ended)) in
            omega (arith, why, round_here, round_is);
      }

  -- nothing was begun
  nothing_begun : (by : HowEnded) → ending ≡ Some by → end ≡ start → new ≡ old → Goes [] None → RunsUntil words given round old new e
  nothing_begun by ends same here goes =
      ran_until [] None old goes refl here (record {
        known = subst (λ (l : Limit). LimitKnows start l [] old) (sym same) (record {
          round = refl;
          counts = omega (arith, none);
          since = since;
          ahead = subst (λ (k : ℕ). rounds_in (log_of old) ≤ k) (sym round_is) ahead;
        });
        why = λ none_ended.
            let wrong : IsNone (Some by) = subst (λ (o : Option HowEnded). IsNone o) ends none_ended in
            absurd cc;
      })

  by_does : (request : Request) → Asks (width_of old) words request
      → (does : DoesRequest clouds input output request (sides old source sink) (sides new read filled) ending)
      → KnowsBy clouds input output limit request (sides old source sink) (sides new read filled) start end ending does → RunsUntil words given round old new e
  by_does request asks (inl u) same = nothing_begun _ u.ends same u.fleet (not_read request asks u no_acts)
  by_does request asks (inr (inl m)) same = nothing_begun m.ending m.is same m.fleet (was_milled request asks m no_acts)
  by_does request asks (inr (inr ran)) w =
      ran_until ran.course.done ran.course.next ran.course.middle (was_run request asks ran refl refl) ran.course.takes_all ran.course.takes_next w

  does_until : (o : Option HowEnded) → ending ≡ o → DoesShown clouds input output limit words (sides old source sink) (sides new read filled) start end o
      → RunsUntil words given round old new e
  does_until o ends d =
      let here : DoesShown clouds input output limit words (sides old source sink) (sides new read filled) start end ending =
      subst (λ (r : Option HowEnded). DoesShown clouds input output limit words (sides old source sink) (sides new read filled) start end r) (sym ends) d in
      by_does here.request here.asks here.shown.does here.shown.knows

  refuses : (by : HowEnded) (status : Status) → ending ≡ Some by → by.status ≡ status → IsRefused status → end ≡ start → RunsUntil words given round old new e
  refuses by status ends status_is refused same =
      let refused_here : IsRefused by.status = subst (λ (s : Status). IsRefused s) (sym status_is) refused in
      let result_is : result ≡ Some by.status = sym is ∙ ap (λ (o : Option HowEnded). status_in o) ends in
      let answered_here : IsAnswered clouds input output words (sides old source sink) (sides new read filled) by.status =
      subst (λ (r : Option Status). IfSome r (IsAnswered clouds input output words (sides old source sink) (sides new read filled))) result_is answered in
      nothing_begun by ends same (answered_here.early (refused_early by.status refused_here)) (was_refused by ends refused_here no_acts)

  shown_by : (by : HowEnded) (status : Status) → ending ≡ Some by → by.status ≡ status
      → ShownBy clouds input output limit words (sides old source sink) (sides new read filled) start end by status → RunsUntil words given round old new e
  shown_by by (st.Width w) ends is shown = refuses by (st.Width w) ends is tt shown.1
  shown_by by st.Usage ends is shown = refuses by st.Usage ends is tt shown.1
  shown_by by (st.Name cause) ends is shown = refuses by (st.Name cause) ends is tt shown.1
  shown_by by (st.Vault fault.Memory) ends is (inl (u, same)) =
      nothing_begun by ends same (ap (λ (s : Sides MemFleet MemSource MemSink). s.fleet) u.same) (was_unbegun by ends is u no_acts)
  shown_by by (st.Vault fault.Memory) ends is (inr does) = does_until (Some by) ends does
  shown_by by status ends is does = does_until (Some by) ends does

  shown_until : (o : Option HowEnded) → ending ≡ o → ShownIn clouds input output limit words (sides old source sink) (sides new read filled) start end o
      → RunsUntil words given round old new e
  shown_until None ends does = does_until None ends does
  shown_until (Some by) ends shown = shown_by by by.status ends refl shown

  pub until : ShownIn clouds input output limit words (sides old source sink) (sides new read filled) start end ending → RunsUntil words given round old new e
  until shown = shown_until ending refl shown
