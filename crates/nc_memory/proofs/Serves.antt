-- What a round of a memory fleet promises, however it was served.
use Rattle.std.proofs.Common.{◌≡◌, ◌≢◌, ℕ, suc, ◌+◌, Bool, true, false, cond, Option, None, Some, List, [], ◌∷◌, ◌++◌, map, length, nat_eq, append-nil, refl, sym, ap, ◌∙◌, subst, arith, All}
use Rattle.std.specs.Option.{IfSome}
use Rattle.std.proofs.lemmas.Simd.{map-map}
use Rattle.std.proofs.lemmas.List.Elements.{All-map}
use Rattle.nc_frame.specs.Frames.{Whole}
use Rattle.nc_cloud.specs.declared.fleet.Ask.{Ask}
use Rattle.nc_cloud.specs.declared.fleet.Done.{Done}
use Rattle.nc_cloud.specs.declared.fleet.Done.TheVariants as done
use Rattle.nc_cloud.specs.declared.fleet.Answer.TheVariants.{Waiting}
use Rattle.nc_cloud.specs.Contents.{Contents, Grows, Leaves, LeavesCloud, Rose, Settles, Store, Touch, Write, nothing, touch_at}
use Rattle.nc_cloud.specs.Contents.Fate.{stayed}
use Rattle.nc_cloud.specs.Fleet.{asked, chunks_got, got_count, is_done, is_failed, tally, Answers}
use Rattle.nc_cloud.specs.Images.{Image}
use Rattle.nc_cloud.specs.Time.{Elapses, Stays}
use Rattle.nc_cloud.proofs.Entries.{tally_none}
use Rattle.nc_cloud.proofs.Images.{image_none}
use Rattle.nc_memory.specs.declared.record.Event.{Event}
use Rattle.nc_memory.specs.declared.record.Step.{Step}
use Rattle.nc_memory.specs.declared.record.Torn.{Torn}
use Rattle.nc_memory.specs.declared.memory.MemFleet.{MemFleet}
use Rattle.nc_memory.specs.Record.{contents_after, counted, done_of, ended_at, failed_in, given_in, gifts, look_of, over, refused_at, slipped_in, starved_ask, steps_of}
use Rattle.nc_memory.specs.Memory.{chunk_gets_of, contents_of, entries_of, gets_event, log_of, refusals_of, writes_event, ServesGets, ServesWrites, Unchanged}
use Rattle.nc_memory.specs.Memory.ServesGets.{starved, served}
use Rattle.nc_memory.specs.Memory.ServesWrites.{starved as writes_starved, served as writes_served}
use Rattle.nc_memory.specs.Moments.{ImageIn, image_of, now_of, past_of}
use Rattle.nc_memory.specs.Shelf.{after_steps}
use Rattle.nc_memory.proofs.Counting.{and_false, counted_exact, counted_grows, counted_rose, failed_on, gets_failed, gets_given, gets_slipped, is_failed_done, over-append, writes_given, Kind}
use Rattle.nc_memory.proofs.PastLaws.{before, since, elapses_more, gets_only, stays_more, writes_only}
use Rattle.nc_memory.proofs.RecordLaws.{all_numbered, asked_same, asks_answered, asks_told, got_more, held_after_gets, held_after_writes, starved_asked, starved_given}
use Rattle.nc_memory.proofs.Wholes.{whole_entries}
use Rattle.nc_memory.proofs.WriteLaws.{ended_writes, same_touches, same_writes, step_touch, steps_leave, touch_of}

-- ---- rounds of any kind

-- What a round recorded: which of its entries failed and raised `count`, that `other` stays, how many chunks each cloud
-- gave, and that a stop in it leaves contents that have P.
pub record Recorded {X : Type 0} (count other : Event → ℕ → ℕ) (cloud : X → ℕ) (has_failed : X → Bool) (chunks : ℕ → ℕ) (P : Contents → Type 0) (old new : MemFleet) (left : List X) : Type 0 where
  pub more : List Event
  pub log : log_of new ≡ log_of old ++ more
  pub failed : (c : ℕ) → over count more c ≡ tally (failed_on cloud has_failed c) left
  pub others : (c : ℕ) → over other more c ≡ 0
  pub given : (c : ℕ) → over given_in more c ≡ chunks c
  pub only : (G : Contents) → ImageIn more (contents_of old) G → P G

module _ {X : Type 0} {count other : Event → ℕ → ℕ} {cloud : X → ℕ} {has_failed : X → Bool} {chunks : ℕ → ℕ} {P : Contents → Type 0} {old new : MemFleet} {left : List X} where
  pub nothing_recorded : Unchanged old new → All (λ x. has_failed x ≡ false) left → ((c : ℕ) → chunks c ≡ 0) → P (contents_of old) → Recorded count other cloud has_failed chunks P old new left
  nothing_recorded same none no_chunk here = record {
    more = [];
    log = same.log ∙ sym (append-nil (log_of old));
    failed = λ c. sym (tally_none (failed_on cloud has_failed c) left (λ k d l. and_false _ _ (λ e. none k d l)));
    others = λ c. refl;
    given = λ c. sym (no_chunk c);
    only = λ G is. subst P (sym is) here;
  }

  module _ (r : Recorded count other cloud has_failed chunks P old new left) where
    count_now : (some : Event → ℕ → ℕ) (c : ℕ) → over some (log_of new) c ≡ over some (log_of old) c + over some r.more c
    count_now some c = ap (λ es. over some es c) r.log ∙ over-append some (log_of old) r.more c

    failures_now : (c : ℕ) → over count (log_of new) c ≡ over count (log_of old) c + tally (failed_on cloud has_failed c) left
    failures_now c = count_now count c ∙ ap (λ k. over count (log_of old) c + k) (r.failed c)

    pub round_failed : All (λ x. has_failed x ≡ true → Rose (counted (over count (log_of old) (cloud x))) (counted (over count (log_of new) (cloud x)))) left
    round_failed = counted_rose cloud has_failed left (over count (log_of old)) (over count (log_of new)) failures_now

    pub round_exact : (c : ℕ) → All (λ x. cloud x ≡ c → has_failed x ≡ false) left → counted (over count (log_of new) c) ≡ counted (over count (log_of old) c)
    round_exact = counted_exact cloud has_failed left (over count (log_of old)) (over count (log_of new)) failures_now

    pub round_grows : Grows (λ c. counted (over count (log_of old) c)) (λ c. counted (over count (log_of new) c))
    round_grows = counted_grows cloud has_failed left (over count (log_of old)) (over count (log_of new)) failures_now

    pub round_others : (c : ℕ) → counted (over other (log_of new) c) ≡ counted (over other (log_of old) c)
    round_others c =
        let now : over other (log_of new) c ≡ over other (log_of old) c + over other r.more c = count_now other c in
        ap counted (omega (arith, now, r.others c))

    pub round_given : (c : ℕ) → chunk_gets_of new c ≡ counted (gifts (log_of old) c + chunks c)
    round_given c = ap counted (count_now given_in c ∙ ap (λ k. gifts (log_of old) c + k) (r.given c))

    pub round_time : Elapses (now_of old) (now_of new) (image_of old) (image_of new) P
    round_time = subst (λ (es : List Event). Elapses (now_of old) (length es) (image_of old) (since es) P) (sym r.log) (elapses_more (log_of old) r.more P r.only)

    pub round_past : Stays (now_of old) (past_of old) (past_of new)
    round_past = subst (λ (es : List Event). Stays (now_of old) (past_of old) (before es)) (sym r.log) (stays_more (log_of old) r.more)

no_more : (n : ℕ) → n + 0 ≡ n
no_more n = omega arith

-- where no chunk is given
pub round_gave_none : {X : Type 0} {count other : Event → ℕ → ℕ} {cloud : X → ℕ} {has_failed : X → Bool} {P : Contents → Type 0} {old new : MemFleet} {left : List X}
    → Recorded count other cloud has_failed (λ c. 0) P old new left → chunk_gets_of new ≡ chunk_gets_of old
round_gave_none {old = old} r = λ i c. (round_given r c ∙ ap counted (no_more (gifts (log_of old) c))) i

-- ---- a round of gets

module _ {old new : MemFleet} {asks left : List Ask} where
  pub gets_recorded : ServesGets old new asks left → Recorded failed_in slipped_in (λ a. a.cloud) (λ a. is_failed a.answer) (λ c. chunks_got c left) (λ G. G ≡ contents_of old) old new left
  gets_recorded (starved answers same) =
      nothing_recorded same (subst (All (λ a. is_failed a.answer ≡ false)) (sym answers) (All-map (λ a. is_failed a.answer ≡ false) starved_ask asks (λ k d l. refl)))
      (λ c. ap (chunks_got c) answers ∙ starved_given asks c) refl
  gets_recorded (served gives) = record {
    more = gets_event (map look_of left);
    log = gives.log;
    failed = gets_failed left;
    others = gets_slipped (map look_of left);
    given = gets_given left;
    only = gets_only (map look_of left) (contents_of old);
  }

  pub gets_entries : ServesGets old new asks left → map asked left ≡ map asked asks
  gets_entries (starved answers same) = ap (map asked) answers ∙ starved_asked asks
  gets_entries (served gives) = ap (map asked) gives.answers ∙ asked_same (refusals_of old) (entries_of old) (log_of old) asks

  pub gets_answered : ServesGets old new asks left → All (λ a. a.answer ≢ Waiting) left
  gets_answered (starved answers same) = subst (All (λ a. a.answer ≢ Waiting)) (sym answers) (All-map (λ a. a.answer ≢ Waiting) starved_ask asks (λ k d l e. cc))
  gets_answered (served gives) = subst (All (λ a. a.answer ≢ Waiting)) (sym gives.answers) (asks_answered (refusals_of old) (entries_of old) (log_of old) asks)

  pub gets_told : ServesGets old new asks left → All (λ a. Answers a (contents_of old a.cloud a.key)) left
  gets_told (starved answers same) =
      let Told : Ask → Type 0 = λ a. Answers a (contents_of old a.cloud a.key) in
      subst (All Told) (sym answers) (All-map Told starved_ask asks (λ k d l. tt))
  gets_told (served gives) =
      let Told : Ask → Type 0 = λ a. Answers a (contents_of old a.cloud a.key) in
      subst (All Told) (sym gives.answers) (asks_told (refusals_of old) (entries_of old) (log_of old) asks)

  pub gets_held : ServesGets old new asks left → contents_of new ≡ contents_of old
  gets_held (starved answers same) = ap (λ es. contents_after es nothing) same.log
  gets_held (served gives) = ap (λ es. contents_after es nothing) gives.log ∙ held_after_gets (log_of old) (map look_of left)

  pub gets_given_all : ServesGets old new asks left → (c : ℕ) → chunk_gets_of new c ≡ got_count (chunk_gets_of old c) (chunks_got c left)
  gets_given_all serves c = round_given (gets_recorded serves) c ∙ got_more (gifts (log_of old) c) (chunks_got c left)

-- ---- a round of puts or of deletes

first_or : (b : Bool) (t : Touch) (u : Option Touch) (s : Store) → t.ok ≡ false → LeavesCloud u s s → LeavesCloud (cond b (Some t) u) s s
first_or true t u s none later = record { there = subst (λ ok. Settles ok t.write.new (s t.write.key) (s t.write.key)) (sym none) (stayed refl); others = λ q other. refl }
first_or false t u s none later = later

-- entries that weren't begun leave all as it was
idle : (ts : List Touch) → All (λ t. t.ok ≡ false) ts → (c : ℕ) (s : Store) → LeavesCloud (touch_at ts c) s s
idle [] none c s = refl
idle (t ∷ ts) none c s = first_or (nat_eq t.write.cloud c) t _ s (none 0 t (omega arith)) (idle ts (λ k d l. none (suc k) d (omega arith)) c s)

done_answered : (refused : Option Torn) → done_of refused ≢ done.Waiting
done_answered None e = cc
done_answered (Some outcome) e = cc

module _ {X : Type 0} {as_write : X → Write} {is : X → Done} {end : Done → X → X} {count other : Event → ℕ → ℕ} (kind : Kind as_write is end count other) where
  -- entries for which no memory was found
  starved_are : (P : Done → Type 0) → P done.Memory → (xs : List X) → All (λ x. P (is x)) (map (end done.Memory) xs)
  starved_are P here xs = All-map (λ x. P (is x)) (end done.Memory) xs (λ k d l. subst P (sym (kind.same_done done.Memory _)) here)

module _ {X : Type 0} {as_write : X → Write} {is : X → Done} {end : Done → X → X} {count other : Event → ℕ → ℕ} (kind : Kind as_write is end count other) {old new : MemFleet} {xs left : List X} where
  pub writes_entries : ServesWrites as_write end old new xs left → map as_write left ≡ map as_write xs
  writes_entries (writes_starved answers same) = ap (map as_write) answers ∙ map-map as_write (end done.Memory) xs ∙ ap (λ f. map f xs) (λ i x. kind.same_write done.Memory x i)
  writes_entries (writes_served takes) = ap (map as_write) takes.answers ∙ ended_writes as_write is end kind.same_write kind.same_done (refusals_of old) (entries_of old) xs

  pub writes_answered : ServesWrites as_write end old new xs left → All (λ x. is x ≢ done.Waiting) left
  writes_answered (writes_starved answers same) = subst (All (λ x. is x ≢ done.Waiting)) (sym answers) (starved_are kind (λ d. d ≢ done.Waiting) (λ e. cc) xs)
  writes_answered (writes_served takes) =
      subst (All (λ x. is x ≢ done.Waiting)) (sym takes.answers)
      (all_numbered (λ x. is x ≢ done.Waiting) (ended_at end (refusals_of old)) (λ k x e. done_answered (refused_at (refusals_of old) k) (sym (kind.same_done (done_of (refused_at (refusals_of old) k)) x) ∙ e)) (entries_of old) xs)

  module _ (whole : All (λ x. IfSome (as_write x).new Whole) xs) where
    pub writes_recorded : ServesWrites as_write end old new xs left
        → Recorded count other (λ x. (as_write x).cloud) (λ x. is_failed_done (is x)) (λ c. 0) (Image (map as_write xs) (contents_of old)) old new left
    writes_recorded (writes_starved answers same) =
        nothing_recorded same (subst (All (λ x. is_failed_done (is x) ≡ false)) (sym answers) (starved_are kind (λ d. is_failed_done d ≡ false) refl xs)) (λ c. refl)
        (image_none (map as_write xs) (contents_of old))
    writes_recorded (writes_served takes) = record {
      more = writes_event (steps_of (refusals_of old) (entries_of old) (map as_write xs));
      log = takes.log;
      failed = λ c.
          kind.counts (refusals_of old) (entries_of old) xs c
          ∙ ap (λ ys. tally (failed_on (λ x. (as_write x).cloud) (λ x. is_failed_done (is x)) c) ys) (sym takes.answers);
      others = λ c. kind.passes (refusals_of old) (entries_of old) xs c;
      given = λ c. writes_given (steps_of (refusals_of old) (entries_of old) (map as_write xs)) c;
      only = λ G in'.
          subst (λ (ps : List Write). Image ps (contents_of old) G) (same_writes (refusals_of old) (entries_of old) (map as_write xs))
          (writes_only (steps_of (refusals_of old) (entries_of old) (map as_write xs)) (contents_of old) G ∣ whole_entries as_write (refusals_of old) (entries_of old) xs whole ∣₁ in');
    }

    pub writes_told : ServesWrites as_write end old new xs left → Leaves (map (touch_of as_write is end kind.same_write kind.same_done) left) (contents_of old) (contents_of new)
    writes_told (writes_starved answers same) =
        let touch : X → Touch = touch_of as_write is end kind.same_write kind.same_done in
        let none : All (λ t. t.ok ≡ false) (map touch left) =
        All-map (λ t. t.ok ≡ false) touch left (subst (All (λ x. is_done (is x) ≡ false)) (sym answers) (starved_are kind (λ d. is_done d ≡ false) refl xs)) in
        subst (λ (G : Contents). Leaves (map touch left) (contents_of old) G) (sym (ap (λ es. contents_after es nothing) same.log))
        (record { each = λ c. idle (map touch left) none c (contents_of old c) })
    writes_told (writes_served takes) =
        let touch : X → Touch = touch_of as_write is end kind.same_write kind.same_done in
        let all : List Step = steps_of (refusals_of old) (entries_of old) (map as_write xs) in
        let after : contents_of new ≡ after_steps all (contents_of old) = ap (λ es. contents_after es nothing) takes.log ∙ held_after_writes (log_of old) all in
        let touches : map touch left ≡ map step_touch all =
        ap (map touch) takes.answers ∙ same_touches as_write is end kind.same_write kind.same_done (refusals_of old) (entries_of old) xs in
        subst (λ (ts : List Touch). Leaves ts (contents_of old) (contents_of new)) (sym touches)
        (subst (λ (G : Contents). Leaves (map step_touch all) (contents_of old) G) (sym after) (steps_leave all (contents_of old) ∣ whole_entries as_write (refusals_of old) (entries_of old) xs whole ∣₁))
