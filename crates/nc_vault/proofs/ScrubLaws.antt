-- What isn't right of all names, as it is told name by name.
use Rattle.std.proofs.Common.{◌≡◌, ◌<◌, ◌+◌, ◌++◌, ℕ, suc, Bool, true, false, if◌then◌else◌, Some, List, [], ◌∷◌, All, Contains, length, take, get_or, slice_get, append-nil, append_assoc, inl, inr, refl, sym, ap, ◌∙◌, subst, arith}
use Rattle.std.specs.Str.{bytes_eq}
use Rattle.std.proofs.lemmas.Bool.{cases_Bool}
use Rattle.std.proofs.lemmas.List.{take_more}
use Rattle.std.proofs.lemmas.List.Elements.{All-contains, Contains-get_or, Contains-push_cases}
use Rattle.std.proofs.lemmas.Option.{get_or_from_slice_get}
use Rattle.std.proofs.lemmas.Slice.Eq.{bytes_eq-Decides}
use Rattle.nc_name.specs.Names.{IsName}
use Rattle.nc_cloud.specs.Contents.{Contents}
use Rattle.nc_cloud.specs.Deciding.{HasCause, OnlyLooked}
use Rattle.nc_cloud.specs.Stopping.{Stops}
use Rattle.nc_cloud.specs.declared.deciding.RoundFault.{RoundFault}
use Rattle.nc_cloud.specs.declared.deciding.RoundFault.TheVariants as round
use Rattle.nc_cloud.specs.declared.fleet.Fleet.{Ghosts as FleetGhosts}
use Rattle.nc_cloud.proofs.Counts.{rose_more}
use Rattle.nc_cloud.proofs.Time.{stops_twice}
use Rattle.nc_state.specs.Standing.{AreNames}
use Rattle.nc_state.specs.Vaults.{ForEachVault, Vault}
use Rattle.nc_settle.specs.declared.settled.SettleFault.{SettleFault}
use Rattle.nc_settle.specs.declared.settled.SettleFault.TheVariants as settle
use Rattle.nc_settle.specs.Settling.{HasSettleCause, SettleRefuses}
use Rattle.nc_names.specs.Listing.{IsOfCloud, OnlyListed}
use Rattle.nc_scrub.specs.declared.flaw.Flaw.{Flaw}
use Rattle.nc_scrub.specs.Flaws.{AreFlaws}
use Rattle.nc_words.specs.declared.act.Act.TheVariants as act
use Rattle.nc_words.specs.declared.setting.Setting.{Setting}
use Rattle.nc_words.specs.Acts.{Task, task_of}
use Rattle.nc_vault.specs.declared.fault.Fault.{Fault}
use Rattle.nc_vault.specs.declared.reply.NamedFlaw.{NamedFlaw}
use Rattle.nc_vault.specs.declared.reply.Reply.TheVariants as reply
use Rattle.nc_vault.specs.Acting.{Acted}
use Rattle.nc_vault.specs.Counting.{CountsGrow, CountsSay, failing_in, rose}
use Rattle.nc_vault.specs.Damage.{AreAllFlaws, named_flaws, with_name}
use Rattle.nc_vault.specs.Faults.{fault_of_round, fault_of_settle}
use Rattle.nc_vault.specs.Replies.{StopsFor}
use Rattle.nc_vault.specs.Saying.{SweepRefuses}
use Rattle.nc_vault.specs.Scrubbing.{NameTold, NameUntold, OnlyScrubs}
use Rattle.nc_vault.specs.Vaults.{WorksOn}
use Rattle.nc_vault.proofs.ListingLaws.{rose_true, second_true, stays}
use Rattle.nc_vault.proofs.Members.{in_none, next_within, one_more, take_whole}
use Rattle.nc_vault.proofs.OneName.{settle_refuses, settle_stops, vault_of}
use Rattle.nc_vault.proofs.ReadLaws.{OnlyReads, reads_done, reads_only, reads_stopped}
use Rattle.nc_vault.proofs.SweepActs.{list_refuses, name_refuses}
use Rattle.nc_vault.proofs.SweepStates.{grows_both, listed_grows}

-- ---- the flaws of one name

-- one flaw more
with_more : (name : List ℕ) (flaws : List Flaw) (f : Flaw) → with_name name (flaws ++ f ∷ []) ≡ with_name name flaws ++ record { name = name; flaw = f } ∷ []
with_more name [] f = refl
with_more name (first ∷ flaws) f = ap (λ (r : List NamedFlaw). record { name = name; flaw = first } ∷ r) (with_more name flaws f)

pub pushed_none : (name : List ℕ) (told : List NamedFlaw) (flaws : List Flaw) → told ≡ told ++ with_name name (take 0 flaws)
pushed_none name told flaws = sym (append-nil told)

pub pushed_more : (name : List ℕ) (before told now : List NamedFlaw) (flaws : List Flaw) (k : ℕ) (d : Flaw) → k < length flaws → told ≡ before ++ with_name name (take k flaws)
    → now ≡ told ++ record { name = name; flaw = get_or flaws k d } ∷ [] → now ≡ before ++ with_name name (take (k + 1) flaws)
pushed_more name before told now flaws k d within so pushed =
    let f : Flaw = get_or flaws k d in
    let one : List NamedFlaw = record { name = name; flaw = f } ∷ [] in
    let more : take (k + 1) flaws ≡ take k flaws ++ f ∷ [] = take_more flaws k d within in
    pushed ∙ ap (λ (t : List NamedFlaw). t ++ one) so ∙ append_assoc before (with_name name (take k flaws)) one
    ∙ ap (λ (t : List NamedFlaw). before ++ t) (sym (with_more name (take k flaws) f)) ∙ ap (λ (fs : List Flaw). before ++ with_name name fs) (sym more)

-- ---- the flaws of several

in_first : (x : List ℕ) (xs : List (List ℕ)) → Contains (x ∷ xs) x
in_first x xs = (0, omega arith, refl)

in_rest : (x y : List ℕ) (xs : List (List ℕ)) → Contains xs y → Contains (x ∷ xs) y
in_rest x y xs (k, l, e) = (suc k, omega (arith, l), e)

named_same : (of other : List ℕ → List Flaw) (names : List (List ℕ)) → ((name : List ℕ) → Contains names name → of name ≡ other name) → named_flaws of names ≡ named_flaws other names
named_same of other [] same = refl
named_same of other (name ∷ names) same =
    ap (λ (fs : List Flaw). with_name name fs ++ named_flaws of names) (same name (in_first name names))
    ∙ ap (λ (r : List NamedFlaw). with_name name (other name) ++ r) (named_same of other names (λ y among. same y (in_rest name y names among)))

named_more : (of : List ℕ → List Flaw) (names : List (List ℕ)) (name : List ℕ) → named_flaws of (names ++ name ∷ []) ≡ named_flaws of names ++ with_name name (of name)
named_more of [] name = append-nil (with_name name (of name))
named_more of (first ∷ names) name =
    ap (λ (r : List NamedFlaw). with_name first (of first) ++ r) (named_more of names name)
    ∙ sym (append_assoc (with_name first (of first)) (named_flaws of names) (with_name name (of name)))

if_true : (b : Bool) (x y : List Flaw) → b ≡ true → (if b then x else y) ≡ x
if_true true x y is = refl
if_true false x y is = absurd cc

if_false : (b : Bool) (x y : List Flaw) → b ≡ false → (if b then x else y) ≡ y
if_false true x y is = absurd cc
if_false false x y is = refl

-- the flaws of one name more
abbrev also : List ℕ → List Flaw → (List ℕ → List Flaw) → List ℕ → List Flaw
also name flaws of x = if bytes_eq name x then flaws else of x

module _ (name : List ℕ) (flaws : List Flaw) (of : List ℕ → List Flaw) where
  also_here : also name flaws of name ≡ flaws
  also_here = if_true (bytes_eq name name) flaws (of name) ((bytes_eq-Decides name name).1 refl)

  also_other : (x : List ℕ) → (name ≡ x → ⊥) → also name flaws of x ≡ of x
  also_other x differ =
      elim (cases_Bool (bytes_eq name x)) [
        | inl is ↦ absurd (differ ((bytes_eq-Decides name x).0 is))
        | inr not ↦ if_false (bytes_eq name x) flaws (of x) not
      ]

-- the list has the flaws of these names
pub record AreFlawsOfEach (n : ℕ) (F : Contents) (names : List (List ℕ)) (told : List NamedFlaw) : Type 0 where
  pub of : (name : List ℕ) → List Flaw
  pub each : (name : List ℕ) → Contains names name → AreFlaws n name F (of name)
  pub is : told ≡ named_flaws of names

module _ (n : ℕ) (F : Contents) (names : List (List ℕ)) (before told : List NamedFlaw) (name : List ℕ) (is_new : Contains names name → ⊥) (flaws : List Flaw)
    (so : AreFlawsOfEach n F names before) (are : AreFlaws n name F flaws) (is : told ≡ before ++ with_name name flaws) where
  abbrev now_of : List ℕ → List Flaw
  now_of = also name flaws so.of

  early_same : (x : List ℕ) → Contains names x → now_of x ≡ so.of x
  early_same x among = also_other name flaws so.of x (λ e. is_new (subst (λ (y : List ℕ). Contains names y) (sym e) among))

  each_now : (x : List ℕ) → Contains (names ++ name ∷ []) x → AreFlaws n x F (now_of x)
  each_now x among =
      elim (Contains-push_cases names name x among) [
        | inl early ↦ subst (λ (fs : List Flaw). AreFlaws n x F fs) (sym (early_same x early)) (so.each x early)
        | inr e ↦ subst (λ (y : List ℕ). AreFlaws n y F (now_of y)) e (subst (λ (fs : List Flaw). AreFlaws n name F fs) (sym (also_here name flaws so.of)) are)
      ]

  flaws_pushed : AreFlawsOfEach n F (names ++ name ∷ []) told
  flaws_pushed = record {
    of = now_of;
    each = each_now;
    is =
        is ∙ ap (λ (r : List NamedFlaw). r ++ with_name name flaws) (so.is ∙ sym (named_same now_of so.of names early_same))
        ∙ ap (λ (fs : List Flaw). named_flaws now_of names ++ with_name name fs) (sym (also_here name flaws so.of))
        ∙ sym (named_more now_of names name);
  }

-- ---- between two names

-- It began at `old` and has told of so many of these names.
pub record ScrubbedSoFar {A : Type 0} (F : FleetGhosts A) (names : List (List ℕ)) (done : ℕ) (told : List NamedFlaw) (old now : A) : Type 0 where
  pub clouds : F.clouds now ≡ F.clouds old
  pub held : F.held now ≡ F.held old
  pub grows : CountsGrow F old now
  pub stops : Stops F old now (λ G. G ≡ F.held old)
  pub clean : F.counts_exactly → (c : ℕ) → F.faults now c ≡ F.faults old c
  pub flaws : F.tells → AreFlawsOfEach (F.clouds old) (F.held old) (take done names) told

module _ {A : Type 0} (F : FleetGhosts A) where
  looked_grows : {old new : A} → OnlyLooked F old new → CountsGrow F old new
  looked_grows {old} {new} looked = record {
    faults = looked.grows;
    slips = λ c. let same : F.slips new c ≡ F.slips old c = ap (λ (f : ℕ → ℕ). f c) looked.slips in omega (arith, same);
  }

  pub scrubbed_none : (names : List (List ℕ)) {old now : A} (told : List NamedFlaw) → OnlyListed F old now → told ≡ [] → ScrubbedSoFar F names 0 told old now
  scrubbed_none names {old} {now} told listed none = record {
    clouds = listed.clouds;
    held = listed.held;
    grows = listed_grows F listed;
    stops = listed.stops;
    clean = λ exact c. ap (λ (f : ℕ → ℕ). f c) listed.faults;
    flaws = λ tells. record { of = λ name. []; each = λ name among. absurd (in_none name among); is = none };
  }

  module _ (names : List (List ℕ)) {old mid new : A} (done : ℕ) (before : List NamedFlaw) (name : List ℕ) (next : slice_get names done ≡ Some name) (is_new : Contains (take done names) name → ⊥)
      (so : ScrubbedSoFar F names done before old mid) (only : OnlyScrubs F mid new) where
    abbrev n : ℕ
    n = F.clouds old

    pub so_clouds : F.clouds new ≡ F.clouds old
    so_clouds = only.looked.clouds ∙ so.clouds

    pub so_held : F.held new ≡ F.held old
    so_held = only.looked.held ∙ so.held

    pub so_grows : CountsGrow F old new
    so_grows = grows_both F so.grows (looked_grows only.looked)

    pub so_stops : Stops F old new (λ G. G ≡ F.held old)
    so_stops = stops_twice so.held so.stops only.stops

    flaws_here : (told : List NamedFlaw) (t : NameTold F name before told mid new) → F.tells → AreFlaws n name (F.held old) t.flaws
    flaws_here told t tells =
        subst (λ (G : Contents). AreFlaws n name G t.flaws) so.held (subst (λ (k : ℕ). AreFlaws k name (F.held mid) t.flaws) so.clouds (t.are tells))

    pub scrubbed_more : (told : List NamedFlaw) → NameTold F name before told mid new → ScrubbedSoFar F names (done + 1) told old new
    scrubbed_more told t = record {
      clouds = so_clouds;
      held = so_held;
      grows = so_grows;
      stops = so_stops;
      clean = λ exact c. t.clean exact c ∙ so.clean exact c;
      flaws = λ tells.
          subst (λ (ns : List (List ℕ)). AreFlawsOfEach n (F.held old) ns told) (sym (one_more names done name next))
          (flaws_pushed n (F.held old) (take done names) before told name is_new t.flaws (so.flaws tells) (flaws_here told t tells) t.is);
    }

    -- a name that can't be told, seen from the begin
    refuses_since : (f : SettleFault) → (F.tells → SettleRefuses (F.clouds mid) name (F.held mid) f) → F.tells → SettleRefuses n name (F.held old) f
    refuses_since f refuses tells =
        subst (λ (G : Contents). SettleRefuses n name G f) so.held (subst (λ (k : ℕ). SettleRefuses k name (F.held mid) f) so.clouds (refuses tells))

    counts_since : (f : SettleFault) → HasSettleCause F.counts_exactly (F.faults mid) (F.faults new) f → HasSettleCause F.counts_exactly (F.faults old) (F.faults new) f
    counts_since (settle.Cloud c) is =
        (rose_more (F.faults old c) (F.faults mid c) (F.faults new c) (so.grows.faults c) is.0, λ exact d low. is.1 exact d low ∙ so.clean exact d)
    counts_since (settle.Misplaced c a b) is = λ exact d. is exact d ∙ so.clean exact d
    counts_since (settle.Conflict g a b) is = λ exact d. is exact d ∙ so.clean exact d
    counts_since settle.Memory is = tt

    pub untold_since : (cause : Fault) → NameUntold F name cause mid new → NameUntold F name cause old new
    untold_since cause u = record { fault = u.fault; is = u.is; refuses = refuses_since u.fault u.refuses; counts = counts_since u.fault u.counts }

-- ---- all of it

module _ {A : Type 0} (F : FleetGhosts A) (s : Setting) (bytes : List ℕ) {old new : A} (clouds : F.clouds new ≡ F.clouds old) (held : F.held new ≡ F.held old)
    (grows : CountsGrow F old new) (stops : Stops F old new (λ G. G ≡ F.held old)) where
  abbrev task : Task
  task = task_of s act.Scrub bytes

  reads : OnlyReads act.Scrub
  reads = record { works = λ n G. refl; changes = λ G H is. is; damaged = λ D. refl }

  none_among : (names : List (List ℕ)) (of : List ℕ) → WorksOn (F.clouds old) (F.held old) act.Scrub names → Contains names of → ⊥
  none_among names of works among = in_none of (subst (λ (ns : List (List ℕ)). Contains ns of) works among)

  -- it was stopped
  scrub_stopped : (f : Fault) (done : ℕ) → CountsSay F act.Scrub old new (reply.Stopped f (Some done)) → (F.tells → SweepRefuses (F.clouds old) s act.Scrub (F.held old) (F.held new) f (Some done))
      → (F.tells → ForEachVault (F.clouds old) (F.held old) (λ V. StopsFor (F.clouds old) task V (failing_in F act.Scrub old new) f))
      → Acted F task old new (reply.Stopped f (Some done))
  scrub_stopped f done counts refuses stops_for = record {
    clouds = clouds;
    grows = grows;
    time = stops.time;
    kind = tt;
    counts = counts;
    costs = tt;
    took = tt;
    before = stays (F.held old) (F.held new) f (Some done) held;
    only = λ told. reads_only F task reads held stops;
    says = refuses;
    sees = tt;
    reads = λ told. record { each = λ S D stands. tt };
    stands = λ told. reads_stopped F task reads held stops (Some done) refl f told;
    replies = stops_for;
    tidy = λ told sure not. tt;
  }

  -- all names are told
  pub scrub_done : (names : List (List ℕ)) (told : List NamedFlaw) → (F.counts_exactly → (c : ℕ) → F.faults new c ≡ F.faults old c) → (F.tells → AreNames (F.clouds old) (F.held old) names)
      → (F.tells → AreFlawsOfEach (F.clouds old) (F.held old) (take (length names) names) told) → Acted F task old new (reply.Damage told)
  scrub_done names told clean are flaws =
      let all : F.tells → AreAllFlaws (F.clouds old) (F.held old) told = λ tells.
      let at : AreFlawsOfEach (F.clouds old) (F.held old) names told =
      subst (λ (ns : List (List ℕ)). AreFlawsOfEach (F.clouds old) (F.held old) ns told) (take_whole names) (flaws tells) in
      record { names = names; are_names = are tells; of = at.of; each = at.each; is = at.is } in
      record {
        clouds = clouds;
        grows = grows;
        time = stops.time;
        kind = tt;
        counts = λ exact c within. clean exact c;
        costs = tt;
        took = tt;
        before = tt;
        only = λ tells. reads_only F task reads held stops;
        says = all;
        sees = tt;
        reads = λ tells. record { each = λ S D stands. tt };
        stands = reads_done F task reads held stops (reply.Damage told) (λ V done. done);
        replies = λ tells. record { each = λ S D stands. all tells };
        tidy = λ tells sure not. record { each = λ names_of of plain works among. absurd (none_among names_of of works among) };
      }

  -- ---- a name can't be told

  settle_counts : (f : SettleFault) (done : ℕ) → HasSettleCause F.counts_exactly (F.faults old) (F.faults new) f → CountsSay F act.Scrub old new (reply.Stopped (fault_of_settle f) (Some done))
  settle_counts (settle.Cloud c) done is = inl (record { rose_here = is.0; least = λ exact d low within. is.1 exact d low })
  settle_counts (settle.Misplaced c a b) done is = λ exact d within. is exact d
  settle_counts (settle.Conflict g a b) done is = λ exact d within. is exact d
  settle_counts settle.Memory done is = tt

  settled_acted : (names : List (List ℕ)) (done : ℕ) (name : List ℕ) (next : slice_get names done ≡ Some name) → IsName name → (F.tells → AreNames (F.clouds old) (F.held old) names) → (f : SettleFault)
      → (F.tells → SettleRefuses (F.clouds old) name (F.held old) f) → HasSettleCause F.counts_exactly (F.faults old) (F.faults new) f → Acted F task old new (reply.Stopped (fault_of_settle f) (Some done))
  settled_acted names done name next is are f refuses counts =
      scrub_stopped (fault_of_settle f) done (settle_counts f done counts)
      (λ told. name_refuses (F.clouds old) s act.Scrub (F.held old) (F.held new) (fault_of_settle f) (Some done) (record {
        names = names;
        are_names = are told;
        done = done;
        tells = refl;
        name = name;
        next = next;
        refuses = settle_refuses (F.clouds old) s name (F.held old) f (refuses told);
      }))
      (λ told. record { each = λ S D stands. settle_stops F (F.clouds old) task name old new S D f is stands (refuses told) counts })

  pub untold_acted : (names : List (List ℕ)) (done : ℕ) (name : List ℕ) (next : slice_get names done ≡ Some name) → All IsName names → (F.tells → AreNames (F.clouds old) (F.held old) names)
      → (cause : Fault) → NameUntold F name cause old new → Acted F task old new (reply.Stopped cause (Some done))
  untold_acted names done name next valid are cause u =
      let among : Contains names name = subst (Contains names) (get_or_from_slice_get names done name name next) (Contains-get_or names done name (next_within names done name next)) in
      subst (λ (f : Fault). Acted F task old new (reply.Stopped f (Some done))) (sym u.is)
      (settled_acted names done name next (All-contains IsName names name valid among) are u.fault u.refuses u.counts)

  -- ---- a list failed

  module _ (listed : OnlyListed F old new) where
    round_counts : (f : RoundFault) → HasCause F.counts_exactly (F.slips old) (F.slips new) f → IsOfCloud (F.clouds old) f → CountsSay F act.Scrub old new (reply.Stopped (fault_of_round f) (Some 0))
    round_counts (round.Cloud c) is below =
        inr (record {
          listing = refl;
          first = refl;
          in_width = below;
          least = record { rose_here = is.0; least = λ exact d low within. is.1 exact d low };
          faults = λ exact d within. ap (λ (f : ℕ → ℕ). f d) listed.faults;
          held = listed.held;
        })
    round_counts round.Memory is below = tt

    round_stops : (f : RoundFault) (V : Vault) → HasCause F.counts_exactly (F.slips old) (F.slips new) f → StopsFor (F.clouds old) task V (failing_in F act.Scrub old new) (fault_of_round f)
    round_stops (round.Cloud c) V is = second_true (rose (F.faults old c) (F.faults new c)) (rose (F.slips old c) (F.slips new c)) (rose_true (F.slips old c) (F.slips new c) is.0)
    round_stops round.Memory V is = tt

    unlisted_by : (f : RoundFault) → HasCause F.counts_exactly (F.slips old) (F.slips new) f → IsOfCloud (F.clouds old) f → Acted F task old new (reply.Stopped (fault_of_round f) (Some 0))
    unlisted_by f is below =
        scrub_stopped (fault_of_round f) 0 (round_counts f is below) (λ told. list_refuses (F.clouds old) s act.Scrub (F.held old) (F.held new) f (Some 0))
        (λ told. record { each = λ S D stands. round_stops f (vault_of (F.held old) S D) is })

pub unlisted_acted : {A : Type 0} (F : FleetGhosts A) (s : Setting) (bytes : List ℕ) {old new : A} → OnlyListed F old new → (f : RoundFault) → HasCause F.counts_exactly (F.slips old) (F.slips new) f
    → IsOfCloud (F.clouds old) f → Acted F (task_of s act.Scrub bytes) old new (reply.Stopped (fault_of_round f) (Some 0))
unlisted_acted F s bytes listed f is below = unlisted_by F s bytes listed.clouds listed.held (listed_grows F listed) listed.stops listed f is below
