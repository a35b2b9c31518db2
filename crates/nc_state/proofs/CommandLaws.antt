-- Commands, round by round.
use Rattle.std.proofs.Common.{◌≡◌, ◌+◌, ◌<◌, ◌≤◌, ℕ, Bool, true, false, if◌then◌else◌, Option, None, Some, List, inl, inr, refl, sym, ap, ◌∙◌, subst, arith}
use Rattle.std.specs.Option.{option_map_or}
use Rattle.std.specs.Str.{bytes_eq}
use Rattle.std.proofs.lemmas.Slice.Eq.{bytes_eq-Decides}
use Rattle.nc_meta.specs.declared.meta.Meta.{Meta}
use Rattle.nc_cloud.specs.Contents.{Contents}
use Rattle.nc_name.specs.Names.{IsName}
use Rattle.nc_state.specs.Clouds.{Clouds}
use Rattle.nc_state.specs.Versions.{Version, meta_of, version_generation}
use Rattle.nc_state.specs.Holding.{AllHold, HeldByAll, Holds, HoldsIfAny, NoneAbove}
use Rattle.nc_state.specs.Entries.{Entry, HasEntry}
use Rattle.nc_state.specs.Entries.Entry.{Rest, Opened}
use Rattle.nc_state.specs.Weighing.{after, all_outside_hold, settled, some_holds, weigh}
use Rattle.nc_state.specs.Standing.{Entries, Stands, with_entry}
use Rattle.nc_state.specs.Commands.{IsNext, MetasWritten, NothingMadeYet, NothingToSettle, RestsAfter, RestsAt, SettledIsTop, Settling, StaysAtRest}
use Rattle.nc_state.specs.Laws.{AtRestIsAfter, EntriesAgree, NotBegun}
use Rattle.nc_state.proofs.Weighs.{choice, held_outside, open_settled, settled_weighs, weighs_itself}
use Rattle.nc_meta.specs.Metas.{generation_of}
use Rattle.nc_state.proofs.Held.{no_meta_held}
use Rattle.nc_state.proofs.MetaWrites.{generation_is}
use Rattle.nc_state.proofs.AfterLaws.{after_settling, held_rests, unwritten_weighs, written_rests}
use Rattle.nc_state.proofs.RestingLaw.{resting_round_keeps}
use Rattle.nc_state.proofs.MetaLaws.{meta_round_keeps, settle_round_keeps}

-- ---- the entries with one of them changed

entry_here : (S : Entries) (name : List ℕ) (e : Entry) → with_entry S name e name ≡ e
entry_here S name e = ap (λ (b : Bool). if b then e else S name) ((bytes_eq-Decides name name).1 refl)

over : (b : Bool) (e f s : Entry) → (if b then f else (if b then e else s)) ≡ (if b then f else s)
over true e f s = refl
over false e f s = refl

-- changed twice, the last one counts
entry_over : (S : Entries) (name : List ℕ) (e f : Entry) → with_entry (with_entry S name e) name f ≡ with_entry S name f
entry_over S name e f = λ i other. over (bytes_eq other name) e f (S other) i

same_entry_here : (b : Bool) (S : Entries) (name other : List ℕ) → (b ≡ true → other ≡ name) → (if b then S name else S other) ≡ S other
same_entry_here true S name other is = ap S (sym (is refl))
same_entry_here false S name other is = refl

-- changed to what it was, nothing changes
entry_same : (S : Entries) (name : List ℕ) → with_entry S name (S name) ≡ S
entry_same S name = λ i other. same_entry_here (bytes_eq other name) S name other (bytes_eq-Decides other name).0 i

stands_with : {n : ℕ} {G : Contents} {D : Clouds} (S : Entries) (name : List ℕ) (e f : Entry) → e ≡ f → Stands n G (with_entry S name e) D → Stands n G (with_entry S name f) D
stands_with {n} {G} {D} S name e f same = subst (λ (g : Entry). Stands n G (with_entry S name g) D) same

-- ---- no meta above what was settled

below_choice : (n : ℕ) (G : Contents) (D : Clouds) (name : List ℕ) (x y : Version) (some all : Bool) → version_generation y ≡ version_generation x + 1
    → HasEntry n G D name (choice some all x y) → NoneAbove n G name (version_generation y)
below_choice n G D name x y false all next r = λ c m l h. let low = r.none_above c m l h in omega (arith, next, low)
below_choice n G D name x y true true next r = r.none_above
below_choice n G D name x y true false next o = o.between.none_above

below_weighed : (n : ℕ) (F G : Contents) (D : Clouds) (name : List ℕ) (e : Entry) → HasEntry n F D name e → HasEntry n G D name (weigh n G D name e) → NoneAbove n G name (version_generation (settled n F name e))
below_weighed n F G D name (Rest x) has r = r.none_above
below_weighed n F G D name (Opened x y) has weighed =
    subst (λ (z : Version). NoneAbove n G name (version_generation z)) (sym (open_settled n F D name x y has))
    (below_choice n G D name x y (some_holds n G name y) (all_outside_hold n G D name y) has.between.next weighed)

-- while nothing is above it, the command's version isn't begun
unbegun_weighs : (n : ℕ) (F G : Contents) (D : Clouds) (name : List ℕ) (e : Entry) (x : Version) (made : Option Version) → IsNext n x made → NoneAbove n G name (version_generation x)
    → after n F G D name e made ≡ weigh n G D name e
unbegun_weighs n F G D name e x None next below = refl
unbegun_weighs n F G D name e x (Some y) next below = unwritten_weighs n F G D name e (version_generation x) y next.0 below (omega (arith, next.1))

-- ---- the laws on entries

pub not_begun : NotBegun
not_begun n F G D name (Rest x) made has now next = unbegun_weighs n F G D name (Rest x) x made next now.none_above
not_begun n F G D name (Opened x y) made has now next =
    let is = open_settled n F D name x y has in
    unbegun_weighs n F G D name (Opened x y) (settled n F name (Opened x y)) made next
    (subst (λ (z : Version). NoneAbove n G name (version_generation z)) (sym is) now.between.none_above)
    ∙ weighs_itself n G D name (Opened x y) now

pub at_rest_is_after : AtRestIsAfter
at_rest_is_after n F G D name e z made wide few has rests next (inr new) =
    ap (after n F G D name e) new ∙ held_rests n G D name (settled n F name e) (weigh n G D name e) z wide few rests
at_rest_is_after n F G D name (Rest x) z made wide few has rests next (inl old) =
    unbegun_weighs n F G D name (Rest x) x made next (subst (λ (w : Version). NoneAbove n G name (version_generation w)) old rests.none_above) ∙ ap Rest (sym old)
at_rest_is_after n F G D name (Opened x y) z made wide few has rests next (inl old) =
    let is : z ≡ y = old ∙ open_settled n F D name x y has in
    unbegun_weighs n F G D name (Opened x y) (settled n F name (Opened x y)) made next (subst (λ (w : Version). NoneAbove n G name (version_generation w)) old rests.none_above)
    ∙ ap (λ (w : Version). weigh n G D name (Opened x w)) (sym is)
    ∙ (held_outside n G D name x z wide few rests.valid rests.held).1

pub entries_agree : EntriesAgree
entries_agree n F S T D stands agree = record {
  wide = stands.wide;
  narrow = stands.narrow;
  few = stands.few;
  entries = λ name is. subst (HasEntry n F D name) (agree name is) (stands.entries name is);
  metas = stands.metas;
  objects = stands.objects;
}

-- ---- the laws on commands

rests_at : {n : ℕ} {G : Contents} {D : Clouds} (S : Entries) (name : List ℕ) (x : Version) → IsName name → Stands n G (with_entry S name (Rest x)) D → AllHold n G name x
    → RestsAt n G S D name x
rests_at {n} {G} {D} S name x is stands held = record {
  stands = stands;
  rests = subst (HasEntry n G D name) (entry_here S name (Rest x)) (stands.entries name is);
  held = held;
}

pub settling : Settling
settling n F G S D name m made is stands of_settled next image =
    let has : HasEntry n F D name (S name) = stands.entries name is in
    let kept = settle_round_keeps n F G S D name m is stands of_settled image in
    let weighed : HasEntry n G D name (weigh n G D name (S name)) = subst (HasEntry n G D name) (entry_here S name (weigh n G D name (S name))) (kept.entries name is) in
    let below = below_weighed n F G D name (S name) has weighed in (
      stands_with S name (weigh n G D name (S name)) (after n F G D name (S name) made) (sym (unbegun_weighs n F G D name (S name) (settled n F name (S name)) made next below)) kept,
      λ held. rests_at S name (settled n F name (S name)) is
          (stands_with S name (weigh n G D name (S name)) (Rest (settled n F name (S name))) (settled_weighs n F G D name (S name) stands.wide has held) kept) held,
    )

held_of_none : (n : ℕ) (F : Contents) (name : List ℕ) (o : Option Meta) → o ≡ None → (c : ℕ) → HoldsIfAny n F name c o
held_of_none n F name None is c = tt
held_of_none n F name (Some m) is c = absurd cc

pub nothing_to_settle : NothingToSettle
nothing_to_settle n F S D name is stands none =
    let has : HasEntry n F D name (S name) = stands.entries name is in
    let held : AllHold n F name (settled n F name (S name)) = λ c l. held_of_none n F name (meta_of (settled n F name (S name))) none c in
    let rests : S name ≡ Rest (settled n F name (S name)) = sym (weighs_itself n F D name (S name) has) ∙ settled_weighs n F F D name (S name) stands.wide has held in
    rests_at S name (settled n F name (S name)) is (stands_with S name (S name) (Rest (settled n F name (S name))) rests (subst (λ (T : Entries). Stands n F T D) (sym (entry_same S name)) stands)) held

pub stays_at_rest : StaysAtRest
stays_at_rest n F G S D name x is rests image =
    let kept = resting_round_keeps n F G (with_entry S name (Rest x)) D name x is rests.stands (entry_here S name (Rest x)) image in
    rests_at S name x is kept.0 (kept.1 rests.held)

pub rests_after : RestsAfter
rests_after n F G S D name z made is stands rests next which =
    stands_with S name (Rest z) (after n F G D name (S name) made)
    (sym (at_rest_is_after n F G D name (S name) z made stands.wide stands.few (stands.entries name is) rests.rests next which)) rests.stands

pub metas_written : MetasWritten
metas_written n F H G S D name y m is stands rests next of_y places image =
    let has : HasEntry n F D name (S name) = stands.entries name is in
    let T = with_entry S name (Rest (settled n F name (S name))) in
    let here : T name ≡ Rest (settled n F name (S name)) = entry_here S name (Rest (settled n F name (S name))) in
    let kept = meta_round_keeps n H G T D name (settled n F name (S name)) y m is rests.stands here of_y next.1 next.0 places image in
    let held : AllHold n G name (settled n F name (S name)) = kept.1 rests.held in
    let same : after n H G D name (T name) (Some y) ≡ after n F G D name (S name) (Some y) =
    ap (λ (e : Entry). after n H G D name e (Some y)) here ∙ sym (after_settling n F G D name (S name) (Some y) stands.wide has held) in
    let once : Stands n G (with_entry S name (after n H G D name (T name) (Some y))) D =
    subst (λ (U : Entries). Stands n G U D) (entry_over S name (Rest (settled n F name (S name))) (after n H G D name (T name) (Some y))) kept.0 in
    let now = stands_with S name (after n H G D name (T name) (Some y)) (after n F G D name (S name) (Some y)) same once in (
      now,
      λ all. rests_at S name y is (stands_with S name (after n F G D name (S name) (Some y)) (Rest y) (written_rests n F G D name (S name) y stands.wide next.0 all) now) all,
    )

pub nothing_made_yet : NothingMadeYet
nothing_made_yet n F S D name is stands =
    stands_with S name (S name) (weigh n F D name (S name)) (sym (weighs_itself n F D name (S name) (stands.entries name is)))
    (subst (λ (T : Entries). Stands n F T D) (sym (entry_same S name)) stands)

-- a meta that all clouds hold, beside what each holds of a version at rest
meta_at_rest : (n : ℕ) (H : Contents) (S : Entries) (D : Clouds) (name : List ℕ) (x : Version) (m : Meta) → RestsAt n H S D name x → HeldByAll n H name m
    → (o : Option Meta) → meta_of x ≡ o → HoldsIfAny n H name 0 o → meta_of x ≡ Some m
meta_at_rest n H S D name x m r all None is held =
    let first : 0 < n = let wide = r.stands.wide in omega arith in
    let here : Holds n H name 0 m = all.each 0 first in
    let low : generation_of m ≤ version_generation x = r.rests.none_above 0 m first here in
    let none : version_generation x ≡ 0 = ap (λ (k : Option Meta). option_map_or generation_of k 0) is in
    r.rests.one_meta 0 m first here (omega (arith, low, none))
meta_at_rest n H S D name x m r all (Some k) is held =
    let first : 0 < n = let wide = r.stands.wide in omega arith in
    let here : Holds n H name 0 m = all.each 0 first in
    let low : generation_of m ≤ version_generation x = r.rests.none_above 0 m first here in
    let high : generation_of k ≤ generation_of m = all.highest 0 k first held in
    let top : version_generation x ≡ generation_of k = generation_is x k is in
    r.rests.one_meta 0 m first here (omega (arith, low, high, top))

pub settled_is_top : SettledIsTop
settled_is_top n H S D name x None r on =
    no_meta_held n H name 0 (meta_of x) (λ m h. on.none 0 m (let wide = r.stands.wide in omega arith) h) (r.held 0 (let wide = r.stands.wide in omega arith))
settled_is_top n H S D name x (Some m) r on =
    meta_at_rest n H S D name x m r on (meta_of x) refl (r.held 0 (let wide = r.stands.wide in omega arith))
