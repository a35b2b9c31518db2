-- Weighing.
use Rattle.std.proofs.Common.{◌≡◌, ◌<◌, ◌≤◌, ◌||◌, ℕ, Bool, true, false, not, if◌then◌else◌, Some, List, refl, sym, ap, ◌∙◌, subst, arith}
use Rattle.std.proofs.lemmas.Bool.Decides.{not_from_Decides}
use Rattle.nc_meta.specs.Metas.{generation_of}
use Rattle.nc_cloud.specs.Contents.{Contents}
use Rattle.nc_state.specs.Clouds.{Clouds, count_of}
use Rattle.nc_state.specs.Versions.{Version, version_generation, IsValid}
use Rattle.nc_state.specs.Holding.{AllHold, HeldOutside, HoldsIfAny, HoldsVersion, NoneAbove, holds}
use Rattle.nc_state.specs.Entries.{Between, IsOpen, Entry, HasEntry}
use Rattle.nc_state.specs.Entries.Entry.{Rest, Opened}
use Rattle.nc_state.specs.Weighing.{after, all_outside_hold, settled, some_holds, weigh}
use Rattle.nc_state.specs.Laws.{StepSettlesOn}
use Rattle.nc_state.proofs.CloudSets.{all_here, all_there, any_here, any_there, not_all, or_false, or_true, some_outside, true_not_false}
use Rattle.nc_state.proofs.Held.{holds-Decides}

-- the weighed entry, by the two tests
abbrev pub choice : Bool → Bool → Version → Version → Entry
choice some all x y = if not some then Rest x else if all then Rest y else Opened x y

weigh_choice : (n : ℕ) (G : Contents) (E : Clouds) (name : List ℕ) (x y : Version) (some all : Bool) → some_holds n G name y ≡ some → all_outside_hold n G E name y ≡ all
    → Between n G E name x y → HasEntry n G E name (choice some all x y)
weigh_choice n G E name x y false all none is b =
    let nobody : (c : ℕ) → c < n → HoldsVersion n G name c y → ⊥ =
    λ c l h. true_not_false _ (any_here n (holds n G name y) c l ((holds-Decides n G name y b.valid_new c).1 h)) none in
    let below : NoneAbove n G name (version_generation x) = λ c m l h.
    let most : generation_of m ≤ version_generation y = b.none_above c m l h in
    let differs : generation_of m ≡ version_generation y → ⊥ = λ e.
    nobody c l (subst (HoldsIfAny n G name c) (sym (b.one_new c m l h e)) h) in
    omega (arith, b.next) in
    record { none_above = below; one_meta = b.one_old; held = b.held; valid = b.valid_old; places = b.places_old }
weigh_choice n G E name x y true true some all b = record {
  none_above = b.none_above;
  one_meta = b.one_new;
  held = λ c l out. (holds-Decides n G name y b.valid_new c).0 (or_true (E c) (holds n G name y c) (all_there n (λ k. E k || holds n G name y k) all c l) out);
  valid = b.valid_new;
  places = b.places_new;
}
weigh_choice n G E name x y true false some all b =
    let there = any_there n (holds n G name y) some in
    let lacks = not_all n (λ k. E k || holds n G name y k) all in
    let neither = or_false (E lacks.0) (holds n G name y lacks.0) lacks.2 in
    record {
      between = b;
      some_new = (there.0, there.1, (holds-Decides n G name y b.valid_new there.0).0 there.2);
      some_not = (lacks.0, lacks.1, neither.0, not_from_Decides _ (holds-Decides n G name y b.valid_new lacks.0) neither.1);
    }

-- between two versions the weighed entry is there
pub between_weighs : (n : ℕ) (G : Contents) (E : Clouds) (name : List ℕ) (x y : Version) → Between n G E name x y → HasEntry n G E name (weigh n G E name (Opened x y))
between_weighs n G E name x y b = weigh_choice n G E name x y (some_holds n G name y) (all_outside_hold n G E name y) refl refl b

after_choice : (n : ℕ) (G : Contents) (E : Clouds) (name : List ℕ) (x y : Version) (some : Bool) → some_holds n G name y ≡ some → Between n G E name x y
    → HasEntry n G E name (if some then weigh n G E name (Opened x y) else Rest x)
after_choice n G E name x y true is b = between_weighs n G E name x y b
after_choice n G E name x y false is b = weigh_choice n G E name x y false (all_outside_hold n G E name y) is refl b

-- and so is that after a command that would make the second from the first at rest
pub between_after : (n : ℕ) (F G : Contents) (E : Clouds) (name : List ℕ) (x y : Version) → Between n G E name x y → HasEntry n G E name (after n F G E name (Rest x) (Some y))
between_after n F G E name x y b = after_choice n G E name x y (some_holds n G name y) refl b

-- ---- entries that stand

-- some cloud holds the meta of the second version
open_some : (n : ℕ) (F : Contents) (D : Clouds) (name : List ℕ) (x y : Version) → IsOpen n F D name x y → some_holds n F name y ≡ true
open_some n F D name x y o =
    any_here n (holds n F name y) o.some_new.0 o.some_new.1 ((holds-Decides n F name y o.between.valid_new o.some_new.0).1 o.some_new.2)

pub not_true : (b : Bool) → (b ≡ true → ⊥) → b ≡ false
not_true true wrong = absurd (wrong refl)
not_true false wrong = refl

-- some cloud outside D doesn't
open_not : (n : ℕ) (F : Contents) (D : Clouds) (name : List ℕ) (x y : Version) → IsOpen n F D name x y → all_outside_hold n F D name y ≡ false
open_not n F D name x y o =
    let lacks = o.some_not in
    not_true (all_outside_hold n F D name y) (λ all.
    lacks.3 ((holds-Decides n F name y o.between.valid_new lacks.0).0 (or_true (D lacks.0) (holds n F name y lacks.0) (all_there n (λ k. D k || holds n F name y k) all lacks.0 lacks.1) lacks.2)))

weigh_by : (n : ℕ) (G : Contents) (E : Clouds) (name : List ℕ) (x y : Version) (some all : Bool) → some_holds n G name y ≡ some → all_outside_hold n G E name y ≡ all
    → weigh n G E name (Opened x y) ≡ choice some all x y
weigh_by n G E name x y some all is_some is_all =
    ap (λ (b : Bool). choice b (all_outside_hold n G E name y) x y) is_some ∙ ap (λ (b : Bool). choice some b x y) is_all

-- an entry weighs itself while nothing changes
pub weighs_itself : (n : ℕ) (F : Contents) (D : Clouds) (name : List ℕ) (e : Entry) → HasEntry n F D name e → weigh n F D name e ≡ e
weighs_itself n F D name (Rest x) r = refl
weighs_itself n F D name (Opened x y) o = weigh_by n F D name x y true false (open_some n F D name x y o) (open_not n F D name x y o)

pub open_settled : StepSettlesOn
open_settled n F D name x y o = ap (λ (b : Bool). if b then y else x) (open_some n F D name x y o)

or_second : (a b : Bool) → b ≡ true → (a || b) ≡ true
or_second true b e = refl
or_second false b e = e

-- where all clouds hold the meta of the second version, the step is done
pub all_held : (n : ℕ) (G : Contents) (D : Clouds) (name : List ℕ) (x y : Version) → 4 ≤ n → IsValid n y → AllHold n G name y
    → (some_holds n G name y ≡ true) × (weigh n G D name (Opened x y) ≡ Rest y)
all_held n G D name x y wide valid held =
    let each : (c : ℕ) → c < n → holds n G name y c ≡ true = λ c l. (holds-Decides n G name y valid c).1 (held c l) in
    let one : 0 < n = omega arith in
    let some = any_here n (holds n G name y) 0 one (each 0 one) in
    (some, weigh_by n G D name x y true true some (all_here n (λ k. D k || holds n G name y k) (λ c l. or_second (D c) (holds n G name y c) (each c l))))

or_holds : (a b : Bool) → (a ≡ false → b ≡ true) → (a || b) ≡ true
or_holds true b held = refl
or_holds false b held = held refl

-- the same where all clouds outside D hold it, and D is at most two
pub held_outside : (n : ℕ) (G : Contents) (D : Clouds) (name : List ℕ) (x y : Version) → 4 ≤ n → count_of n D ≤ 2 → IsValid n y → HeldOutside n G D name y
    → (some_holds n G name y ≡ true) × (weigh n G D name (Opened x y) ≡ Rest y)
held_outside n G D name x y wide few valid held =
    let each : (c : ℕ) → c < n → D c ≡ false → holds n G name y c ≡ true = λ c l out. (holds-Decides n G name y valid c).1 (held c l out) in
    let one = some_outside n D (omega arith) in
    let some = any_here n (holds n G name y) one.0 one.1 (each one.0 one.1 one.2) in
    (some, weigh_by n G D name x y true true some (all_here n (λ k. D k || holds n G name y k) (λ c l. or_holds (D c) (holds n G name y c) (each c l))))

-- once all clouds hold what was settled, the entry from before weighs as that at rest
pub settled_weighs : (n : ℕ) (F G : Contents) (D : Clouds) (name : List ℕ) (e : Entry) → 4 ≤ n → HasEntry n F D name e → AllHold n G name (settled n F name e)
    → weigh n G D name e ≡ Rest (settled n F name e)
settled_weighs n F G D name (Rest x) wide r all = refl
settled_weighs n F G D name (Opened x y) wide o all =
    let is = open_settled n F D name x y o in
    (all_held n G D name x y wide o.between.valid_new (λ c l. subst (HoldsVersion n G name c) is (all c l))).1 ∙ ap Rest (sym is)
