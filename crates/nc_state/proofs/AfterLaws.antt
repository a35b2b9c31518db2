-- The entry after a command.
use Rattle.std.proofs.Common.{◌≡◌, ◌<◌, ◌≤◌, ℕ, Bool, false, if◌then◌else◌, Option, None, Some, List, refl, ap, ◌∙◌, arith}
use Rattle.std.specs.Option.{option_map_or}
use Rattle.nc_meta.specs.declared.meta.Meta.{Meta}
use Rattle.nc_meta.specs.Metas.{generation_of}
use Rattle.nc_cloud.specs.Contents.{Contents}
use Rattle.nc_state.specs.Clouds.{Clouds, count_of}
use Rattle.nc_state.specs.Versions.{Version, IsValid, meta_of, version_generation}
use Rattle.nc_state.specs.Holding.{AllHold, HoldsIfAny, NoneAbove, holds}
use Rattle.nc_state.specs.Entries.{Entry, HasEntry, Rests}
use Rattle.nc_state.specs.Entries.Entry.{Rest, Opened}
use Rattle.nc_state.specs.Weighing.{after, settled, some_holds, weigh}
use Rattle.nc_state.proofs.CloudSets.{any_there}
use Rattle.nc_state.proofs.Held.{holds-Decides}
use Rattle.nc_state.proofs.Weighs.{all_held, held_outside, not_true, settled_weighs}
use Rattle.nc_state.proofs.MetaWrites.{generation_is}

-- a cloud that holds a version's meta holds none as low as g
held_above : (n : ℕ) (G : Contents) (name : List ℕ) (g : ℕ) (y : Version) (o : Option Meta) → meta_of y ≡ o → NoneAbove n G name g → g < version_generation y
    → (c : ℕ) → c < n → HoldsIfAny n G name c o → ⊥
held_above n G name g y None is below high c l h = let e : version_generation y ≡ 0 = ap (λ o. option_map_or generation_of o 0) is in omega arith
held_above n G name g y (Some k) is below high c l h =
    let low : generation_of k ≤ g = below c k l h in
    let e : version_generation y ≡ generation_of k = generation_is y k is in
    omega arith

-- while no cloud holds a meta as high as the new version's, the entry is weighed as if the command made none
pub unwritten_weighs : (n : ℕ) (F G : Contents) (D : Clouds) (name : List ℕ) (e : Entry) (g : ℕ) (y : Version)
    → IsValid n y → NoneAbove n G name g → g < version_generation y → after n F G D name e (Some y) ≡ weigh n G D name e
unwritten_weighs n F G D name e g y valid below high =
    let nobody : some_holds n G name y ≡ false = not_true (some_holds n G name y) (λ some.
    let there = any_there n (holds n G name y) some in
    held_above n G name g y (meta_of y) refl below high there.0 there.1 ((holds-Decides n G name y valid there.0).0 there.2)) in
    ap (λ (b : Bool). if b then weigh n G D name (Opened (settled n F name e) y) else weigh n G D name e) nobody

-- while all clouds hold what was settled, the entry is the one from that version at rest
pub after_settling : (n : ℕ) (F G : Contents) (D : Clouds) (name : List ℕ) (e : Entry) (made : Option Version)
    → 4 ≤ n → HasEntry n F D name e → AllHold n G name (settled n F name e)
    → after n F G D name e made ≡ after n F G D name (Rest (settled n F name e)) made
after_settling n F G D name e None wide has held = settled_weighs n F G D name e wide has held
after_settling n F G D name e (Some y) wide has held =
    ap (λ (w : Entry). if some_holds n G name y then weigh n G D name (Opened (settled n F name e) y) else w) (settled_weighs n F G D name e wide has held)

-- once all clouds hold the new version's meta, it is that version at rest
pub written_rests : (n : ℕ) (F G : Contents) (D : Clouds) (name : List ℕ) (e : Entry) (y : Version)
    → 4 ≤ n → IsValid n y → AllHold n G name y → after n F G D name e (Some y) ≡ Rest y
written_rests n F G D name e y wide valid held =
    let all = all_held n G D name (settled n F name e) y wide valid held in
    ap (λ (b : Bool). if b then weigh n G D name (Opened (settled n F name e) y) else weigh n G D name e) all.0 ∙ all.1

-- the same where the version rests, whatever damaged clouds hold; `w` is what would be there were it not begun
pub held_rests : (n : ℕ) (G : Contents) (D : Clouds) (name : List ℕ) (x : Version) (w : Entry) (z : Version) → 4 ≤ n → count_of n D ≤ 2 → Rests n G D name z
    → (if some_holds n G name z then weigh n G D name (Opened x z) else w) ≡ Rest z
held_rests n G D name x w z wide few rests =
    let all = held_outside n G D name x z wide few rests.valid rests.held in
    ap (λ (b : Bool). if b then weigh n G D name (Opened x z) else w) all.0 ∙ all.1
