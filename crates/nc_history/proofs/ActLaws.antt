-- What a name shows after one act: what it showed, or the value that the act gives.
use Rattle.std.proofs.Common.{◌≡◌, ◌⊎◌, ◌≤◌, ◌+◌, ℕ, Bool, true, false, if◌then◌else◌, Option, None, Some, IfSome, List, [], ◌∷◌, Contains, length, take, slice_get, inl, inr, refl, sym, ap, ◌∙◌, subst, arith}
use Rattle.std.specs.Str.{bytes_eq}
use Rattle.std.proofs.lemmas.Bool.{cases_Bool}
use Rattle.std.specs.Bool.{Decides}
use Rattle.std.proofs.lemmas.Bool.Decides.{not_from_Decides}
use Rattle.std.proofs.lemmas.List.{take_all}
use Rattle.std.proofs.lemmas.List.Elements.{All-contains, All-contains_itself, All-take, Contains-push}
use Rattle.std.proofs.lemmas.Map.Made.{is_member-Decides}
use Rattle.std.proofs.lemmas.Option.{slice_get_cases}
use Rattle.std.proofs.lemmas.Slice.Eq.{bytes_eq-Decides}
use Rattle.nc_cloud.specs.Contents.{Contents}
use Rattle.nc_state.specs.Entries.{Entry}
use Rattle.nc_state.specs.Vaults.{Vault, version_in}
use Rattle.nc_state.specs.Versions.{Version, value_of}
use Rattle.nc_state.specs.Versions.Version.{Never, Removed, Stored}
use Rattle.nc_words.specs.declared.act.Act.{Act}
use Rattle.nc_words.specs.declared.act.Act.TheVariants as act
use Rattle.nc_words.specs.Acts.{Task}
use Rattle.nc_vault.specs.Makings.{BringsBy, MakesBy}
use Rattle.nc_vault.specs.Vaults.{Begins, Does, HasReached, IsDoneWith, IsUnderWay, WorksOn}
use Rattle.nc_vault.specs.Vaults.Begins.{not_yet, has_come}
use Rattle.nc_vault.proofs.Members.{in_one, more_cases, next_in, take_whole}
use Rattle.nc_history.specs.Values.{new_value, new_value_by}
use Rattle.nc_history.proofs.EntryLaws.{MayShow, after_shows, settled_shows}

-- ---- the value of a version that an act makes

pub own_value : (own name : List ℕ) (value : Option (List ℕ)) → name ≡ own → (if bytes_eq own name then Some value else None) ≡ Some value
own_value own name value is = ap (λ (b : Bool). if b then Some value else None) ((bytes_eq-Decides own name).1 (sym is))

put_value : (n : ℕ) (task : Task) (own : List ℕ) (names : List (List ℕ)) (name : List ℕ) (x y : Version)
    → names ≡ own ∷ [] → Contains names name → MakesBy n task (act.Put own) name x y → new_value_by (act.Put own) task.bytes name ≡ Some (value_of y)
put_value n task own names name x y works among made =
    let here : name ≡ own = in_one own name (subst (λ (ns : List (List ℕ)). Contains ns name) works among) in
    own_value own name (Some task.bytes) here ∙ ap (λ (z : Version). Some (value_of z)) (sym made.made.is)

removal_value : (n : ℕ) (task : Task) (own : List ℕ) (names : List (List ℕ)) (name : List ℕ) (x y : Version)
    → names ≡ own ∷ [] → Contains names name → MakesBy n task (act.Remove own) name x y → new_value_by (act.Remove own) task.bytes name ≡ Some (value_of y)
removal_value n task own names name x y works among made =
    let here : name ≡ own = in_one own name (subst (λ (ns : List (List ℕ)). Contains ns name) works among) in
    own_value own name None here ∙ ap (λ (z : Version). Some (value_of z)) (sym made.is)

-- a repaired file has the bytes that it had
repair_value : (n : ℕ) (task : Task) (i : ℕ) (name : List ℕ) (x y : Version) → MakesBy n task (act.Repair i) name x y → value_of y ≡ value_of x
repair_value n task i name x y made = ap value_of made.made.is ∙ sym (ap value_of made.made.was)

-- it has the value of the version that it was made of, or the one that the act gives
made_value : (n : ℕ) (task : Task) (F : Contents) (a : Act) (names : List (List ℕ)) (name : List ℕ) (x y : Version) → WorksOn n F a names → Contains names name
    → MakesBy n task a name x y → (value_of y ≡ value_of x) ⊎ (new_value_by a task.bytes name ≡ Some (value_of y))
made_value n task F (act.Put own) names name x y works among made = inr (put_value n task own names name x y works among made)
made_value n task F (act.Remove own) names name x y works among made = inr (removal_value n task own names name x y works among made)
made_value n task F (act.Repair i) names name x y works among made = inl (repair_value n task i name x y made)
made_value n task F other names name x y works among made = absurd made

-- of one that it brings a name to
pub brought_value : (n : ℕ) (task : Task) (F : Contents) (a : Act) (names : List (List ℕ)) (name : List ℕ) (x z : Version) → WorksOn n F a names → Contains names name
    → BringsBy n task a name x z → (value_of z ≡ value_of x) ⊎ (new_value_by a task.bytes name ≡ Some (value_of z))
brought_value n task F (act.Put own) names name x z works among made = inr (put_value n task own names name x z works among made)
brought_value n task F (act.Remove own) names name x z works among made = inr (removal_value n task own names name x z works among made)
brought_value n task F (act.Repair i) names name (Stored old v) z works among made = inl (repair_value n task i name (Stored old v) z made)
brought_value n task F (act.Repair i) names name Never z works among same = inl (ap value_of same)
brought_value n task F (act.Repair i) names name (Removed generation) z works among same = inl (ap value_of same)
brought_value n task F other names name x z works among same = inl (ap value_of same)

-- ---- where a name is among those that an act works on

either_way : {P : Type 0} (b : Bool) → Decides b P → P ⊎ (P → ⊥)
either_way true decides = inl (decides.0 refl)
either_way false decides = inr (not_from_Decides false decides refl)

pub in_or_out : (names : List (List ℕ)) (name : List ℕ) → Contains names name ⊎ (Contains names name → ⊥)
in_or_out names name = either_way _ (is_member-Decides {eq = bytes_eq} bytes_eq-Decides names name)

in_whole : (names : List (List ℕ)) (k : ℕ) (name : List ℕ) → Contains (take k names) name → Contains names name
in_whole names k name among = All-contains (Contains names) (take k names) name (All-take (Contains names) k names (All-contains_itself names)) among

-- among the first, the next, or neither
place_of : (names : List (List ℕ)) (done : ℕ) (name : List ℕ)
    → Contains (take done names) name ⊎ ((slice_get names done ≡ Some name) ⊎ (Contains (take (done + 1) names) name → ⊥))
place_of names done name =
    elim (in_or_out (take (done + 1) names) name) [
      | inr out ↦ inr (inr out)
      | inl among ↦ elim (slice_get_cases names done).1 [
        | inl at ↦ elim (more_cases names done at.0 at.2 name among) [
          | inl early ↦ inl early
          | inr is ↦ inr (inl (at.2 ∙ ap Some is))
        ]
        | inr past ↦
            let long : length names ≤ done = past.0 in
            inl (subst (λ (ns : List (List ℕ)). Contains ns name) (take_all (done + 1) names (omega arith) ∙ sym (take_all done names long)) among)
      ]
    ]

-- ---- one act

module _ (n : ℕ) (task : Task) (V W : Vault) (names : List (List ℕ)) (works : WorksOn n V.contents task.act names) (name : List ℕ) (shown : Option (List ℕ))
    (may : MayShow (W.entries name) shown) where
  done_shows : IsDoneWith n task V W name → Contains names name → MayShow (V.entries name) shown ⊎ (new_value task name ≡ Some shown)
  done_shows done among =
      let is : shown ≡ value_of done.version = subst (λ (e : Entry). MayShow e shown) done.rests may in
      elim (brought_value n task V.contents task.act names name (version_in n V name) done.version works among done.brought) [
        | inl same ↦ inl (subst (MayShow (V.entries name)) (sym (is ∙ same)) (settled_shows n V.contents name (V.entries name)))
        | inr gives ↦ inr (gives ∙ ap Some (sym is))
      ]

  way_shows : IsUnderWay n task V W name → Contains names name → MayShow (V.entries name) shown ⊎ (new_value task name ≡ Some shown)
  way_shows way among =
      let now : MayShow _ shown = subst (λ (e : Entry). MayShow e shown) way.entry may in
      elim (after_shows n V.contents W.contents V.damaged name (V.entries name) way.made shown now) [
        | inl old ↦ inl old
        | inr was ↦
            let made : MakesBy n task task.act name (version_in n V name) was.version =
            subst (λ (m : Option Version). IfSome m (MakesBy n task task.act name (version_in n V name))) was.is way.makes in
            elim (made_value n task V.contents task.act names name (version_in n V name) was.version works among made) [
              | inl same ↦ inl (subst (MayShow (V.entries name)) (sym (was.value ∙ same)) (settled_shows n V.contents name (V.entries name)))
              | inr gives ↦ inr (gives ∙ ap Some (sym was.value))
            ]
      ]

  reached_shows : (done : ℕ) → HasReached n task V W names done → MayShow (V.entries name) shown ⊎ (new_value task name ≡ Some shown)
  reached_shows done reached =
      elim (place_of names done name) [
        | inl early ↦ done_shows (reached.finished name early) (in_whole names done name early)
        | inr late ↦ elim late [
          | inl next ↦
              let way : IsUnderWay n task V W name = subst (λ (o : Option (List ℕ)). IfSome o (IsUnderWay n task V W)) next reached.under_way in
              let among : Contains (take (done + 1) names) name = next_in names done name next in
              way_shows way (in_whole names (done + 1) name among)
          | inr out ↦ inl (subst (λ (e : Entry). MayShow e shown) (reached.others name out).entry may)
        ]
      ]

-- an act that was begun
pub begun_shows : (n : ℕ) (task : Task) (done : ℕ) (V W : Vault) (name : List ℕ) (shown : Option (List ℕ))
    → Begins n task done V W → MayShow (W.entries name) shown → MayShow (V.entries name) shown ⊎ (new_value task name ≡ Some shown)
begun_shows n task done V W name shown (not_yet none same) may = inl (subst (λ (U : Vault). MayShow (U.entries name) shown) same may)
begun_shows n task done V W name shown (has_come begun) may = reached_shows n task V W begun.names begun.works_on name shown may done begun.reached

-- one that was done, and gives the name no value
pub kept_shows : (n : ℕ) (task : Task) (V W : Vault) (name : List ℕ) (shown : Option (List ℕ))
    → Does n task V W → new_value task name ≡ None → MayShow (W.entries name) shown → MayShow (V.entries name) shown
kept_shows n task V W name shown does none may =
    elim (reached_shows n task V W does.names does.works_on name shown may (length does.names) does.reached) [
      | inl old ↦ old
      | inr gives ↦ absurd (let wrong : Some shown ≡ None = sym gives ∙ none in cc)
    ]

-- ---- one that was done, and gives it a value

-- its name is the one that it works on
own_name : (own name : List ℕ) (given value : Option (List ℕ)) → (if bytes_eq own name then Some given else None) ≡ Some value → name ≡ own
own_name own name given value gives =
    elim (cases_Bool (bytes_eq own name)) [
      | inl is ↦ sym ((bytes_eq-Decides own name).0 is)
      | inr not ↦ absurd (let wrong : None ≡ Some value = sym (ap (λ (b : Bool). if b then Some given else None) not) ∙ gives in cc)
    ]

one_of : (own name : List ℕ) (names : List (List ℕ)) → names ≡ own ∷ [] → name ≡ own → Contains names name
one_of own name names works is = subst (λ (ns : List (List ℕ)). Contains ns name) (sym works) (subst (λ (x : List ℕ). Contains (own ∷ []) x) (sym is) (Contains-push [] own))

works_here : (n : ℕ) (F : Contents) (a : Act) (bytes name : List ℕ) (names : List (List ℕ)) (value : Option (List ℕ))
    → new_value_by a bytes name ≡ Some value → WorksOn n F a names → Contains names name
works_here n F (act.Put own) bytes name names value gives works = one_of own name names works (own_name own name (Some bytes) value gives)
works_here n F (act.Remove own) bytes name names value gives works = one_of own name names works (own_name own name None value gives)
works_here n F other bytes name names value gives works = absurd cc

given_value : (n : ℕ) (task : Task) (F : Contents) (a : Act) (names : List (List ℕ)) (name : List ℕ) (x z : Version) (value : Option (List ℕ))
    → new_value_by a task.bytes name ≡ Some value → WorksOn n F a names → Contains names name → BringsBy n task a name x z → value_of z ≡ value
given_value n task F (act.Put own) names name x z value gives works among made =
    let same : Some (value_of z) ≡ Some value = sym (put_value n task own names name x z works among made) ∙ gives in cc
given_value n task F (act.Remove own) names name x z value gives works among made =
    let same : Some (value_of z) ≡ Some value = sym (removal_value n task own names name x z works among made) ∙ gives in cc
given_value n task F other names name x z value gives works among made = absurd cc

pub given_shows : (n : ℕ) (task : Task) (V W : Vault) (name : List ℕ) (value shown : Option (List ℕ))
    → Does n task V W → new_value task name ≡ Some value → MayShow (W.entries name) shown → shown ≡ value
given_shows n task V W name value shown does gives may =
    let among : Contains does.names name = works_here n V.contents task.act task.bytes name does.names value gives does.works_on in
    let done : IsDoneWith n task V W name =
    does.reached.finished name (subst (λ (ns : List (List ℕ)). Contains ns name) (sym (take_whole does.names)) among) in
    let is : shown ≡ value_of done.version = subst (λ (e : Entry). MayShow e shown) done.rests may in
    is ∙ given_value n task V.contents task.act does.names name (version_in n V name) done.version value gives does.works_on among done.brought
