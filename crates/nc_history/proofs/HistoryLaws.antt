-- What a name shows after a history.
use Rattle.std.proofs.Common.{◌≡◌, ◌⊎◌, ◌++◌, ℕ, Option, None, Some, List, [], ◌∷◌, Contains, inl, inr, ap, subst}
use Rattle.std.specs.Option.{option_map_or}
use Rattle.std.proofs.lemmas.List.Elements.{Contains-append_left, Contains-append_right, Contains-push}
use Rattle.nc_state.specs.Entries.{Entry}
use Rattle.nc_state.specs.Standing.{Entries}
use Rattle.nc_state.specs.Vaults.{IsVault, Vault}
use Rattle.nc_words.specs.Acts.{Task}
use Rattle.nc_vault.specs.Vaults.{Does}
use Rattle.nc_history.specs.Runs.{BeginsNext, DoesAll}
use Rattle.nc_history.specs.Histories.{Happening, HappensTo, HistoryTo}
use Rattle.nc_history.specs.Histories.Happening.{Ran, Lost}
use Rattle.nc_history.specs.Values.{GaveLast, IsAllowed, NoneGives, NoneGivesSince, new_value, since, unfinished, with_begun}
use Rattle.nc_history.proofs.ActLaws.{begun_shows, given_shows, kept_shows}
use Rattle.nc_history.proofs.EntryLaws.{MayShow, weighed_shows}

-- ---- a run

all_show : (n : ℕ) (tasks : List Task) (V W : Vault) (name : List ℕ) (shown : Option (List ℕ))
    → DoesAll n tasks V W → NoneGives tasks name → MayShow (W.entries name) shown → MayShow (V.entries name) shown
all_show n [] V W name shown same none may = subst (λ (U : Vault). MayShow (U.entries name) shown) same may
all_show n (task ∷ tasks) V W name shown (U, does, stands, rest) none may =
    kept_shows n task V U name shown does none.0 (all_show n tasks U W name shown rest none.1 may)

-- the value of an act that was begun is one of these, and so are all others
begun_in : (given : Option (Option (List ℕ))) (values : List (Option (List ℕ))) (shown : Option (List ℕ))
    → given ≡ Some shown → Contains (option_map_or (λ value. value ∷ values) given values) shown
begun_in None values shown is = absurd cc
begun_in (Some value) values shown is =
    let same : value ≡ shown = cc in
    subst (Contains (value ∷ values)) same (Contains-append_left (value ∷ []) values value (Contains-push [] value))

others_in : (given : Option (Option (List ℕ))) (values : List (Option (List ℕ))) (shown : Option (List ℕ))
    → Contains values shown → Contains (option_map_or (λ value. value ∷ values) given values) shown
others_in None values shown among = among
others_in (Some value) values shown among = Contains-append_right (value ∷ []) values shown among

next_in : (next : Option Task) (name : List ℕ) (values : List (Option (List ℕ))) (shown : Option (List ℕ))
    → Contains values shown → Contains (with_begun next name values) shown
next_in None name values shown among = among
next_in (Some task) name values shown among = others_in (new_value task name) values shown among

next_shows : (n : ℕ) (next : Option Task) (V W : Vault) (name : List ℕ) (values : List (Option (List ℕ))) (shown : Option (List ℕ))
    → BeginsNext n next V W → MayShow (W.entries name) shown → MayShow (V.entries name) shown ⊎ Contains (with_begun next name values) shown
next_shows n None V W name values shown same may = inl (subst (λ (U : Vault). MayShow (U.entries name) shown) same may)
next_shows n (Some task) V W name values shown (done, begins) may =
    elim (begun_shows n task done V W name shown begins may) [
      | inl old ↦ inl old
      | inr gives ↦ inr (begun_in (new_value task name) values shown gives)
    ]

-- ---- a history in which no act that was done gives the name a value

pub history_shows : (n : ℕ) (hs : List Happening) (V W : Vault) (name : List ℕ) (shown : Option (List ℕ))
    → HistoryTo n hs V W → NoneGivesSince hs name → MayShow (W.entries name) shown → MayShow (V.entries name) shown ⊎ Contains (unfinished hs name) shown
history_shows n [] V W name shown same none may = inl (subst (λ (U : Vault). MayShow (U.entries name) shown) same may)
history_shows n (Ran tasks next ∷ hs) V W name shown (U, (T, does, stood, begins), stands, later) none may =
    elim (history_shows n hs U W name shown later none.1 may) [
      | inr among ↦ inr (next_in next name (unfinished hs name) shown among)
      | inl here ↦ elim (next_shows n next T U name (unfinished hs name) shown begins here) [
        | inr among ↦ inr among
        | inl old ↦ inl (all_show n tasks V T name shown does none.0 old)
      ]
    ]
history_shows n (Lost c ∷ hs) V W name shown (U, lost, stands, later) none may =
    elim (history_shows n hs U W name shown later none may) [
      | inr among ↦ inr among
      | inl here ↦
          let entry = ap (λ (S : Entries). S name) lost.entries in
          inl (weighed_shows n U.contents U.damaged name (V.entries name) shown (subst (λ (e : Entry). MayShow e shown) entry here))
    ]

-- ---- the last act that was done and gave it one

record Parted (n : ℕ) (h : Happening) (later : List Happening) (W : Vault) : Type 0 where
  from : Vault
  to : Vault
  happens : HappensTo n h from to
  stands : IsVault n to
  goes_on : HistoryTo n later to W

part_history : (n : ℕ) (early : List Happening) (h : Happening) (later : List Happening) (V W : Vault) → HistoryTo n (early ++ h ∷ later) V W → Parted n h later W
part_history n [] h later V W (U, happens, stands, goes_on) = record { from = V; to = U; happens = happens; stands = stands; goes_on = goes_on }
part_history n (e ∷ early) h later V W (U, happens, stands, goes_on) = part_history n early h later U W goes_on

record PartedActs (n : ℕ) (task : Task) (rest : List Task) (W : Vault) : Type 0 where
  from : Vault
  to : Vault
  does : Does n task from to
  goes_on : DoesAll n rest to W

part_acts : (n : ℕ) (before : List Task) (task : Task) (rest : List Task) (V W : Vault) → DoesAll n (before ++ task ∷ rest) V W → PartedActs n task rest W
part_acts n [] task rest V W (U, does, stands, goes_on) = record { from = V; to = U; does = does; goes_on = goes_on }
part_acts n (t ∷ before) task rest V W (U, does, stands, goes_on) = part_acts n before task rest U W goes_on

pub last_shows : (n : ℕ) (hs : List Happening) (V W : Vault) (name : List ℕ) (shown : Option (List ℕ)) (gave : GaveLast name hs)
    → HistoryTo n hs V W → MayShow (W.entries name) shown → IsAllowed gave shown
last_shows n hs V W name shown gave history may =
    let h : Happening = Ran (gave.before ++ gave.task ∷ gave.rest) gave.next in
    let there : HistoryTo n (gave.early ++ h ∷ gave.later) V W = subst (λ (l : List Happening). HistoryTo n l V W) gave.are history in
    let p : Parted n h gave.later W = part_history n gave.early h gave.later V W there in
    let ran : HappensTo n h p.from p.to = p.happens in
    let a : PartedActs n gave.task gave.rest ran.0 = part_acts n gave.before gave.task gave.rest p.from ran.0 ran.1 in
    let on : HistoryTo n (since gave) a.to W = (p.to, (ran.0, a.goes_on, ran.2, ran.3), p.stands, p.goes_on) in
    elim (history_shows n (since gave) a.to W name shown on gave.none_since may) [
      | inr among ↦ inr among
      | inl here ↦ inl (given_shows n gave.task a.from a.to name gave.value shown a.does gave.gives here)
    ]
