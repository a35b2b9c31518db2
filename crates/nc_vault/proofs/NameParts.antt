-- The part of an act that works on one name, over the states of a fleet.
use Rattle.std.proofs.Common.{◌≡◌, ◌+◌, ℕ, Option, None, Some, List, [], ◌∷◌, Contains, length, take, slice_get, inl, inr, refl, sym, subst}
use Rattle.nc_cloud.specs.Contents.{Contents}
use Rattle.nc_cloud.specs.Stopping.{Keeps, Stops}
use Rattle.nc_cloud.specs.declared.fleet.Fleet.{Ghosts as FleetGhosts}
use Rattle.nc_cloud.proofs.Time.{keeps_by, stops_more, stops_none, stops_then}
use Rattle.nc_state.specs.Clouds.{Clouds}
use Rattle.nc_state.specs.Standing.{Entries, Stands}
use Rattle.nc_state.specs.Vaults.{BeginsMaking, ChangesOnlyName, ForEachVault, IsVault, NothingMade, Vault}
use Rattle.nc_state.specs.Versions.{Version}
use Rattle.nc_words.specs.Acts.{FitsWidth, Task}
use Rattle.nc_vault.specs.Makings.{Makes}
use Rattle.nc_vault.specs.Parts.{BeginsPart, DoesPart, NamesKept}
use Rattle.nc_vault.specs.Vaults.{DoesName, StandsBegun, StandsBegunAt, StandsDone, StandsFinished, StandsStopped, TellsDone, WorksOn}
use Rattle.nc_vault.proofs.Members.{in_none}
use Rattle.nc_vault.proofs.NameLaws.{all_begun, name_is_begun, name_is_done, names_begin, names_end}

-- what holds of each vault that contents stand for holds of the one that the act has come to
pub of_here : {n : ℕ} {task : Task} {V : Vault} {names : List (List ℕ)} {done : ℕ} {F : Contents} (P : Vault → Type 0) (at : StandsFinished n task V names done F) → ForEachVault n F P → P at.vault
of_here {n} P at each =
    let W : Vault = at.vault in
    subst (λ (C : Contents). Stands n C W.entries W.damaged → P (record { contents = C; entries = W.entries; damaged = W.damaged })) (sym at.contents)
    (λ stands. each.each W.entries W.damaged stands) at.stands

module _ {A : Type 0} (F : FleetGhosts A) where
  -- a command that has made nothing may have begun
  pub made_nothing : (n : ℕ) (name : List ℕ) (makes : Version → Version → Type 0) (V : Vault) {old new : A} → Keeps F old new (NothingMade n name V) → Keeps F old new (BeginsMaking n name makes V)
  made_nothing n name makes V keeps = keeps_by (BeginsMaking n name makes V) keeps (λ G stands. record { made = None; makes_it = tt; stands = stands })

  -- two facts of each image
  pub keeps_both : {old new : A} (P Q : Contents → Type 0) → Keeps F old new P → Keeps F old new Q → Keeps F old new (λ G. P G × Q G)
  keeps_both P Q a b = record {
    here = (a.here, b.here);
    stops = record {
      time = a.stops.time;
      each = λ t G le is.
          elim (a.stops.each t G le is) [
            | inl was ↦ inl was
            | inr p ↦ elim (b.stops.each t G le is) [
              | inl was ↦ inl was
              | inr q ↦ inr (p, q)
            ]
          ];
    };
  }

  -- ---- an act on all names

  module _ (n : ℕ) (task : Task) (V : Vault) (names : List (List ℕ)) where
    -- no name was worked on
    pub kept_none : (old : A) → V.contents ≡ F.held old → IsVault n V → NamesKept F n task names 0 old old V
    kept_none old is stands = record {
      stops = stops_none old (StandsBegun n task V);
      reached = subst (StandsFinished n task V names 0) is (names_begin n task V names stands);
    }

    -- the act began at `old` and has come to `mid`
    module _ (works : WorksOn n V.contents task.act names) {old mid : A} (done : ℕ) (kept : NamesKept F n task names done old mid V) where
      -- all names are done
      module _ (all : length names ≡ done) where
        all_kept : StandsFinished n task V names (length names) (F.held mid)
        all_kept = subst (λ (d : ℕ). StandsFinished n task V names d (F.held mid)) (sym all) kept.reached

        pub kept_all : Keeps F old mid (StandsBegun n task V)
        kept_all = record { here = (all_begun n task V names (F.held mid) works all_kept).left; stops = kept.stops }

        pub kept_end : IsVault n V → FitsWidth n task.act → StandsDone n task V (F.held mid)
        kept_end stands fits = names_end n task V names (F.held mid) works all_kept stands fits

      -- the part of the next name leads on to `new`
      module _ {new : A} (name : List ℕ) (next : slice_get names done ≡ Some name) (is_new : Contains (take done names) name → ⊥) (clouds : F.clouds mid ≡ n)
          (begins : BeginsPart F task name mid new) (alone : Keeps F mid new (ChangesOnlyName name (F.held mid))) where
        begins_here : Keeps F mid new (BeginsMaking n name (Makes n task name) kept.reached.vault)
        begins_here = of_here (λ W. Keeps F mid new (BeginsMaking n name (Makes n task name) W)) kept.reached
            (subst (λ (k : ℕ). ForEachVault k (F.held mid) (λ W. Keeps F mid new (BeginsMaking k name (Makes k task name) W))) clouds begins)

        -- each image of the part stands for the act begun
        part_keeps : Keeps F mid new (StandsBegunAt n task V done)
        part_keeps =
            keeps_by (StandsBegunAt n task V done)
            (keeps_both (BeginsMaking n name (Makes n task name) kept.reached.vault) (ChangesOnlyName name (F.held mid)) begins_here alone)
            (λ G b. name_is_begun n task V names done (F.held mid) name next is_new kept.reached works G b.0 b.1)

        part_stops : Stops F old new (StandsBegun n task V)
        part_stops = stops_then kept.stops (stops_more part_keeps.stops (λ G b. b.left))

        -- stopped in it
        pub kept_stopped : Keeps F old new (StandsBegun n task V)
        kept_stopped = record { here = part_keeps.here.left; stops = part_stops }

        pub stopped_at : StandsBegunAt n task V done (F.held new)
        stopped_at = part_keeps.here

        -- done with it
        pub kept_more : DoesPart F task name mid new → NamesKept F n task names (done + 1) old new V
        kept_more does = record {
          stops = part_stops;
          reached = name_is_done n task V names done (F.held mid) name next is_new kept.reached (F.held new)
              (of_here (λ W. DoesName n task name W (F.held new)) kept.reached
              (subst (λ (k : ℕ). ForEachVault k (F.held mid) (λ W. DoesName k task name W (F.held new))) clouds does))
              alone.here;
        }

  -- ---- an act on one name

  module _ (n : ℕ) (task : Task) (name : List ℕ) {old new : A} (works : (G : Contents) → WorksOn n G task.act (name ∷ []))
      (alone : Keeps F old new (ChangesOnlyName name (F.held old))) (S : Entries) (D : Clouds) (stands : Stands n (F.held old) S D) where
    abbrev from : Vault
    from = record { contents = F.held old; entries = S; damaged = D }

    one_keeps : Keeps F old new (BeginsMaking n name (Makes n task name) from) → Keeps F old new (StandsBegunAt n task from 0)
    one_keeps begins =
        keeps_by (StandsBegunAt n task from 0) (keeps_both (BeginsMaking n name (Makes n task name) from) (ChangesOnlyName name (F.held old)) begins alone)
        (λ G b. name_is_begun n task from (name ∷ []) 0 (F.held old) name refl (in_none name) (names_begin n task from (name ∷ []) stands) (works (F.held old)) G b.0 b.1)

    -- each stop of it stands for the act begun
    pub one_stops : Keeps F old new (BeginsMaking n name (Makes n task name) from) → Stops F old new (StandsBegun n task from)
    one_stops begins = stops_more (one_keeps begins).stops (λ G b. b.left)

    -- so does its end, where it isn't done
    pub one_stopped : Keeps F old new (BeginsMaking n name (Makes n task name) from) → (after : Option ℕ) → TellsDone task.act after 0 → StandsStopped n task from (F.held new) after
    one_stopped begins after tells =
        let at : StandsBegunAt n task from 0 (F.held new) = (one_keeps begins).here in
        record { left = at.left; tells = subst (TellsDone task.act after) (sym at.tells) tells }

    -- and where it is, for the act done
    pub one_done : FitsWidth n task.act → DoesName n task name from (F.held new) → StandsDone n task from (F.held new)
    one_done fits does =
        names_end n task from (name ∷ []) (F.held new) (works (F.held old))
        (name_is_done n task from (name ∷ []) 0 (F.held old) name refl (in_none name) (names_begin n task from (name ∷ []) stands) (F.held new) does alone.here) stands fits
