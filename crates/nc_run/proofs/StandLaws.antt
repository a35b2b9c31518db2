-- What the acts of a run leave of a vault, from what each of them does.
use Rattle.std.proofs.Common.{◌≡◌, ◌∙◌, Option, None, Some, IfSome, List, [], ◌∷◌, ℕ, true, false, refl, sym, ap, subst}
use Rattle.nc_cloud.specs.Contents.{Contents}
use Rattle.nc_cloud.specs.Stopping.{Stops}
use Rattle.nc_cloud.specs.declared.fleet.Fleet.{Ghosts as FleetGhosts}
use Rattle.nc_cloud.proofs.Time.{stops_more, stops_none, stops_since, stops_then}
use Rattle.nc_state.specs.Clouds.{Clouds}
use Rattle.nc_state.specs.Standing.{Entries, Stands}
use Rattle.nc_state.specs.Vaults.{ForEachVault, IsVault, Vault}
use Rattle.nc_words.specs.Acts.{Task}
use Rattle.nc_vault.specs.Acting.{Acted}
use Rattle.nc_vault.specs.Vaults.{ActKeeps, StandsAtEnd, StandsBegun, StandsDone}
use Rattle.nc_vault.specs.Vaults.Begins.{not_yet}
use Rattle.nc_vault.specs.declared.reply.Reply.{Reply}
use Rattle.nc_vault.specs.declared.reply.Reply.TheVariants as reply
use Rattle.nc_history.specs.Runs.{LeadsTo}
use Rattle.nc_run.specs.Standing.{RunImage, RunStands, task_in, tasks_in, tasks_of}
use Rattle.nc_run.specs.Turns.{Takes, TakesAll, TakesNext, Turn, is_done}

-- ---- the end of one act

done_end : (n : ℕ) (task : Task) (V : Vault) (G : Contents) (answer : Reply) → is_done answer ≡ true → StandsAtEnd n task V G answer → StandsDone n task V G
done_end n task V G (reply.Stopped cause after) done end = absurd cc
done_end n task V G (reply.Stored generation) done end = end
done_end n task V G (reply.Removed generation) done end = end
done_end n task V G (reply.Bytes bytes) done end = end
done_end n task V G (reply.Listing rows) done end = end
done_end n task V G (reply.About generation len witnessed) done end = end
done_end n task V G (reply.Repaired files) done end = end
done_end n task V G (reply.Restored objects) done end = end
done_end n task V G (reply.Settled names) done end = end
done_end n task V G (reply.Damage flaws) done end = end

stopped_end : (n : ℕ) (task : Task) (V : Vault) (G : Contents) (answer : Reply) → is_done answer ≡ false → StandsAtEnd n task V G answer → StandsBegun n task V G
stopped_end n task V G (reply.Stopped cause after) done end = end.left
stopped_end n task V G (reply.Stored generation) done end = absurd cc
stopped_end n task V G (reply.Removed generation) done end = absurd cc
stopped_end n task V G (reply.Bytes bytes) done end = absurd cc
stopped_end n task V G (reply.Listing rows) done end = absurd cc
stopped_end n task V G (reply.About generation len witnessed) done end = absurd cc
stopped_end n task V G (reply.Repaired files) done end = absurd cc
stopped_end n task V G (reply.Restored objects) done end = absurd cc
stopped_end n task V G (reply.Settled names) done end = absurd cc
stopped_end n task V G (reply.Damage flaws) done end = absurd cc

-- ---- what leads to contents

leads_none : (n : ℕ) (V : Vault) (G : Contents) → V.contents ≡ G → IsVault n V → LeadsTo n [] None V G
leads_none n V G is stands = record { between = V; does = refl; stood = stands; vault = V; begins = refl; contents = is; stands = stands }

leads_begun : (n : ℕ) (task : Task) (V : Vault) (G : Contents) → IsVault n V → StandsBegun n task V G → LeadsTo n [] (Some task) V G
leads_begun n task V G stands b = record {
  between = V;
  does = refl;
  stood = stands;
  vault = b.vault;
  begins = (b.done, b.begun);
  contents = b.contents;
  stands = b.stands;
}

leads_more : (n : ℕ) (task : Task) (tasks : List Task) (next : Option Task) (V : Vault) (H G : Contents) (here : StandsDone n task V H) → LeadsTo n tasks next here.vault G → LeadsTo n (task ∷ tasks) next V G
leads_more n task tasks next V H G here then = record {
  between = then.between;
  does = (here.vault, here.done, here.stands, then.does);
  stood = then.stood;
  vault = then.vault;
  begins = then.begins;
  contents = then.contents;
  stands = then.stands;
}

-- a stop in the first act, and one after it
image_begun : (n : ℕ) (task : Task) (tasks : List Task) (V : Vault) (G : Contents) → IsVault n V → StandsBegun n task V G → RunImage n (task ∷ tasks) V G
image_begun n task tasks V G stands b = record { done = []; rest = task ∷ tasks; are = refl; leads = leads_begun n task V G stands b }

image_more : (n : ℕ) (task : Task) (tasks : List Task) (V : Vault) (H G : Contents) (here : StandsDone n task V H) → RunImage n tasks here.vault G → RunImage n (task ∷ tasks) V G
image_more n task tasks V H G here i = record {
  done = task ∷ i.done;
  rest = i.rest;
  are = ap (λ (l : List Task). task ∷ l) i.are;
  leads = leads_more n task i.done _ V H G here i.leads;
}

-- ---- a run

module _ {A : Type 0} (F : FleetGhosts A) (told : F.tells) where
  -- what an act keeps of the vault at its start
  keeps_from : (n : ℕ) (task : Task) (old new : A) (answer : Reply) (C : Contents) (S : Entries) (D : Clouds) → n ≡ F.clouds old → C ≡ F.held old → Stands n C S D
      → Acted F task old new answer → ActKeeps F n task old new answer (record { contents = C; entries = S; damaged = D })
  keeps_from n task old new answer C S D wide is stands acted =
      let there : Stands (F.clouds old) (F.held old) S D =
      subst (λ (k : ℕ). Stands k (F.held old) S D) wide (subst (λ (G : Contents). Stands n G S D) is stands) in
      subst (λ (G : Contents). ActKeeps F n task old new answer (record { contents = G; entries = S; damaged = D })) (sym is)
      (subst (λ (k : ℕ). ActKeeps F k task old new answer (record { contents = F.held old; entries = S; damaged = D })) (sym wide) ((acted.stands told).each S D there))

  keeps_at : (n : ℕ) (old : A) (t : Turn A) (V : Vault) → n ≡ F.clouds old → V.contents ≡ F.held old → IsVault n V → Takes F old t → ActKeeps F n t.task old t.after t.answer V
  keeps_at n old t V wide is stands takes =
      keeps_from n t.task old t.after t.answer V.contents V.entries V.damaged wide is stands
      (subst (λ (b : A). Acted F t.task b t.after t.answer) takes.from_here takes.acted)

  wide_after : (n : ℕ) (old : A) (t : Turn A) → n ≡ F.clouds old → Takes F old t → n ≡ F.clouds t.after
  wide_after n old t wide takes = wide ∙ sym (takes.acted.clouds ∙ ap F.clouds takes.from_here)

  -- no act is left to be done
  stands_next : (n : ℕ) (old new : A) (next : Option (Turn A)) (V : Vault) → n ≡ F.clouds old → V.contents ≡ F.held old → IsVault n V
      → TakesNext F old next new → IfSome next (λ t. is_done t.answer ≡ false) → RunStands F n [] next old new V
  stands_next n old new None V wide is stands same not = record {
    end = leads_none n V (F.held new) (is ∙ sym (ap F.held same)) stands;
    stops = subst (λ (s : A). Stops F old s (RunImage n [] V)) (sym same) (stops_none {F = F} old (RunImage n [] V));
  }
  stands_next n old new (Some t) V wide is stands takes not =
      let keeps : ActKeeps F n t.task old t.after t.answer V = keeps_at n old t V wide is stands takes.0 in
      let begun : StandsBegun n t.task V (F.held t.after) = stopped_end n t.task V (F.held t.after) t.answer not keeps.end in
      record {
        end = leads_begun n t.task V (F.held new) stands (subst (λ (s : A). StandsBegun n t.task V (F.held s)) (sym takes.1) begun);
        stops = subst (λ (s : A). Stops F old s (RunImage n (t.task ∷ []) V)) (sym takes.1)
            (stops_more {F = F} keeps.stops (λ G b. image_begun n t.task [] V G stands b));
      }

  pub run_stands : (n : ℕ) (old mid new : A) (done : List (Turn A)) (next : Option (Turn A)) (V : Vault) → n ≡ F.clouds old → V.contents ≡ F.held old → IsVault n V
      → TakesAll F old done mid → TakesNext F mid next new → IfSome next (λ t. is_done t.answer ≡ false) → RunStands F n done next old new V
  run_stands n old mid new [] next V wide is stands same takes not =
      stands_next n old new next V wide is stands (subst (λ (s : A). TakesNext F s next new) same takes) not
  run_stands n old mid new (t ∷ ts) next V wide is stands takes one not =
      let keeps : ActKeeps F n t.task old t.after t.answer V = keeps_at n old t V wide is stands takes.0 in
      let here : StandsDone n t.task V (F.held t.after) = done_end n t.task V (F.held t.after) t.answer takes.1 keeps.end in
      let then : RunStands F n ts next t.after new here.vault =
      run_stands n t.after mid new ts next here.vault (wide_after n old t wide takes.0) here.contents here.stands takes.2 one not in
      record {
        end = leads_more n t.task (tasks_of ts) (task_in next) V (F.held t.after) (F.held new) here then.end;
        stops = stops_then {F = F} (stops_more {F = F} keeps.stops (λ G b. image_begun n t.task (tasks_in ts next) V G stands b))
            (stops_more {F = F} then.stops (λ G i. image_more n t.task (tasks_in ts next) V (F.held t.after) G here i));
      }

  -- a stop in the act that came after these leaves them done and this one begun
  pub stop_leads : (n : ℕ) (old mid : A) (done : List (Turn A)) (t : Turn A) (V : Vault) (G : Contents) → n ≡ F.clouds old → V.contents ≡ F.held old → IsVault n V
      → TakesAll F old done mid → Takes F mid t → ((H : Contents) → F.image mid (F.now mid) H → H ≡ F.held mid) → F.image t.after (F.now mid) G → LeadsTo n (tasks_of done) (Some t.task) V G
  stop_leads n old mid [] t V G wide is stands same takes only image =
      let here : Takes F old t = subst (λ (s : A). Takes F s t) same takes in
      let keeps : ActKeeps F n t.task old t.after t.answer V = keeps_at n old t V wide is stands here in
      let first : StandsBegun n t.task V V.contents = record { vault = V; contents = refl; stands = stands; done = 0; begun = not_yet refl refl } in
      let held : (H : Contents) → F.image old (F.now old) H → H ≡ V.contents = λ H i. subst (λ (s : A). (H : Contents) → F.image s (F.now s) H → H ≡ F.held s) same only H i ∙ sym is in
      leads_begun n t.task V G stands (stops_since {F = F} V.contents held first keeps.stops G (subst (λ (s : A). F.image t.after (F.now s) G) same image))
  stop_leads n old mid (u ∷ us) t V G wide is stands takes one only image =
      let keeps : ActKeeps F n u.task old u.after u.answer V = keeps_at n old u V wide is stands takes.0 in
      let here : StandsDone n u.task V (F.held u.after) = done_end n u.task V (F.held u.after) u.answer takes.1 keeps.end in
      leads_more n u.task (tasks_of us) (Some t.task) V (F.held u.after) G here
      (stop_leads n u.after mid us t here.vault G (wide_after n old u wide takes.0) here.contents here.stands takes.2 one only image)
