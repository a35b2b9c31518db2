-- What losses and runs make of a vault.
use Rattle.std.proofs.Common.{◌≡◌, ◌∙◌, ◌≤◌, ℕ, Option, None, Some, List, [], ◌∷◌, refl, sym, ap, subst}
use Rattle.nc_state.specs.Clouds.{Clouds, count_of, with_cloud}
use Rattle.nc_state.specs.Losses.{weighed}
use Rattle.nc_state.specs.Vaults.{IsVault, Vault}
use Rattle.nc_state.proofs.LossLaw.{loss_keeps}
use Rattle.nc_words.specs.Acts.{Task}
use Rattle.nc_vault.specs.Vaults.{Begins}
use Rattle.nc_vault.specs.Vaults.Begins.{not_yet, has_come}
use Rattle.nc_history.specs.Runs.{BeginsNext, DoesAll}
use Rattle.nc_history.specs.Histories.{Bears, Happening, HappensTo, LosesFew, damaged_after}
use Rattle.nc_history.specs.Histories.Happening.{Ran, Lost}
use Rattle.nc_history.specs.Laws.{DamageIs, HistoryStands, LossLeads, LossesAreFew, RunLeads}

pub run_leads : RunLeads
run_leads n tasks next V G leads = record {
  vault = leads.vault;
  contents = leads.contents;
  happens = (leads.between, leads.does, leads.stood, leads.begins);
  stands = leads.stands;
}

pub loss_leads : LossLeads
loss_leads n lost V G stands loses few =
    let D : Clouds = with_cloud V.damaged lost in
    record {
      vault = record { contents = G; entries = weighed n G D V.entries; damaged = D };
      contents = refl;
      happens = record { objects = loses; damaged = refl; entries = refl };
      stands = loss_keeps n lost V.contents G V.entries V.damaged stands loses few;
    }

pub history_stands : HistoryStands
history_stands n [] V W stands same = subst (IsVault n) (sym same) stands
history_stands n (h ∷ hs) V W stands (U, happens, stood, later) = history_stands n hs U W stood later

-- ---- damaged clouds

done_damage : (n : ℕ) (tasks : List Task) (V W : Vault) → DoesAll n tasks V W → W.damaged ≡ damaged_after tasks V.damaged
done_damage n [] V W same = ap (λ (U : Vault). U.damaged) same
done_damage n (task ∷ tasks) V W (U, does, stands, rest) = done_damage n tasks U W rest ∙ ap (λ (D : Clouds). damaged_after tasks D) does.damaged

begun_damage : (n : ℕ) (task : Task) (done : ℕ) (V W : Vault) → Begins n task done V W → W.damaged ≡ V.damaged
begun_damage n task done V W (not_yet none same) = ap (λ (U : Vault). U.damaged) same
begun_damage n task done V W (has_come begun) = begun.damaged

next_damage : (n : ℕ) (next : Option Task) (V W : Vault) → BeginsNext n next V W → W.damaged ≡ V.damaged
next_damage n None V W same = ap (λ (U : Vault). U.damaged) same
next_damage n (Some task) V W (done, begins) = begun_damage n task done V W begins

pub damage_is : DamageIs
damage_is n (Ran tasks next) V W (U, does, stands, begins) = next_damage n next U W begins ∙ done_damage n tasks V U does
damage_is n (Lost c) V W lost = lost.damaged

borne : (n : ℕ) (h : Happening) (V W : Vault) → HappensTo n h V W → IsVault n W → Bears n h V.damaged
borne n (Ran tasks next) V W happens stands = tt
borne n (Lost c) V W lost stands = subst (λ (D : Clouds). count_of n D ≤ 2) lost.damaged stands.few

pub losses_are_few : LossesAreFew
losses_are_few n [] V W history = tt
losses_are_few n (h ∷ hs) V W (U, happens, stands, later) =
    (borne n h V U happens stands, subst (λ (D : Clouds). LosesFew n hs D) (damage_is n h V U happens) (losses_are_few n hs U W later))
