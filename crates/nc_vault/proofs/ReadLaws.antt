-- An act that only reads.
use Rattle.std.proofs.Common.{◌≡◌, ℕ, Option, [], refl, sym, arith}
use Rattle.nc_cloud.specs.Contents.{Contents}
use Rattle.nc_cloud.specs.Stopping.{Keeps, Stops}
use Rattle.nc_cloud.specs.declared.fleet.Fleet.{Ghosts as FleetGhosts}
use Rattle.nc_cloud.proofs.Time.{keeps_look, stops_more}
use Rattle.nc_state.specs.Clouds.{Clouds}
use Rattle.nc_state.specs.Standing.{Entries, Stands}
use Rattle.nc_state.specs.Vaults.{ForEachVault, Vault}
use Rattle.nc_words.specs.declared.act.Act.{Act}
use Rattle.nc_words.specs.Acts.{Task}
use Rattle.nc_vault.specs.declared.fault.Fault.{Fault}
use Rattle.nc_vault.specs.declared.reply.Reply.{Reply}
use Rattle.nc_vault.specs.declared.reply.Reply.TheVariants as reply
use Rattle.nc_vault.specs.Acting.{Changes}
use Rattle.nc_vault.specs.Vaults.{ActKeeps, StandsAtEnd, StandsBegun, StandsDone, TellsDone, WorksOn, still_damaged}
use Rattle.nc_vault.specs.Vaults.Begins.{not_yet}
use Rattle.nc_vault.proofs.Members.{in_none}

-- what the definitions say of an act by cases, of one that only reads
pub record OnlyReads (a : Act) : Type 0 where
  pub works : (n : ℕ) (G : Contents) → WorksOn n G a []
  pub changes : (F G : Contents) → G ≡ F → Changes a F G
  pub damaged : (D : Clouds) → D ≡ still_damaged a D

module _ {A : Type 0} (F : FleetGhosts A) (task : Task) (reads : OnlyReads task.act) {old new : A} (held : F.held new ≡ F.held old) (stops : Stops F old new (λ G. G ≡ F.held old)) where
  abbrev vault_at : Entries → Clouds → Vault
  vault_at S D = record { contents = F.held old; entries = S; damaged = D }

  -- nothing changes, wherever it is stopped
  pub reads_only : Keeps F old new (Changes task.act (F.held old))
  reads_only = keeps_look (Changes task.act (F.held old)) held stops (reads.changes (F.held old) (F.held old) refl)

  abbrev begun_at : (S : Entries) (D : Clouds) → Stands (F.clouds old) (F.held old) S D → (G : Contents) → G ≡ F.held old → StandsBegun (F.clouds old) task (vault_at S D) G
  begun_at S D stands G is = record { vault = vault_at S D; contents = sym is; stands = stands; done = 0; begun = not_yet refl refl }

  -- each stop leaves an act that has done nothing
  pub reads_stops : (S : Entries) (D : Clouds) → Stands (F.clouds old) (F.held old) S D → Stops F old new (StandsBegun (F.clouds old) task (vault_at S D))
  reads_stops S D stands = stops_more stops (begun_at S D stands)

  -- and so does the end, where it wasn't done
  pub reads_stopped : (after : Option ℕ) → TellsDone task.act after 0 → (cause : Fault) → F.tells → ForEachVault (F.clouds old) (F.held old) (ActKeeps F (F.clouds old) task old new (reply.Stopped cause after))
  reads_stopped after tells cause told = record {
    each = λ S D stands. record { stops = reads_stops S D stands; end = record { left = begun_at S D stands (F.held new) held; tells = tells } };
  }

  abbrev done_at : (S : Entries) (D : Clouds) → Stands (F.clouds old) (F.held old) S D → StandsDone (F.clouds old) task (vault_at S D) (F.held new)
  done_at S D stands = record {
    vault = vault_at S D;
    contents = sym held;
    stands = stands;
    done = record {
      names = [];
      works_on = reads.works (F.clouds old) (F.held old);
      reached = record {
        among = omega arith;
        finished = λ name among. absurd (in_none name among);
        under_way = tt;
        others = λ name not. record { entry = refl; objects = λ c place is. refl };
      };
      damaged = reads.damaged D;
    };
  }

  pub reads_done : (answer : Reply) → ((V : Vault) → StandsDone (F.clouds old) task V (F.held new) → StandsAtEnd (F.clouds old) task V (F.held new) answer)
      → F.tells → ForEachVault (F.clouds old) (F.held old) (ActKeeps F (F.clouds old) task old new answer)
  reads_done answer ends told = record { each = λ S D stands. record { stops = reads_stops S D stands; end = ends (vault_at S D) (done_at S D stands) } }
