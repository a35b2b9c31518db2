-- How an act on all names goes on.
use Rattle.std.specs.Prelude.{ℕ, ◌+◌, List, [], ◌∷◌}
use Rattle.nc_cloud.specs.declared.fleet.Fleet.{Ghosts as FleetGhosts}
use Rattle.nc_state.specs.Vaults.{Vault}
use Rattle.nc_words.specs.declared.act.Act.{Act}
use Rattle.nc_words.specs.declared.act.Act.TheVariants as act
use Rattle.nc_vault.specs.declared.reply.Reply.{Reply}
use Rattle.nc_vault.specs.declared.reply.Reply.TheVariants as reply
use Rattle.nc_vault.specs.Counting.{CostsBy, may_read_chunks}
use Rattle.nc_vault.specs.Parts.{counted_in}

-- its reply where it is done with so many names, and counted so much
abbrev pub sweep_reply : Act → ℕ → ℕ → Reply
sweep_reply (act.Repair i) names count = reply.Repaired count
sweep_reply (act.Restore first second) names count = reply.Restored count
sweep_reply other names count = reply.Settled names

-- what it counts of these names
abbrev pub files_among : ℕ → Act → Vault → List (List ℕ) → ℕ
files_among n a V [] = 0
files_among n a V (name ∷ names) = counted_in n a V name + files_among n a V names

-- where it is done with a name, it read chunks only if it may
abbrev pub PartReads : {A : Type 0} → FleetGhosts A → Act → A → A → Type 0
PartReads F a old new = CostsBy (may_read_chunks a (reply.Settled 0)) (F.chunk_gets old) (F.chunk_gets new)
