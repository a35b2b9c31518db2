-- What the record of clouds in memory tells of what happened to them.
use Rattle.std.specs.Prelude.{ℕ, ◌≡◌, ◌≤◌, List, [], ◌∷◌, length, map, take}
use Rattle.nc_cloud.specs.Contents.{Contents, nothing}
use Rattle.nc_state.specs.Vaults.{IsVault, Vault}
use Rattle.nc_memory.specs.declared.record.Event.{Event as Recorded}
use Rattle.nc_memory.specs.Record.{contents_after}
use Rattle.nc_history.specs.Histories.{Bears, Happening, HappensTo, HistoryTo, StandsHappened}

-- what the clouds held once the record was so long
abbrev pub contents_at : List Recorded → ℕ → Contents
contents_at log t = contents_after (take t log) nothing

-- something that happened, and how long the record was then
pub record Mark : Type 0 where
  pub happening : Happening
  pub place : ℕ

abbrev pub happenings : List Mark → List Happening
happenings marks = map (λ mark. mark.happening) marks

-- the record is no shorter, and what it told before stays
pub record Kept (old new : List Recorded) : Type 0 where
  pub longer : length old ≤ length new
  pub past : (t : ℕ) → t ≤ length old → contents_at new t ≡ contents_at old t

-- The record goes on to the mark, and from each vault that stood before and bears it, what happened leads to what is held then.
pub record Steps (n : ℕ) (mark : Mark) (old new : List Recorded) : Type 0 where
  pub kept : Kept old new
  pub here : mark.place ≡ length new
  pub leads : (V : Vault) → V.contents ≡ contents_after old nothing → IsVault n V → Bears n mark.happening V.damaged
      → StandsHappened n mark.happening V (contents_after new nothing)

-- From V on, what the record tells at each mark stands for what happened up to it, as long as the vault bears it.
abbrev pub RecordTells : ℕ → List Recorded → List Mark → Vault → Type 0
RecordTells n log [] V = Unit {0}
RecordTells n log (mark ∷ marks) V =
    (mark.place ≤ length log)
    × (Bears n mark.happening V.damaged
    → (W : Vault) × (W.contents ≡ contents_at log mark.place) × HappensTo n mark.happening V W × IsVault n W
    × RecordTells n log marks W)

-- G stands for a vault to which what happened leads from V
pub record HistoryStands (n : ℕ) (hs : List Happening) (V : Vault) (G : Contents) : Type 0 where
  pub vault : Vault
  pub contents : vault.contents ≡ G
  pub stands : IsVault n vault
  pub history : HistoryTo n hs V vault
