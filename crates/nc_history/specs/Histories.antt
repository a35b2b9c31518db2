-- What happens to a vault, and what that leaves of it.
use Rattle.std.specs.Prelude.{ℕ, ◌≡◌, ◌≤◌, Option, List, [], ◌∷◌}
use Rattle.nc_cloud.specs.Contents.{Contents, nothing}
use Rattle.nc_state.specs.Clouds.{Clouds, count_of, no_cloud, with_cloud}
use Rattle.nc_state.specs.Losses.{Loses, weighed}
use Rattle.nc_state.specs.Standing.{no_entry}
use Rattle.nc_state.specs.Vaults.{IsVault, Vault}
use Rattle.nc_words.specs.Acts.{Task}
use Rattle.nc_vault.specs.Vaults.{still_damaged}
use Rattle.nc_history.specs.Runs.{BeginsNext, DoesAll}

-- A run does some acts and may begin another, at which it is stopped or ends; or a cloud is lost.
pub data Happening : Type 0 where
  Ran : List Task → Option Task → Happening
  Lost : ℕ → Happening

-- each object of the cloud is left unchanged, gone or torn, and each entry is weighed anew
pub record LosesCloud (n lost : ℕ) (V W : Vault) : Type 0 where
  pub objects : Loses lost V.contents W.contents
  pub damaged : W.damaged ≡ with_cloud V.damaged lost
  pub entries : W.entries ≡ weighed n W.contents W.damaged V.entries

-- it makes W of V
abbrev pub HappensTo : ℕ → Happening → Vault → Vault → Type 0
HappensTo n (Ran tasks next) V W =
    (U : Vault) × DoesAll n tasks V U × IsVault n U × BeginsNext n next U W
HappensTo n (Lost c) V W = LosesCloud n c V W

-- a history leads from V to W, over vaults that stand
abbrev pub HistoryTo : ℕ → List Happening → Vault → Vault → Type 0
HistoryTo n [] V W = W ≡ V
HistoryTo n (h ∷ hs) V W = (U : Vault) × HappensTo n h V U × IsVault n U × HistoryTo n hs U W

-- clouds without objects
abbrev pub empty_vault : Vault
empty_vault = record { contents = nothing; entries = no_entry; damaged = no_cloud }

-- contents that stand for what happened to V
pub record StandsHappened (n : ℕ) (h : Happening) (V : Vault) (G : Contents) : Type 0 where
  pub vault : Vault
  pub contents : vault.contents ≡ G
  pub happens : HappensTo n h V vault
  pub stands : IsVault n vault

-- ---- how many clouds are damaged

-- those of D that are still damaged once these acts were done: a repair or a restore makes its clouds whole
abbrev pub damaged_after : List Task → Clouds → Clouds
damaged_after [] D = D
damaged_after (task ∷ tasks) D = damaged_after tasks (still_damaged task.act D)

-- those that still are once this happened, and the one that was lost; an act that was begun and not done makes no cloud whole
abbrev pub damaged_by : Happening → Clouds → Clouds
damaged_by (Ran tasks next) D = damaged_after tasks D
damaged_by (Lost c) D = with_cloud D c

-- any run is borne, and a loss that leaves at most two clouds damaged
abbrev pub Bears : ℕ → Happening → Clouds → Type 0
Bears n (Ran tasks next) D = Unit {0}
Bears n (Lost c) D = count_of n (with_cloud D c) ≤ 2

-- each loss leaves at most two clouds damaged
abbrev pub LosesFew : ℕ → List Happening → Clouds → Type 0
LosesFew n [] D = Unit {0}
LosesFew n (h ∷ hs) D = Bears n h D × LosesFew n hs (damaged_by h D)
