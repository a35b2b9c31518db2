-- What the acts of a run make of a vault.
use Rattle.std.specs.Prelude.{ℕ, ◌≡◌, Option, None, Some, List, [], ◌∷◌}
use Rattle.nc_cloud.specs.Contents.{Contents}
use Rattle.nc_state.specs.Vaults.{IsVault, Vault}
use Rattle.nc_words.specs.Acts.{Task}
use Rattle.nc_vault.specs.Vaults.{Begins, Does}

-- these acts were done, one after the other, over vaults that stand
abbrev pub DoesAll : ℕ → List Task → Vault → Vault → Type 0
DoesAll n [] V W = W ≡ V
DoesAll n (task ∷ tasks) V W = (U : Vault) × Does n task V U × IsVault n U × DoesAll n tasks U W

-- an act was begun that wasn't done, or none was
abbrev pub BeginsNext : ℕ → Option Task → Vault → Vault → Type 0
BeginsNext n None V W = W ≡ V
BeginsNext n (Some task) V W = (done : ℕ) × Begins n task done V W

-- G stands for what these acts, which were done, and the next one, which was begun, made of V.
pub record LeadsTo (n : ℕ) (tasks : List Task) (next : Option Task) (V : Vault) (G : Contents) : Type 0 where
  pub between : Vault
  pub does : DoesAll n tasks V between
  pub stood : IsVault n between
  pub vault : Vault
  pub begins : BeginsNext n next between vault
  pub contents : vault.contents ≡ G
  pub stands : IsVault n vault
