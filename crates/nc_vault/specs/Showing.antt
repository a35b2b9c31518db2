-- What an act shows of contents that stand, while the clouds of X failed.
use Rattle.std.specs.Prelude.{ℕ, ◌≡◌, ◌≢◌, Bool, List, AllPairs, Contains, is_some}
use Rattle.std.specs.Cmp.Lexicographic.{slice_cmp}
use Rattle.std.specs.Ordering.{nat_cmp}
use Rattle.std.specs.declared.cmp.Ordering.TheVariants.{Less}
use Rattle.nc_name.specs.Names.{IsName}
use Rattle.nc_meta.specs.declared.meta.Live.{Live}
use Rattle.nc_state.specs.Clouds.{Clouds}
use Rattle.nc_state.specs.Showing.{ReadsAs}
use Rattle.nc_state.specs.Vaults.{Vault}
use Rattle.nc_state.specs.Versions.{Version}
use Rattle.nc_state.specs.Versions.Version.{Stored}
use Rattle.nc_vault.specs.declared.reply.FileRow.{FileRow}

-- a reading of the name may show this version
abbrev pub Reads : ℕ → Vault → Clouds → List ℕ → Version → Type 0
Reads n V X name z = ReadsAs n V.contents X name (V.entries name) z

-- a file is shown, with these bytes
pub record ReadsFile (n : ℕ) (V : Vault) (X : Clouds) (name v : List ℕ) : Type 0 where
  pub meta : Live
  pub shown : Reads n V X name (Stored meta v)

-- a file of this generation and length, with witnesses or not
pub record ReadsAbout (n : ℕ) (V : Vault) (X : Clouds) (name : List ℕ) (generation len : ℕ) (witnessed : Bool) : Type 0 where
  pub meta : Live
  pub v : List ℕ
  pub shown : Reads n V X name (Stored meta v)
  pub generation_is : generation ≡ meta.generation
  pub len_is : len ≡ meta.len
  pub witnessed_is : witnessed ≡ is_some meta.witnesses

-- there is no file
pub record ReadsNone (n : ℕ) (V : Vault) (X : Clouds) (name : List ℕ) : Type 0 where
  pub version : Version
  pub shown : Reads n V X name version
  pub no_file : (m : Live) (v : List ℕ) → version ≢ Stored m v

-- all files that are shown, by name, each once
pub record ReadsList (n : ℕ) (V : Vault) (X : Clouds) (rows : List FileRow) : Type 0 where
  pub version : (name : List ℕ) → IsName name → Version
  pub shown : (name : List ℕ) (is : IsName name) → Reads n V X name (version name is)
  pub all : (name v : List ℕ) (m : Live) (is : IsName name) → version name is ≡ Stored m v → Contains rows (record { len = m.len; name = name })
  pub only : (row : FileRow) → Contains rows row → (is : IsName row.name) × (m : Live) × (v : List ℕ) × (version row.name is ≡ Stored m v) × (row.len ≡ m.len)
  pub sorted : AllPairs (λ a b. slice_cmp nat_cmp a.name b.name ≡ Less) rows
