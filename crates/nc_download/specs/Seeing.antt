-- What a view shows of a file, where at most two clouds failed in it.
use Rattle.std.specs.Prelude.{ℕ, ◌≡◌, ◌⊎◌, Bool, true, false, Option, None, Some}
use Rattle.nc_meta.specs.declared.meta.Live.{Live as LiveMeta}
use Rattle.nc_meta.specs.declared.meta.Meta.TheVariants.{Live, Gone}
use Rattle.nc_settle.specs.Views.{Places}
use Rattle.nc_settle.specs.Decisions.{NoneMisplaced, IsLeastMisplaced, SeesNone, SeesTop, IsConflict, NoConflict}
use Rattle.nc_settle.specs.Failing.{FewFail, TooManyFail}
use Rattle.nc_download.specs.declared.fault.FetchFault.{FetchFault}
use Rattle.nc_download.specs.declared.fault.FetchFault.TheVariants.{NoFile, Cloud, Conflict, Misplaced}

-- the highest metadata that was seen is this, and no other of its generation was
pub record Shows (v : Places) (live : LiveMeta) : Type 0 where
  pub few : FewFail v
  pub cloud : ℕ
  pub top : SeesTop v cloud (Live live)
  pub settled : NoConflict v

-- the highest metadata that was seen says that the file was deleted
pub record ShowsGone (v : Places) : Type 0 where
  pub few : FewFail v
  pub generation : ℕ
  pub cloud : ℕ
  pub top : SeesTop v cloud (Gone generation)
  pub settled : NoConflict v

-- no metadata was seen
pub record ShowsNothing (v : Places) : Type 0 where
  pub few : FewFail v
  pub none : SeesNone v

-- why a view shows no file
abbrev pub Refuses : Places → FetchFault → Type 0
Refuses v (Cloud c) = TooManyFail v c
Refuses v NoFile = (ShowsNothing v × NoneMisplaced v) ⊎ ShowsGone v
Refuses v (Misplaced c a b) = ShowsNothing v × IsLeastMisplaced v c a b
Refuses v (Conflict g a b) = FewFail v × IsConflict v g a b
Refuses v other = ⊥

-- why it shows none where no metadata of the clouds' own was seen
abbrev pub SeesNoMeta : Places → FetchFault → Type 0
SeesNoMeta v NoFile = NoneMisplaced v
SeesNoMeta v (Misplaced c a b) = IsLeastMisplaced v c a b
SeesNoMeta v other = ⊥

abbrev pub is_no_file : FetchFault → Bool
is_no_file NoFile = true
is_no_file other = false

-- the view shows a file of this length, or none
abbrev pub ShowsOr : Option ℕ → Places → Type 0
ShowsOr (Some len) v = (live : LiveMeta) × Shows v live × (live.len ≡ len)
ShowsOr None v = Refuses v NoFile
