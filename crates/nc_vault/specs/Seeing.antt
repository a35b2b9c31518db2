-- What an act that only reads tells, by what was seen of the clouds, on any contents.
use Rattle.std.specs.Prelude.{ℕ, ◌≡◌, ◌≤◌, ◌⊎◌, Bool, true, false, Option, Some, List, length, is_some, Ok, Err}
use Rattle.nc_cloud.specs.declared.fleet.Fleet.{Ghosts as FleetGhosts}
use Rattle.nc_meta.specs.declared.meta.Live.{Live}
use Rattle.nc_state.specs.Clouds.{Clouds, count_of}
use Rattle.nc_names.specs.Listing.{AreNamesOutside, AreSortedNames, HaveRisen, OnlyListed, StayOutside}
use Rattle.nc_download.specs.declared.fault.FetchFault.{FetchFault}
use Rattle.nc_download.specs.declared.listing.ListStop.{ListStop}
use Rattle.nc_download.specs.Finding.{Finds}
use Rattle.nc_download.specs.Listing.{AreListed, FailMore, ListRefuses}
use Rattle.nc_fetch.specs.Fetching.{Fetches}
use Rattle.nc_words.specs.declared.act.Act.{Act}
use Rattle.nc_words.specs.declared.act.Act.TheVariants as act
use Rattle.nc_vault.specs.declared.fault.Fault.{Fault}
use Rattle.nc_vault.specs.declared.fault.Fault.TheVariants as fault
use Rattle.nc_vault.specs.declared.reply.FileRow.{FileRow}
use Rattle.nc_vault.specs.declared.reply.Reply.{Reply}
use Rattle.nc_vault.specs.declared.reply.Reply.TheVariants as reply
use Rattle.nc_vault.specs.Faults.{fault_of_fetch}
use Rattle.nc_vault.specs.Listing.{IsLeastOfThree, rows_of}

-- the acts that only read
abbrev pub only_reads : Act → Bool
only_reads (act.Get name) = true
only_reads (act.Stat name) = true
only_reads act.List = true
only_reads other = false

-- ---- one file

-- no file was given, for this cause
pub record FetchesNone {A : Type 0} (F : FleetGhosts A) (name : List ℕ) (old new : A) (cause : Fault) : Type 0 where
  pub fault : FetchFault
  pub fetches : Fetches F name old new (Err fault)
  pub is : cause ≡ fault_of_fetch fault

-- a file of this generation and length was found, with witnesses or not
pub record FindsFile {A : Type 0} (F : FleetGhosts A) (name : List ℕ) (old new : A) (generation len : ℕ) (witnessed : Bool) : Type 0 where
  pub meta : Live
  pub finds : Finds F name old new (Ok meta)
  pub generation_is : generation ≡ meta.generation
  pub len_is : len ≡ meta.len
  pub witnessed_is : witnessed ≡ is_some meta.witnesses

-- none was, for this cause
pub record FindsNone {A : Type 0} (F : FleetGhosts A) (name : List ℕ) (old new : A) (cause : Fault) : Type 0 where
  pub fault : FetchFault
  pub finds : Finds F name old new (Err fault)
  pub is : cause ≡ fault_of_fetch fault

-- ---- all files

-- Every cloud was listed. The lists of the clouds of P failed: their counts rose, and where counts are exact, no others did.
pub record ListsBut {A : Type 0} (F : FleetGhosts A) (old mid : A) (P : Clouds) : Type 0 where
  pub only : OnlyListed F old mid
  pub failed : HaveRisen (F.clouds old) (F.slips old) (F.slips mid) P
  pub exact : F.counts_exactly → StayOutside (F.slips old) (F.slips mid) P

-- Then the metadata of names was looked for. The clouds of Q are those of P and those that failed since.
pub record LooksOn {A : Type 0} (F : FleetGhosts A) (old mid new : A) (P Q : Clouds) : Type 0 where
  pub lists : ListsBut F old mid P
  pub few : count_of (F.clouds old) P ≤ 2
  pub more : FailMore F P Q mid new

-- The names of all keys on clouds whose lists didn't fail, sorted, and of each that has a file its length: the view of each name
-- leaves out the clouds that had failed before it, and at most two have failed in all.
pub record ListsFiles {A : Type 0} (F : FleetGhosts A) (old new : A) (rows : List FileRow) : Type 0 where
  pub mid : A
  pub unlisted : Clouds
  pub failed : Clouds
  pub looks : LooksOn F old mid new unlisted failed
  pub few : count_of (F.clouds old) failed ≤ 2
  pub names : List (List ℕ)
  pub sorted : AreSortedNames names
  pub are_names : F.tells → AreNamesOutside (F.clouds old) (F.held old) unlisted names
  pub lens : List (Option ℕ)
  pub seen : AreListed F mid names (length names) unlisted failed lens
  pub are : rows ≡ rows_of names lens

-- three lists failed or more, and this cloud is the least of which one did
pub record TooManyLists {A : Type 0} (F : FleetGhosts A) (old new : A) (cause : Fault) (after : Option ℕ) : Type 0 where
  pub unlisted : Clouds
  pub lists : ListsBut F old new unlisted
  pub cloud : ℕ
  pub least : IsLeastOfThree (F.clouds old) unlisted cloud
  pub is : cause ≡ fault.Cloud cloud
  pub first : after ≡ Some 0

-- a view of a name shows neither a file nor none, for this cause
pub record RefusesName {A : Type 0} (F : FleetGhosts A) (old new : A) (cause : Fault) (after : Option ℕ) : Type 0 where
  pub mid : A
  pub unlisted : Clouds
  pub failed : Clouds
  pub looks : LooksOn F old mid new unlisted failed
  pub names : List (List ℕ)
  pub sorted : AreSortedNames names
  pub are_names : F.tells → AreNamesOutside (F.clouds old) (F.held old) unlisted names
  pub stop : ListStop
  pub refuses : ListRefuses F names unlisted failed mid new stop
  pub is : cause ≡ fault_of_fetch stop.fault
  pub done : after ≡ Some stop.done

-- why the files aren't told
abbrev pub ListsNone : {A : Type 0} → FleetGhosts A → A → A → Fault → Option ℕ → Type 0
ListsNone F old new fault.Memory after = Unit {0}
ListsNone F old new cause after = TooManyLists F old new cause after ⊎ RefusesName F old new cause after

-- ---- all of them

-- the reply of an act that only reads
abbrev pub Sees : {A : Type 0} → FleetGhosts A → A → A → Act → Reply → Type 0
Sees F old new (act.Get name) (reply.Bytes v) = Fetches F name old new (Ok v)
Sees F old new (act.Get name) (reply.Stopped cause after) = FetchesNone F name old new cause
Sees F old new (act.Stat name) (reply.About generation len witnessed) = FindsFile F name old new generation len witnessed
Sees F old new (act.Stat name) (reply.Stopped cause after) = FindsNone F name old new cause
Sees F old new act.List (reply.Listing rows) = ListsFiles F old new rows
Sees F old new act.List (reply.Stopped cause after) = ListsNone F old new cause after
Sees F old new a answer = ⊥

abbrev pub SeesFor : {A : Type 0} → Bool → FleetGhosts A → A → A → Act → Reply → Type 0
SeesFor true F old new a answer = Sees F old new a answer
SeesFor false F old new a answer = Unit {0}
