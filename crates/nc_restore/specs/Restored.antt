-- What the restoring of chunks leaves, and what stops it.
use Rattle.std.specs.Prelude.{ℕ, ◌≡◌, ◌<◌, ◌+◌, ◌&&◌, true, not, Option, List, Result, Ok, Err}
use Rattle.nc_name.specs.declared.key.Key.{Key}
use Rattle.nc_code.specs.Codes.{IsMds}
use Rattle.nc_cloud.specs.Contents.{Contents, Rose}
use Rattle.nc_cloud.specs.Deciding.{OnlyLooked}
use Rattle.nc_cloud.specs.Stopping.{Keeps}
use Rattle.nc_cloud.specs.declared.fleet.Fleet.{Ghosts as FleetGhosts}
use Rattle.nc_mds.specs.Verdicts.{IsFirstPair}
use Rattle.nc_meta.specs.declared.meta.Live.{Live}
use Rattle.nc_meta.specs.declared.meta.Meta.{Meta}
use Rattle.nc_state.specs.Clouds.{Clouds, count_of}
use Rattle.nc_state.specs.Commands.{RestsAt}
use Rattle.nc_state.specs.Right.{PlacesStand, RightOn, is_right}
use Rattle.nc_state.specs.Showing.{AreBearable, together}
use Rattle.nc_state.specs.Vaults.{ComesTo, Vault, version_in}
use Rattle.nc_state.specs.Versions.{IsValid}
use Rattle.nc_state.specs.Versions.Version.{Stored}
use Rattle.nc_download.specs.declared.short.Bad.{Bad}
use Rattle.nc_download.specs.declared.short.How.{How}
use Rattle.nc_download.specs.Clouds.{IsBadRow}
use Rattle.nc_download.specs.Finding.{HasRisen}
use Rattle.nc_write.specs.Writes.{chunk_key}
use Rattle.nc_restore.specs.declared.fault.RestoreFault.{RestoreFault}
use Rattle.nc_restore.specs.declared.fault.RestoreFault.TheVariants as fault
use Rattle.nc_restore.specs.Restoring.{TooFewOutside}

-- cloud c is one of P, and a chunk of it that is to stand under this key isn't good
pub record IsBadPlace (n : ℕ) (name : List ℕ) (m : Live) (P : Clouds) (H : Contents) (c : ℕ) (place : Key) : Type 0 where
  pub within : c < n
  pub one : P c ≡ true
  pub row : ℕ
  pub pair : row < 2
  pub at : place ≡ chunk_key name m row c
  pub how : How
  pub bad : IsBadRow n name m H c row how

-- no other object changed
pub record ChangesOnlyBad (n : ℕ) (name : List ℕ) (m : Live) (P : Clouds) (H G : Contents) : Type 0 where
  pub others : (c : ℕ) (place : Key) → (IsBadPlace n name m P H c place → ⊥) → G c place ≡ H c place

-- from wherever a command came to the name, while this metadata is settled: at each stop and at the end it is at rest at that version
pub record StaysResting {A : Type 0} (F : FleetGhosts A) (n : ℕ) (name : List ℕ) (top : Option Meta) (old new : A) : Type 0 where
  pub each : (V : Vault) → ComesTo n name V (F.held old) top → Keeps F old new (λ G. RestsAt n G V.entries V.damaged name (version_in n V name))

-- of whichever file stood at H by this metadata, all chunks on the clouds of P are right at G
pub record RightRestored (n : ℕ) (name : List ℕ) (m : Live) (P : Clouds) (H G : Contents) : Type 0 where
  pub each : (D : Clouds) (v : List ℕ) → IsValid n (Stored m v) → PlacesStand n H D name (Stored m v) → (c : ℕ) → c < n → P c ≡ true → RightOn n G name (Stored m v) c

-- the clouds of P whose chunk of row r isn't right
abbrev pub wrong_at : ℕ → List ℕ → Live → List ℕ → Clouds → Contents → ℕ → Clouds
wrong_at n name m v P H r c = P c && not (is_right n H (Stored m v) c (chunk_key name m r c))

-- how many chunks on the clouds of P aren't right
abbrev pub wrong_count : ℕ → List ℕ → Live → List ℕ → Clouds → Contents → ℕ
wrong_count n name m v P H = count_of n (wrong_at n name m v P H 0) + count_of n (wrong_at n name m v P H 1)

-- of whichever file stood at H by this metadata, so many weren't
pub record CountsWrong (n : ℕ) (name : List ℕ) (m : Live) (P : Clouds) (H : Contents) (count : ℕ) : Type 0 where
  pub each : (D : Clouds) (v : List ℕ) → IsValid n (Stored m v) → PlacesStand n H D name (Stored m v) → count ≡ wrong_count n name m v P H

-- the code of the metadata isn't MDS, and this is the least pair that shows it; or it is, and this isn't the answer
abbrev pub TellsSoundness : Live → Result ℕ RestoreFault → Type 0
TellsSoundness m (Ok count) = IsMds m.code
TellsSoundness m (Err (fault.Unsound a b)) = (kernel : List ℕ) × IsFirstPair m.code a b kernel
TellsSoundness m (Err (fault.Cloud c)) = IsMds m.code
TellsSoundness m (Err (fault.Short list)) = IsMds m.code
TellsSoundness m (Err fault.Memory) = IsMds m.code

-- One of the chunks of the clouds of P isn't good, and fewer than n - 2 of the other clouds are: exactly the others are listed, each
-- with its first cause. From mid on the others were tried.
pub record RestoreIsShort {A : Type 0} (F : FleetGhosts A) (name : List ℕ) (m : Live) (P : Clouds) (old new : A) (list : List Bad) : Type 0 where
  pub bad : F.tells → (c : ℕ) × (place : Key) × IsBadPlace (F.clouds old) name m P (F.held old) c place
  pub mid : A
  pub looked : OnlyLooked F old mid
  pub lacks : TooFewOutside F name m mid new P list

-- where too few clouds were good, this
abbrev pub IfShort : (List Bad → Type 0) → RestoreFault → Type 0
IfShort Q (fault.Short list) = Q list
IfShort Q (fault.Cloud c) = Unit {0}
IfShort Q (fault.Unsound a b) = Unit {0}
IfShort Q fault.Memory = Unit {0}

-- where the code isn't MDS, this
abbrev pub IfUnsound : Type 0 → RestoreFault → Type 0
IfUnsound same (fault.Unsound a b) = same
IfUnsound same (fault.Short list) = Unit {0}
IfUnsound same (fault.Cloud c) = Unit {0}
IfUnsound same fault.Memory = Unit {0}

-- where nothing was written since it couldn't be made, the clouds hold what they held
abbrev pub KeptAtRefusal : Type 0 → RestoreFault → Type 0
KeptAtRefusal kept (fault.Short list) = kept
KeptAtRefusal kept (fault.Unsound a b) = kept
KeptAtRefusal kept (fault.Cloud c) = Unit {0}
KeptAtRefusal kept fault.Memory = Unit {0}

-- the count of this cloud of P rose, and where counts are exact, that of no lower one of P
pub record IsFirstOf (exact : Type 0) (P : Clouds) (before now : ℕ → ℕ) (c : ℕ) : Type 0 where
  pub one : P c ≡ true
  pub rose : Rose (before c) (now c)
  pub lower : exact → (d : ℕ) → d < c → P d ≡ true → now d ≡ before d

-- why chunks weren't restored, by the counts of failures
abbrev pub HasRestoreCause : Type 0 → Clouds → (ℕ → ℕ) → (ℕ → ℕ) → RestoreFault → Type 0
HasRestoreCause exact P before now (fault.Cloud c) = IsFirstOf exact P before now c
HasRestoreCause exact P before now (fault.Short list) = exact → (d : ℕ) → P d ≡ true → now d ≡ before d
HasRestoreCause exact P before now (fault.Unsound a b) = (d : ℕ) → now d ≡ before d
HasRestoreCause exact P before now fault.Memory = Unit {0}

-- too few clouds are good only where more than two are damaged, to be restored or failing: for any set of clouds that has those of which
-- a count rose, and whichever file stood by this metadata
pub record ShortShows {A : Type 0} (F : FleetGhosts A) (name : List ℕ) (m : Live) (P : Clouds) (old new : A) : Type 0 where
  pub each : (D : Clouds) (v : List ℕ) → IsValid (F.clouds old) (Stored m v) → PlacesStand (F.clouds old) (F.held old) D name (Stored m v) → (X : Clouds) → HasRisen F old new X → AreBearable (F.clouds old) (together D P) X → ⊥
