-- Why clouds were found bad, by cloud.
use Rattle.std.specs.Prelude.{ℕ, ◌≡◌, ◌<◌, ◌≤◌, ◌-◌, ◌&&◌, Bool, true, false, Option, None, Some, List, length, nat_le, nat_lt, slice_index_or, if◌then◌else◌}
use Rattle.nc_cloud.specs.Rounds.{some_row}
use Rattle.nc_state.specs.Clouds.{Clouds}
use Rattle.nc_mix.specs.declared.pieces.Piece.{Piece}
use Rattle.nc_download.specs.declared.short.Bad.{Bad as BadCloud}
use Rattle.nc_download.specs.declared.short.Why.{Why}
use Rattle.nc_fetch.specs.declared.founds.Found.{Found}
use Rattle.nc_fetch.specs.declared.founds.Found.TheVariants.{Unasked, Good, Bad}
use Rattle.nc_fetch.specs.Founds.{found_at}

-- why cloud c was found bad, if it was
abbrev pub why_at : List (Option Why) → ℕ → Option Why
why_at whys c = slice_index_or whys c None

-- it wasn't
abbrev pub is_fine : Option Why → Bool
is_fine None = true
is_fine (Some why) = false

-- the cloud, unless it was found bad
abbrev pub free_at : List (Option Why) → ℕ → Option ℕ
free_at whys c = if is_fine (why_at whys c) then Some c else None

-- of the clouds from a on and below b, those that weren't found bad
abbrev pub free : List (Option Why) → ℕ → ℕ → List ℕ
free whys a b = some_row (free_at whys) a (b - a)

abbrev pub bad_with : ℕ → Option Why → Option BadCloud
bad_with c None = None
bad_with c (Some why) = Some (record { cloud = c; why = why })

-- of the clouds from a on and below b, those that were found bad, each with its cause
abbrev pub bads : List (Option Why) → ℕ → ℕ → List BadCloud
bads whys a b = some_row (λ c. bad_with c (why_at whys c)) a (b - a)

-- the clouds from a on and below b that weren't found bad, as a set
abbrev pub free_between : List (Option Why) → ℕ → ℕ → Clouds
free_between whys a b c = (nat_le a c && nat_lt c b) && is_fine (why_at whys c)

-- of the first k clouds the table names those
pub record NamesFree (whys : List (Option Why)) (a b k : ℕ) (table : List Bool) : Type 0 where
  pub long : length table ≡ 10
  pub each : (c : ℕ) → c < k → slice_index_or table c false ≡ free_between whys a b c

-- why a cloud is bad, by what it gave of both rows
abbrev pub why_of : Found → Found → Option Why → Option Why
why_of Unasked one why = why
why_of (Bad bad) one why = Some bad
why_of (Good zero) Unasked why = why
why_of (Good zero) (Bad bad) why = Some bad
why_of (Good zero) (Good one) why = why

-- of the first k clouds the table says so, and of the others what it said
pub record AreMarked (zeros ones : List Found) (k : ℕ) (old new : List (Option Why)) : Type 0 where
  pub long : length new ≡ 10
  pub each : (c : ℕ) → c < k → why_at new c ≡ why_of (found_at zeros c) (found_at ones c) (why_at old c)
  pub others : (c : ℕ) → k ≤ c → why_at new c ≡ why_at old c

-- of n clouds exactly those of P are marked with this cause
pub record AreMarkedWith (why : Why) (n : ℕ) (P : Clouds) (whys : List (Option Why)) : Type 0 where
  pub each : (c : ℕ) → c < n → why_at whys c ≡ (if P c then Some why else None)

-- both chunks of a cloud
abbrev pub piece_of : ℕ → Found → Found → Option Piece
piece_of c Unasked one = None
piece_of c (Bad bad) one = None
piece_of c (Good zero) Unasked = None
piece_of c (Good zero) (Bad bad) = None
piece_of c (Good zero) (Good one) = Some (record { cloud = c; zero = zero; one = one })

abbrev pub piece_at : List Found → List Found → ℕ → Option Piece
piece_at zeros ones c = piece_of c (found_at zeros c) (found_at ones c)
