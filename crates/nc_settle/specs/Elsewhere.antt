-- Metadata of elsewhere that clouds hold.
use Rattle.std.specs.Prelude.{ℕ, ◌≡◌, ◌<◌, ◌≤◌, Some, List, length}
use Rattle.nc_name.specs.declared.key.Key.TheVariants as key
use Rattle.nc_cloud.specs.Contents.{Contents}
use Rattle.nc_settle.specs.Judging.{IsOfElsewhere}

-- under the metadata key of this slot cloud c holds at most 2048 bytes, a whole frame of cloud a and width b, not of here
pub record IsMisplacedAt (n : ℕ) (name : List ℕ) (F : Contents) (c slot a b : ℕ) : Type 0 where
  pub bytes : List ℕ
  pub stands : F c (key.Meta name slot) ≡ Some bytes
  pub short : length bytes ≤ 2048
  pub is_of_elsewhere : IsOfElsewhere n c bytes a b

-- no cloud of n holds one
pub record NothingMisplaced (n : ℕ) (name : List ℕ) (F : Contents) : Type 0 where
  pub none : (c slot a b : ℕ) → c < n → slot < 2 → IsMisplacedAt n name F c slot a b → ⊥

-- cloud c, which says a and b, is the least that holds one; where it holds two, that of slot 0 is told
pub record LeastMisplaced (n : ℕ) (name : List ℕ) (F : Contents) (c a b : ℕ) : Type 0 where
  pub in_width : c < n
  pub slot : ℕ
  pub in_pair : slot < 2
  pub here : IsMisplacedAt n name F c slot a b
  pub first_slot : (s x y : ℕ) → s < slot → IsMisplacedAt n name F c s x y → ⊥
  pub before : (d s x y : ℕ) → d < c → s < 2 → IsMisplacedAt n name F d s x y → ⊥
