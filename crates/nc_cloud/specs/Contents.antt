-- What clouds hold, and what a round leaves.
use Rattle.std.specs.Prelude.{ℕ, ◌≡◌, ◌≢◌, ◌≤◌, ◌&&◌, Bool, true, false, Option, None, Some, List, [], ◌∷◌, nat_eq, if◌then◌else◌}
use Rattle.std.specs.Str.{bytes_eq}
pub use Rattle.nc_name.specs.Counts.{Rose}
use Rattle.nc_name.specs.declared.key.Key.{Key}
use Rattle.nc_name.specs.declared.key.Key.TheVariants.{Meta, Chunk}
use Rattle.nc_frame.specs.Frames.{AreTorn}

-- no count has fallen
abbrev pub Grows : (ℕ → ℕ) → (ℕ → ℕ) → Type 0
Grows before now = (c : ℕ) → before c ≤ now c

-- what a cloud holds under each key
abbrev pub Store : Type 0
Store = Key → Option (List ℕ)

-- what each cloud holds under each key
abbrev pub Contents : Type 0
Contents = ℕ → Store

-- clouds without objects
abbrev pub nothing : Contents
nothing = λ c key. None

-- two keys are the same
abbrev pub key_eq : Key → Key → Bool
key_eq (Meta name slot) (Meta other s) = bytes_eq name other && nat_eq slot s
key_eq (Chunk name slot row) (Chunk other s r) = bytes_eq name other && (nat_eq slot s && nat_eq row r)
key_eq (Meta name slot) (Chunk other s r) = false
key_eq (Chunk name slot row) (Meta other s) = false

abbrev pub IsTorn : Option (List ℕ) → Type 0
IsTorn None = ⊥
IsTorn (Some bytes) = AreTorn bytes

-- what an object that was to become new may be left as: old, new, gone or torn
pub data Fate (old new left : Option (List ℕ)) : Type 0 where
  stayed : left ≡ old → Fate old new left
  became : left ≡ new → Fate old new left
  went : left ≡ None → Fate old new left
  broke : IsTorn left → Fate old new left

-- an entry that was answered Ok has done it, and another may have
abbrev pub Settles : Bool → Option (List ℕ) → Option (List ℕ) → Option (List ℕ) → Type 0
Settles true new old left = left ≡ new
Settles false new old left = Fate old new left

-- the object under this key changes so, and no other
pub record ChangesAt (key : Key) (change : Option (List ℕ) → Option (List ℕ) → Type 0) (old new : Store) : Type 0 where
  pub there : change (old key) (new key)
  pub others : (q : Key) → q ≢ key → new q ≡ old q

-- an entry of a round: the object that it touches, and what that is to become
pub record Write : Type 0 where
  pub cloud : ℕ
  pub key : Key
  pub new : Option (List ℕ)

-- an entry with its answer, which is Ok or not
pub record Touch : Type 0 where
  pub write : Write
  pub ok : Bool

-- the entry of a cloud
abbrev pub touch_at : List Touch → ℕ → Option Touch
touch_at [] c = None
touch_at (t ∷ ts) c = if nat_eq t.write.cloud c then Some t else touch_at ts c

-- a cloud after a round
abbrev pub LeavesCloud : Option Touch → Store → Store → Type 0
LeavesCloud None old left = left ≡ old
LeavesCloud (Some t) old left = ChangesAt t.write.key (Settles t.ok t.write.new) old left

-- the contents after a round
pub record Leaves (ts : List Touch) (old left : Contents) : Type 0 where
  pub each : (c : ℕ) → LeavesCloud (touch_at ts c) (old c) (left c)
