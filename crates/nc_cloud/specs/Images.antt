-- What a round, or a stop within it, leaves of the contents.
use Rattle.std.specs.Prelude.{ℕ, ◌≡◌, Option, None, Some, List, [], ◌∷◌, nat_eq, if◌then◌else◌}
use Rattle.nc_cloud.specs.Contents.{Store, Contents, Write, Fate, ChangesAt}

-- the entry of a cloud
abbrev pub write_at : List Write → ℕ → Option Write
write_at [] c = None
write_at (p ∷ ps) c = if nat_eq p.cloud c then Some p else write_at ps c

-- a cloud after a stop in a round
abbrev pub ImageCloud : Option Write → Store → Store → Type 0
ImageCloud None old left = left ≡ old
ImageCloud (Some p) old left = ChangesAt p.key (λ o l. Fate o p.new l) old left

-- contents that a stop in a round may leave: each touched object old, new, gone or torn, whatever the others are
pub record Image (ps : List Write) (old left : Contents) : Type 0 where
  pub each : (c : ℕ) → ImageCloud (write_at ps c) (old c) (left c)

-- a cloud after a round whose entries were all answered Ok
abbrev pub WrittenCloud : Option Write → Store → Store → Type 0
WrittenCloud None old left = left ≡ old
WrittenCloud (Some p) old left = ChangesAt p.key (λ o l. l ≡ p.new) old left

pub record Written (ps : List Write) (old left : Contents) : Type 0 where
  pub each : (c : ℕ) → WrittenCloud (write_at ps c) (old c) (left c)
