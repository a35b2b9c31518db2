-- The payloads of metadata: which values are stored, and their spelling.
use Rattle.std.specs.Prelude.{ℕ, ◌≡◌, ◌*◌, ◌<◌, ◌≤◌, ◌^◌, Option, None, Some, List, [], ◌∷◌, ◌++◌, IfSome, length, slice_index, slice_index_or, take}
use Rattle.nc_bytes.specs.Bytes.{AreZeroPast, IsZeroPast, AreBytes, bytes_8}
use Rattle.nc_gf256.specs.Width.{native_count}
use Rattle.nc_code.specs.Parts.{PlanParts, IsCode, IsPlan, IsTable}
use Rattle.nc_code.specs.Codes.{IsBare, no_plan}
use Rattle.nc_code.specs.Good.{plan_of}
use Rattle.nc_code.specs.declared.plan.Witnesses.{Witnesses}
use Rattle.nc_meta.specs.declared.meta.Live.{Live as LiveMeta}
use Rattle.nc_meta.specs.declared.meta.Meta.{Meta}
use Rattle.nc_meta.specs.declared.meta.Meta.TheVariants.{Live, Gone}
use Rattle.nc_meta.specs.Parts.{each, of_survivors, AreBits, IsGeneration}

-- ---- what is stored

-- A plan for each loss at width n. What a payload doesn't carry of them is 0.
pub record AreWitnesses (n : ℕ) (w : Witnesses) : Type 0 where
  pub count : length w.plans ≡ 10
  pub plans : (lost : ℕ) → lost < n → IsPlan (plan_of w lost)
  pub bare : (lost : ℕ) → lost < n → IsBare n lost (plan_of w lost)
  pub past : (lost : ℕ) → n ≤ lost → plan_of w lost ≡ no_plan

-- A live meta at width n. What a payload doesn't carry of it is 0.
pub record IsLive (n : ℕ) (m : LiveMeta) : Type 0 where
  pub generation : IsGeneration m.generation
  pub len : m.len ≤ 2 ^ 26
  pub width : m.code.width ≡ n
  pub code : IsCode m.code
  pub slot_count : length m.slots ≡ 10
  pub slots : AreBits m.slots
  pub slots_past : IsZeroPast n m.slots
  pub marks : IsTable 20 32 m.marks
  pub marks_past : AreZeroPast (2 * n) m.marks
  pub witnesses : IfSome m.witnesses (AreWitnesses n)

abbrev pub IsMeta : ℕ → Meta → Type 0
IsMeta n (Live m) = IsLive n m
IsMeta n (Gone generation) = IsGeneration generation

abbrev pub generation_of : Meta → ℕ
generation_of (Live m) = m.generation
generation_of (Gone generation) = generation

-- ---- the spelling

-- the choices of the survivors, then their factors in row 0, then in row 1
abbrev pub plan_bytes : ℕ → ℕ → PlanParts → List ℕ
plan_bytes n lost plan =
    of_survivors n lost plan.choice ++ (of_survivors n lost (slice_index_or plan.coefs 0 []) ++ of_survivors n lost (slice_index_or plan.coefs 1 []))

-- a flag, and the plans for each lost cloud, ascending
abbrev pub witness_bytes : ℕ → Option Witnesses → List ℕ
witness_bytes n None = 0 ∷ []
witness_bytes n (Some w) = 1 ∷ each n (λ lost. plan_bytes n lost (plan_of w lost))

-- row i of the code, as far as it has factors
abbrev pub stored_row : ℕ → LiveMeta → ℕ → List ℕ
stored_row n m i = take (native_count n) (slice_index_or m.code.rows i [])

-- "NCM1", the kind 0, the generation
unfoldable pub gone_spelling : ℕ → List ℕ
gone_spelling generation = (0x4E ∷ 0x43 ∷ 0x4D ∷ 0x31 ∷ 0 ∷ []) ++ bytes_8 generation

-- "NCM1", the kind 1, the generation, the length of the file, the rows, the slots, the marks, the witnesses
unfoldable pub live_spelling : ℕ → LiveMeta → List ℕ
live_spelling n m =
    (0x4E ∷ 0x43 ∷ 0x4D ∷ 0x31 ∷ 1 ∷ []) ++ (bytes_8 m.generation ++ (bytes_8 m.len
    ++ (each (2 * n) (stored_row n m)
    ++ (take n m.slots
    ++ (each (2 * n) (λ i. slice_index_or m.marks i [])
    ++ witness_bytes n m.witnesses)))))

abbrev pub spelling : ℕ → Meta → List ℕ
spelling n (Live m) = live_spelling n m
spelling n (Gone generation) = gone_spelling generation

-- ---- the grammar

pub record SpellsGone (payload : List ℕ) (generation : ℕ) : Type 0 where
  pub fits : IsGeneration generation
  pub is_spelling : payload ≡ gone_spelling generation

pub record SpellsLive (n : ℕ) (payload : List ℕ) (m : LiveMeta) : Type 0 where
  pub fits : IsLive n m
  pub is_spelling : payload ≡ live_spelling n m

-- the payload is that of the meta, at width n
abbrev pub Spells : ℕ → List ℕ → Meta → Type 0
Spells n payload (Live m) = SpellsLive n payload m
Spells n payload (Gone generation) = SpellsGone payload generation

-- the end of a live payload
pub record SpellsWitnesses (n : ℕ) (tail : List ℕ) (w : Option Witnesses) : Type 0 where
  pub fits : IfSome w (AreWitnesses n)
  pub is_spelling : tail ≡ witness_bytes n w

-- the plans, one for each loss
pub record SpellsPlans (n : ℕ) (bytes : List ℕ) (w : Witnesses) : Type 0 where
  pub fits : AreWitnesses n w
  pub is_spelling : bytes ≡ each n (λ lost. plan_bytes n lost (plan_of w lost))

-- the plan for one loss
pub record SpellsPlan (n lost : ℕ) (bytes : List ℕ) (p : PlanParts) : Type 0 where
  pub plan : IsPlan p
  pub bare : IsBare n lost p
  pub is_spelling : bytes ≡ plan_bytes n lost p

-- no payload is that of two metas
abbrev pub OneSpelling : Type 0
OneSpelling = (n : ℕ) → 4 ≤ n → n ≤ 10 → (payload : List ℕ) (a b : Meta) → Spells n payload a → Spells n payload b → a ≡ b

-- each payload is short enough for a frame, and made of bytes
abbrev pub MetasFit : Type 0
MetasFit = (n : ℕ) → 4 ≤ n → n ≤ 10 → (payload : List ℕ) (m : Meta) → Spells n payload m → (length payload ≤ 1262) × AreBytes payload
