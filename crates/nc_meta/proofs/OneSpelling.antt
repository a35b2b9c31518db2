-- No payload is that of two metas.
use Rattle.std.proofs.Common.{arith, refl, sym, ap, ap₂, inl, inr, ◌∙◌}
use Rattle.std.proofs.lemmas.Bool.{cases_lt}
use Rattle.std.proofs.lemmas.List.{append-nil, drop_at, ext_get_or, get_or-drop, get_or-take, get_or_past, length-take-le, take_at}
use Rattle.std.specs.Prelude.{ℕ, ◌≡◌, ◌+◌, ◌-◌, ◌*◌, ◌<◌, ◌≤◌, Option, None, Some, List, [], ◌++◌, length, slice_index, slice_index_or, take, drop}
use Rattle.nc_bytes.specs.Bytes.{part}
use Rattle.nc_bytes.proofs.Numbers.{bytes_8-same}
use Rattle.nc_gf256.specs.Width.{native_count}
use Rattle.nc_code.specs.Parts.{PlanParts, IsPlan, IsTable}
use Rattle.nc_code.specs.Codes.{IsBare, no_plan}
use Rattle.nc_code.specs.Good.{plan_of}
use Rattle.nc_code.specs.declared.plan.Witnesses.{Witnesses}
use Rattle.nc_meta.specs.declared.meta.Live.{Live as LiveMeta}
use Rattle.nc_meta.specs.declared.meta.Meta.TheVariants.{Live, Gone}
use Rattle.nc_meta.specs.Parts.{each, of_survivors}
use Rattle.nc_meta.specs.Metas.{AreWitnesses, OneSpelling, SpellsGone, SpellsLive, plan_bytes, stored_row, witness_bytes}
use Rattle.std.specs.Prelude.{IfSome}
use Rattle.nc_meta.proofs.Each.{each_at}
use Rattle.nc_meta.proofs.PlanParts.{length-of_survivors, length-plan_bytes}
use Rattle.nc_meta.proofs.MetaParts.{gone_shape, live_shape, length-stored_row}

no_flag : ◌≡◌ {A = ℕ} 0 1 → ⊥
no_flag e = cc

-- ---- lists

-- lists that are the same up to a place, and 0 from it on
pub same_padded : (size : ℕ) (xs ys : List ℕ) → length xs ≡ length ys → take size xs ≡ take size ys
    → ((k : ℕ) → size ≤ k → slice_index xs k ≡ 0) → ((k : ℕ) → size ≤ k → slice_index ys k ≡ 0) → xs ≡ ys
same_padded size xs ys long front a b = ext_get_or 0 xs ys long (λ i l. elim (cases_lt i size) [
  | inl low ↦ sym (get_or-take size xs i 0 low) ∙ ap (λ zs. slice_index zs i) front ∙ get_or-take size ys i 0 low
  | inr high ↦ a i high ∙ sym (b i high)
])

-- tables that are the same up to a row and a column, and 0 past them
pub same_tables : (count size N : ℕ) (t u : List (List ℕ)) → IsTable 20 N t → IsTable 20 N u
    → ((i : ℕ) → i < count → take size (slice_index_or t i []) ≡ take size (slice_index_or u i []))
    → ((i k : ℕ) → size ≤ k → slice_index (slice_index_or t i []) k ≡ 0) → ((i k : ℕ) → size ≤ k → slice_index (slice_index_or u i []) k ≡ 0)
    → ((i k : ℕ) → count ≤ i → slice_index (slice_index_or t i []) k ≡ 0) → ((i k : ℕ) → count ≤ i → slice_index (slice_index_or u i []) k ≡ 0)
    → t ≡ u
same_tables count size N t u is_t is_u rows zero_t zero_u past_t past_u =
    ext_get_or [] t u (is_t.count ∙ sym is_u.count) (λ i l.
    let within : i < 20 = omega (arith, is_t.count) in
    let long = is_t.widths i within ∙ sym (is_u.widths i within) in
    elim (cases_lt i count) [
      | inl low ↦ same_padded size (slice_index_or t i []) (slice_index_or u i []) long (rows i low) (zero_t i) (zero_u i)
      | inr high ↦ same_padded 0 (slice_index_or t i []) (slice_index_or u i []) long refl (λ k past. past_t i k high) (λ k past. past_u i k high)
    ])

-- past the end of its rows a table has zeros
pub past_rows : (N : ℕ) (t : List (List ℕ)) → IsTable 20 N t → (i k : ℕ) → N ≤ k → slice_index (slice_index_or t i []) k ≡ 0
past_rows N t is i k past = elim (cases_lt i 20) [
  | inl within ↦ get_or_past (slice_index_or t i []) k 0 (omega (arith, is.widths i within))
  | inr high ↦ let e = get_or_past t i [] (omega (arith, is.count)) in ap (λ row. slice_index row k) e
]

-- what is joined of lists of one length
pub each_same_at : (k size : ℕ) (f g : ℕ → List ℕ) → ((i : ℕ) → i < k → length (f i) ≡ size) → ((i : ℕ) → i < k → length (g i) ≡ size)
    → each k f ≡ each k g → (i : ℕ) → i < k → f i ≡ g i
each_same_at k size f g sizes_f sizes_g e i l =
    sym (each_at k 0 size f (each k f) [] sizes_f (sym (append-nil (each k f))) i l)
    ∙ ap (λ xs. part (0 + i * size) size xs) e
    ∙ each_at k 0 size g (each k g) [] sizes_g (sym (append-nil (each k g))) i l

pub record SameHalves (a b x y : List ℕ) : Type 0 where
  pub front : a ≡ b
  pub rest : x ≡ y

pub same_halves : (n : ℕ) (a b x y : List ℕ) → length a ≡ n → length b ≡ n → a ++ x ≡ b ++ y → SameHalves a b x y
same_halves n a b x y a_long b_long e = record {
  front = sym (take_at a x n a_long) ∙ ap (take n) e ∙ take_at b y n b_long;
  rest = sym (drop_at a x n a_long) ∙ ap (drop n) e ∙ drop_at b y n b_long;
}

-- ---- plans

-- what is said of the survivors, by cloud
pub same_survivors : (n lost : ℕ) (xs ys : List ℕ) → lost < n → n ≤ length xs → length xs ≡ length ys → of_survivors n lost xs ≡ of_survivors n lost ys
    → slice_index xs lost ≡ 0 → slice_index ys lost ≡ 0
    → ((t : ℕ) → n ≤ t → slice_index xs t ≡ 0) → ((t : ℕ) → n ≤ t → slice_index ys t ≡ 0) → xs ≡ ys
same_survivors n lost xs ys within fits long e x y past_x past_y =
    let size_x : length (take lost xs) ≡ lost = length-take-le lost xs (omega arith) in
    let size_y : length (take lost ys) ≡ lost = length-take-le lost ys (omega arith) in
    let halves = same_halves lost (take lost xs) (take lost ys) _ _ size_x size_y e in
    ext_get_or 0 xs ys long (λ t l. elim (cases_lt t lost) [
      | inl before ↦ sym (get_or-take lost xs t 0 before) ∙ ap (λ zs. slice_index zs t) halves.front ∙ get_or-take lost ys t 0 before
      | inr from ↦ elim (cases_lt lost t) [
        | inl after ↦ elim (cases_lt t n) [
          | inl inside ↦
              let i = t - (lost + 1) in
              let room : t - (lost + 1) < n - (lost + 1) = omega arith in
              let at : lost + 1 + (t - (lost + 1)) ≡ t = omega arith in
              let here_x = get_or-take (n - (lost + 1)) (drop (lost + 1) xs) (t - (lost + 1)) 0 room ∙ get_or-drop (lost + 1) xs (t - (lost + 1)) 0
              ∙ ap (slice_index xs) at in
              let here_y = get_or-take (n - (lost + 1)) (drop (lost + 1) ys) (t - (lost + 1)) 0 room ∙ get_or-drop (lost + 1) ys (t - (lost + 1)) 0
              ∙ ap (slice_index ys) at in
              sym here_x ∙ ap (λ zs. slice_index zs (t - (lost + 1))) halves.rest ∙ here_y
          | inr outside ↦ past_x t outside ∙ sym (past_y t outside)
        ]
        | inr not_after ↦
            let same : t ≡ lost = omega arith in
            ap (slice_index xs) same ∙ x ∙ sym (ap (slice_index ys) same ∙ y)
      ]
    ])

pub same_plans : (n lost : ℕ) (p q : PlanParts) → n ≤ 10 → lost < n → IsPlan p → IsPlan q → IsBare n lost p → IsBare n lost q
    → plan_bytes n lost p ≡ plan_bytes n lost q → p ≡ q
same_plans n lost p q narrow within is_p is_q bare_p bare_q e =
    let p0 = is_p.shape.widths 0 (omega arith) in
    let p1 = is_p.shape.widths 1 (omega arith) in
    let q0 = is_q.shape.widths 0 (omega arith) in
    let q1 = is_q.shape.widths 1 (omega arith) in
    let size_p = length-of_survivors n lost p.choice within (omega (arith, is_p.choice_count)) in
    let size_q = length-of_survivors n lost q.choice within (omega (arith, is_q.choice_count)) in
    let one = same_halves (n - 1) (of_survivors n lost p.choice) (of_survivors n lost q.choice) _ _ size_p size_q e in
    let size_p0 = length-of_survivors n lost (slice_index_or p.coefs 0 []) within (omega (arith, p0)) in
    let size_q0 = length-of_survivors n lost (slice_index_or q.coefs 0 []) within (omega (arith, q0)) in
    let two = same_halves (n - 1) (of_survivors n lost (slice_index_or p.coefs 0 [])) (of_survivors n lost (slice_index_or q.coefs 0 [])) _ _ size_p0 size_q0 one.rest in
    let choice = same_survivors n lost p.choice q.choice within (omega (arith, is_p.choice_count)) (is_p.choice_count ∙ sym is_q.choice_count) one.front
    bare_p.choice bare_q.choice bare_p.choice_past bare_q.choice_past in
    let first = same_survivors n lost (slice_index_or p.coefs 0 []) (slice_index_or q.coefs 0 []) within (omega (arith, p0)) (p0 ∙ sym q0) two.front
    (bare_p.coefs 0) (bare_q.coefs 0) (bare_p.coefs_past 0) (bare_q.coefs_past 0) in
    let second = same_survivors n lost (slice_index_or p.coefs 1 []) (slice_index_or q.coefs 1 []) within (omega (arith, p1)) (p1 ∙ sym q1) two.rest
    (bare_p.coefs 1) (bare_q.coefs 1) (bare_p.coefs_past 1) (bare_q.coefs_past 1) in
    let coefs = ext_get_or [] p.coefs q.coefs (is_p.shape.count ∙ sym is_q.shape.count) (λ i l. elim (cases_lt i 1) [
      | inl low ↦
          let zero : i ≡ 0 = omega arith in
          ap (λ k. slice_index_or p.coefs k []) zero ∙ first ∙ sym (ap (λ k. slice_index_or q.coefs k []) zero)
      | inr high ↦
          let one_is : i ≡ 1 = omega (arith, is_p.shape.count) in
          ap (λ k. slice_index_or p.coefs k []) one_is ∙ second ∙ sym (ap (λ k. slice_index_or q.coefs k []) one_is)
    ]) in
    ap₂ (λ (c : List ℕ) (f : List (List ℕ)). record { choice = c; coefs = f }) choice coefs

same_plan_lists : (n : ℕ) (w v : Witnesses) → n ≤ 10 → AreWitnesses n w → AreWitnesses n v
    → each n (λ lost. plan_bytes n lost (plan_of w lost)) ≡ each n (λ lost. plan_bytes n lost (plan_of v lost)) → w.plans ≡ v.plans
same_plan_lists n w v narrow is_w is_v e =
    let at = each_same_at n (3 * (n - 1)) (λ lost. plan_bytes n lost (plan_of w lost)) (λ lost. plan_bytes n lost (plan_of v lost))
    (λ i h. length-plan_bytes n i (plan_of w i) narrow h (is_w.plans i h)) (λ i h. length-plan_bytes n i (plan_of v i) narrow h (is_v.plans i h)) e in
    ext_get_or no_plan w.plans v.plans (is_w.count ∙ sym is_v.count) (λ i l. elim (cases_lt i n) [
      | inl low ↦ same_plans n i (plan_of w i) (plan_of v i) narrow low (is_w.plans i low) (is_v.plans i low) (is_w.bare i low) (is_v.bare i low) (at i low)
      | inr high ↦ is_w.past i high ∙ sym (is_v.past i high)
    ])

pub same_witnesses : (n : ℕ) (w v : Option Witnesses) → n ≤ 10 → IfSome w (AreWitnesses n) → IfSome v (AreWitnesses n)
    → witness_bytes n w ≡ witness_bytes n v → w ≡ v
same_witnesses n None None narrow a b e = refl
same_witnesses n None (Some v) narrow a b e = absurd (no_flag (ap (λ xs. slice_index xs 0) e))
same_witnesses n (Some w) None narrow a b e = absurd (no_flag (sym (ap (λ xs. slice_index xs 0) e)))
same_witnesses n (Some w) (Some v) narrow a b e =
    let plans = same_plan_lists n w v narrow a b (ap (drop 1) e) in
    ap (λ (ps : List PlanParts). Some (record { plans = ps })) plans

-- ---- metas

same_live : (n : ℕ) (payload : List ℕ) (a b : LiveMeta) → 4 ≤ n → n ≤ 10 → SpellsLive n payload a → SpellsLive n payload b → a ≡ b
same_live n payload a b wide narrow s t =
    let x = live_shape n payload a narrow s in
    let y = live_shape n payload b narrow t in
    let generation = bytes_8-same a.generation b.generation (omega (arith, s.fits.generation.1)) (omega (arith, t.fits.generation.1)) (sym x.generation ∙ y.generation) in
    let len = bytes_8-same a.len b.len (omega (arith, s.fits.len)) (omega (arith, t.fits.len)) (sym x.len ∙ y.len) in
    let row = each_same_at (2 * n) (native_count n) (stored_row n a) (stored_row n b) (length-stored_row n a narrow s.fits) (length-stored_row n b narrow t.fits)
    (sym x.rows ∙ y.rows) in
    let zero_a : (i k : ℕ) → native_count n ≤ k → slice_index (slice_index_or a.code.rows i []) k ≡ 0 =
    λ i k past. s.fits.code.zero_past i k (rw s.fits.width past) in
    let zero_b : (i k : ℕ) → native_count n ≤ k → slice_index (slice_index_or b.code.rows i []) k ≡ 0 =
    λ i k past. t.fits.code.zero_past i k (rw t.fits.width past) in
    let past_a : (i k : ℕ) → 2 * n ≤ i → slice_index (slice_index_or a.code.rows i []) k ≡ 0 =
    λ i k past. s.fits.code.rows_past i k (rw s.fits.width past) in
    let past_b : (i k : ℕ) → 2 * n ≤ i → slice_index (slice_index_or b.code.rows i []) k ≡ 0 =
    λ i k past. t.fits.code.rows_past i k (rw t.fits.width past) in
    let rows = same_tables (2 * n) (native_count n) 16 a.code.rows b.code.rows s.fits.code.shape t.fits.code.shape row zero_a zero_b past_a past_b in
    let code = ap₂ (λ w (r : List (List ℕ)). record { width = w; rows = r }) (s.fits.width ∙ sym t.fits.width) rows in
    let slots = same_padded n a.slots b.slots (s.fits.slot_count ∙ sym t.fits.slot_count) (sym x.slots ∙ y.slots) s.fits.slots_past t.fits.slots_past in
    let mark = each_same_at (2 * n) 32 (λ i. slice_index_or a.marks i []) (λ i. slice_index_or b.marks i [])
    (λ i l. s.fits.marks.widths i (omega arith)) (λ i l. t.fits.marks.widths i (omega arith)) (sym x.marks ∙ y.marks) in
    let marks = same_tables (2 * n) 32 32 a.marks b.marks s.fits.marks t.fits.marks (λ i l. ap (take 32) (mark i l))
    (past_rows 32 a.marks s.fits.marks) (past_rows 32 b.marks t.fits.marks) s.fits.marks_past t.fits.marks_past in
    let witnesses = same_witnesses n a.witnesses b.witnesses narrow s.fits.witnesses t.fits.witnesses (sym x.tail ∙ y.tail) in
    λ i. record { generation = generation i; len = len i; code = code i; slots = slots i; marks = marks i; witnesses = witnesses i }

kinds_apart : (payload : List ℕ) (g : ℕ) (n : ℕ) (m : LiveMeta) → n ≤ 10 → SpellsGone payload g → SpellsLive n payload m → ⊥
kinds_apart payload g n m narrow s t =
    let head = sym (gone_shape payload g s.is_spelling).head ∙ (live_shape n payload m narrow t).head in
    no_flag (ap (λ xs. slice_index xs 4) head)

pub one_spelling : OneSpelling
one_spelling n wide narrow payload (Live a) (Live b) s t = ap Live (same_live n payload a b wide narrow s t)
one_spelling n wide narrow payload (Live a) (Gone h) s t = absurd (kinds_apart payload h n a narrow t s)
one_spelling n wide narrow payload (Gone g) (Live b) s t = absurd (kinds_apart payload g n b narrow s t)
one_spelling n wide narrow payload (Gone g) (Gone h) s t =
    ap Gone (bytes_8-same g h (omega (arith, s.fits.1)) (omega (arith, t.fits.1)) (sym (gone_shape payload g s.is_spelling).generation ∙ (gone_shape payload h t.is_spelling).generation))
