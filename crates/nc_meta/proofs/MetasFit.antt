-- Each payload is short, and of bytes, so that it has a frame.
use Rattle.std.proofs.Common.{arith, refl, sym, ap, subst}
use Rattle.std.proofs.Math.Nat.{mul-le-mul}
use Rattle.std.proofs.lemmas.Bool.{and_parts}
use Rattle.std.proofs.lemmas.List.{length-drop}
use borrow.Author.Tests.{ltb-true}
use Rattle.std.specs.Prelude.{ℕ, ◌≡◌, ◌+◌, ◌-◌, ◌*◌, ◌<◌, ◌≤◌, ◌&&◌, zero, suc, Bool, true, nat_lt, Option, None, Some, List, [], ◌∷◌, ◌++◌, IfSome, length, slice_index_or, take, drop}
use Rattle.nc_bytes.specs.Bytes.{AreBytes, bytes_8}
use Rattle.nc_bytes.proofs.Numbers.{bytes_8_bytes}
use Rattle.nc_gf256.specs.Width.{native_count}
use Rattle.nc_code.specs.Parts.{PlanParts, IsPlan}
use Rattle.nc_code.specs.Good.{plan_of}
use Rattle.nc_code.specs.declared.plan.Witnesses.{Witnesses}
use Rattle.nc_meta.specs.declared.meta.Live.{Live as LiveMeta}
use Rattle.nc_meta.specs.declared.meta.Meta.{Meta}
use Rattle.nc_meta.specs.declared.meta.Meta.TheVariants.{Live, Gone}
use Rattle.nc_meta.specs.Parts.{each, of_survivors}
use Rattle.nc_meta.specs.Metas.{AreWitnesses, IsLive, IsMeta, MetasFit, Spells, SpellsLive, gone_spelling, live_spelling, plan_bytes, spelling, stored_row, witness_bytes}
use Rattle.nc_meta.proofs.Padding.{below_append, below_cons, below_drop, below_take}
use Rattle.nc_meta.proofs.PlanParts.{length-plans}
use Rattle.nc_meta.proofs.MetaParts.{gone_shape, live_shape, tail_at}

abbrev all_bytes : List ℕ → Bool
all_bytes [] = true
all_bytes (x ∷ xs) = nat_lt x 256 && all_bytes xs

literal_bytes : (xs : List ℕ) → all_bytes xs ≡ true → AreBytes xs
literal_bytes [] h = λ i. omega arith
literal_bytes (x ∷ xs) h =
    let parts = and_parts (nat_lt x 256) (all_bytes xs) h in
    below_cons 256 x xs (ltb-true x 256 parts.0) (literal_bytes xs parts.1)

each_bytes : (k : ℕ) (f : ℕ → List ℕ) → ((i : ℕ) → i < k → AreBytes (f i)) → AreBytes (each k f)
each_bytes zero f all = λ i. omega arith
each_bytes (suc k) f all = below_append 256 (each k f) (f k) (each_bytes k f (λ i l. all i (omega arith))) (all k (omega arith))

survivors_bytes : (n lost : ℕ) (xs : List ℕ) → AreBytes xs → AreBytes (of_survivors n lost xs)
survivors_bytes n lost xs are =
    below_append 256 (take lost xs) (take (n - (lost + 1)) (drop (lost + 1) xs)) (below_take 256 lost xs (omega arith) are)
    (below_take 256 (n - (lost + 1)) (drop (lost + 1) xs) (omega arith) (below_drop 256 (lost + 1) xs are))

plan_are_bytes : (n lost : ℕ) (p : PlanParts) → IsPlan p → AreBytes (plan_bytes n lost p)
plan_are_bytes n lost p is =
    let choice : AreBytes p.choice = λ t. let small = is.choices t in omega arith in
    below_append 256 (of_survivors n lost p.choice) (of_survivors n lost (slice_index_or p.coefs 0 []) ++ of_survivors n lost (slice_index_or p.coefs 1 []))
    (survivors_bytes n lost p.choice choice)
    (below_append 256 (of_survivors n lost (slice_index_or p.coefs 0 [])) (of_survivors n lost (slice_index_or p.coefs 1 []))
    (survivors_bytes n lost (slice_index_or p.coefs 0 []) (is.shape.bytes 0)) (survivors_bytes n lost (slice_index_or p.coefs 1 []) (is.shape.bytes 1)))

witness_are_bytes : (n : ℕ) (w : Option Witnesses) → IfSome w (AreWitnesses n) → AreBytes (witness_bytes n w)
witness_are_bytes n None fits = literal_bytes (0 ∷ []) refl
witness_are_bytes n (Some w) fits =
    below_cons 256 1 (each n (λ lost. plan_bytes n lost (plan_of w lost))) (omega arith)
    (each_bytes n (λ lost. plan_bytes n lost (plan_of w lost)) (λ lost l. plan_are_bytes n lost (plan_of w lost) (fits.plans lost l)))

live_are_bytes : (n : ℕ) (m : LiveMeta) → IsLive n m → AreBytes (live_spelling n m)
unfolding live_spelling
live_are_bytes n m is =
    let slots : AreBytes m.slots = λ c. let small = is.slots c in omega arith in
    below_append 256 (0x4E ∷ 0x43 ∷ 0x4D ∷ 0x31 ∷ 1 ∷ []) _ (literal_bytes (0x4E ∷ 0x43 ∷ 0x4D ∷ 0x31 ∷ 1 ∷ []) refl)
    (below_append 256 (bytes_8 m.generation) _ (bytes_8_bytes m.generation)
    (below_append 256 (bytes_8 m.len) _ (bytes_8_bytes m.len)
    (below_append 256 (each (2 * n) (stored_row n m)) _ (each_bytes (2 * n) (stored_row n m) (λ i l. below_take 256 (native_count n) (slice_index_or m.code.rows i []) (omega arith) (is.code.shape.bytes i)))
    (below_append 256 (take n m.slots) _ (below_take 256 n m.slots (omega arith) slots)
    (below_append 256 (each (2 * n) (λ i. slice_index_or m.marks i [])) (witness_bytes n m.witnesses) (each_bytes (2 * n) (λ i. slice_index_or m.marks i []) (λ i l. is.marks.bytes i))
    (witness_are_bytes n m.witnesses is.witnesses))))))

gone_are_bytes : (g : ℕ) → AreBytes (gone_spelling g)
unfolding gone_spelling
gone_are_bytes g = below_append 256 (0x4E ∷ 0x43 ∷ 0x4D ∷ 0x31 ∷ 0 ∷ []) (bytes_8 g) (literal_bytes (0x4E ∷ 0x43 ∷ 0x4D ∷ 0x31 ∷ 0 ∷ []) refl) (bytes_8_bytes g)

witness_short : (n : ℕ) (w : Option Witnesses) → n ≤ 10 → IfSome w (AreWitnesses n) → length (witness_bytes n w) ≤ 271
witness_short n None narrow fits = omega arith
witness_short n (Some w) narrow fits =
    let factor : 3 * (n - 1) ≤ 27 = omega arith in
    let most : n * (3 * (n - 1)) ≤ 10 * 27 = mul-le-mul narrow factor in
    omega (arith, length-plans n w narrow fits)

live_short : (n : ℕ) (payload : List ℕ) (m : LiveMeta) → n ≤ 10 → SpellsLive n payload m → length payload ≤ 1262
live_short n payload m narrow s =
    let shape = live_shape n payload m narrow s in
    let rows : 2 * n ≤ 20 = omega arith in
    let row : native_count n ≤ 16 = omega arith in
    let most : 2 * n * native_count n ≤ 20 * 16 = mul-le-mul rows row in
    let tail : length (drop (tail_at n) payload) ≡ length (witness_bytes n m.witnesses) = ap length shape.tail in
    omega (arith, length-drop (tail_at n) payload, witness_short n m.witnesses narrow s.fits.witnesses, shape.long)

pub metas_fit : MetasFit
metas_fit n wide narrow payload (Live m) s =
    (live_short n payload m narrow s, subst AreBytes (sym s.is_spelling) (live_are_bytes n m s.fits))
metas_fit n wide narrow payload (Gone g) s =
    (omega (arith, (gone_shape payload g s.is_spelling).total), subst AreBytes (sym s.is_spelling) (gone_are_bytes g))

-- only metas that can be stored have a payload
pub is_meta : (n : ℕ) (payload : List ℕ) (m : Meta) → Spells n payload m → IsMeta n m
is_meta n payload (Live m) s = s.fits
is_meta n payload (Gone g) s = s.fits

-- a meta that can be stored has its spelling as payload, and no other
pub spells_itself : (n : ℕ) (m : Meta) → IsMeta n m → Spells n (spelling n m) m
spells_itself n (Live m) is = record { fits = is; is_spelling = refl }
spells_itself n (Gone g) is = record { fits = is; is_spelling = refl }

pub payload_is : (n : ℕ) (payload : List ℕ) (m : Meta) → Spells n payload m → payload ≡ spelling n m
payload_is n payload (Live m) s = s.is_spelling
payload_is n payload (Gone g) s = s.is_spelling
