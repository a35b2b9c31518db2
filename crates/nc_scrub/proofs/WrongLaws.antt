-- What isn't right of a part is told only where it isn't right.
use Rattle.std.proofs.Common.{◌≡◌, ◌<◌, ◌≤◌, ◌%◌, ℕ, Option, None, Some, List, ap, ◌∙◌, subst, arith}
use Rattle.sha2.specs.Sha256.{sha256}
use Rattle.nc_name.specs.Names.{IsName}
use Rattle.nc_frame.proofs.Shapes.{same_parts}
use Rattle.nc_meta.specs.declared.meta.Meta.{Meta}
use Rattle.nc_meta.specs.declared.meta.Meta.TheVariants as meta
use Rattle.nc_meta.specs.Metas.{Spells, generation_of}
use Rattle.nc_meta.proofs.OneSpelling.{one_spelling}
use Rattle.nc_cloud.specs.Contents.{Contents}
use Rattle.nc_state.specs.Holding.{Holds}
use Rattle.nc_settle.specs.Judging.{SealedMeta}
use Rattle.nc_settle.proofs.HeldMetas.{stands_sealed}
use Rattle.nc_download.specs.declared.judging.Wanted.{Wanted}
use Rattle.nc_download.specs.Chunks.{wanted_of, HoldsPayload, IsGoodChunk}
use Rattle.nc_download.specs.Clouds.{held_at}
use Rattle.nc_scrub.specs.declared.flaw.Part.{Part}
use Rattle.nc_scrub.specs.declared.flaw.Part.TheVariants as part
use Rattle.nc_scrub.specs.declared.flaw.State.{State}
use Rattle.nc_scrub.specs.declared.flaw.State.TheVariants as state
use Rattle.nc_scrub.specs.Flaws.{ChunkHas, IsRight, MetaIs, PartIs}

same_bytes : {X : Type 0} (o : Option X) (x y : X) → o ≡ Some x → o ≡ Some y → x ≡ y
same_bytes o x y a b = cc

not_there : {X : Type 0} (o : Option X) (x : X) → o ≡ None → o ≡ Some x → ⊥
not_there o x a b = cc

-- sealed bytes are those of one meta
one_meta : (n : ℕ) (name : List ℕ) (c slot : ℕ) (bytes : List ℕ) (m o : Meta) → 4 ≤ n → n ≤ 10 → SealedMeta n name c slot bytes m → SealedMeta n name c slot bytes o → m ≡ o
one_meta n name c slot bytes m o wide narrow s t =
    let same = same_parts bytes c c n n _ _ _ _ s.is_sealed t.is_sealed in
    one_spelling n wide narrow t.payload m o (subst (λ (q : List ℕ). Spells n q m) same.payload s.spells) t.spells

meta_not_right : (n : ℕ) (name : List ℕ) (m : Meta) (F : Contents) (c : ℕ) (s : State) → 4 ≤ n → n ≤ 10 → IsName name → c < n → MetaIs n name m F c s → Holds n F name c m → ⊥
meta_not_right n name m F c state.Missing wide narrow valid l is holds = not_there _ _ is holds.stands
meta_not_right n name m F c state.Broken wide narrow valid l is holds =
    let there = stands_sealed n F name wide narrow valid c m l holds in
    let same : there.bytes ≡ is.0 = same_bytes _ there.bytes is.0 there.stands is.1 in
    is.2.none m (subst (λ (b : List ℕ). SealedMeta n name c (generation_of m % 2) b m) same there.is_sealed)
meta_not_right n name m F c state.Old wide narrow valid l is holds =
    let there = stands_sealed n F name wide narrow valid c m l holds in
    let same : there.bytes ≡ is.0 = same_bytes _ there.bytes is.0 there.stands is.1 in
    let one : m ≡ is.2.other = one_meta n name c (generation_of m % 2) is.0 m is.2.other wide narrow (subst (λ (b : List ℕ). SealedMeta n name c (generation_of m % 2) b m) same there.is_sealed) is.2.is_sealed in
    let level : generation_of m ≡ generation_of is.2.other = ap generation_of one in
    absurd (omega (arith, level, is.2.lower))
meta_not_right n name m F c state.Marked wide narrow valid l is holds = is

-- what is held has one payload
one_payload : (w : Wanted) (held : Option (List ℕ)) (p q : List ℕ) → HoldsPayload w held p → HoldsPayload w held q → p ≡ q
one_payload w None p q a b = absurd a
one_payload w (Some bytes) p q a b = (same_parts bytes _ _ _ _ _ _ _ _ a b).payload

chunk_not_right : (w : Wanted) (held : Option (List ℕ)) (payload : List ℕ) (s : State) → ChunkHas w held s → IsGoodChunk w held payload → ⊥
chunk_not_right w held payload state.Missing is good = subst (λ (h : Option (List ℕ)). HoldsPayload w h payload) is good.holds
chunk_not_right w held payload state.Broken is good = is.no_payload payload good.holds good.long
chunk_not_right w held payload state.Old is good = is
chunk_not_right w held payload state.Marked is good = is.other (ap sha256 (one_payload w held is.payload payload is.holds good.holds) ∙ good.marked)

pub not_right : (n : ℕ) (name : List ℕ) (m : Meta) (F : Contents) (c : ℕ) (p : Part) (s : State) → 4 ≤ n → n ≤ 10 → IsName name → c < n → PartIs n name m F c p s → IsRight n name m F c p → ⊥
not_right n name m F c part.Meta s wide narrow valid l is right = meta_not_right n name m F c s wide narrow valid l is right
not_right n name (meta.Live m) F c (part.Chunk r) s wide narrow valid l is right = chunk_not_right (wanted_of n name m r c) (held_at n name m F c r) right.0 s is right.1
not_right n name (meta.Gone generation) F c (part.Chunk r) s wide narrow valid l is right = is
