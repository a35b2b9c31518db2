-- What tables tell of a name is what isn't right of it.
use Rattle.std.proofs.Common.{◌≡◌, ◌⊎◌, ◌<◌, ◌≤◌, ◌*◌, ◌%◌, ℕ, zero, suc, Option, None, Some, List, get_or, inl, inr, refl, sym, subst, arith}
use Rattle.std.proofs.lemmas.Bool.{cases_lt, cond_above, cond_below}
use Rattle.nc_name.specs.Names.{IsName}
use Rattle.nc_name.specs.declared.key.Key.TheVariants as key
use Rattle.nc_meta.specs.declared.meta.Meta.{Meta}
use Rattle.nc_meta.specs.declared.meta.Live.{Live}
use Rattle.nc_meta.specs.declared.meta.Meta.TheVariants as meta
use Rattle.nc_meta.specs.Metas.{generation_of}
use Rattle.nc_cloud.specs.Contents.{Contents}
use Rattle.nc_state.specs.Holding.{Holds}
use Rattle.nc_settle.specs.declared.place.Place.{Place}
use Rattle.nc_settle.specs.declared.place.Place.TheVariants as place
use Rattle.nc_settle.specs.Views.{Places, place_at}
use Rattle.nc_settle.specs.Judging.{IsPlaceOf}
use Rattle.nc_settle.specs.Looking.{HasWidth, Sees}
use Rattle.nc_settle.specs.Decisions.{HasSealed, SeesTop}
use Rattle.nc_settle.specs.Settling.{SeesOne}
use Rattle.nc_settle.proofs.Seen.{parity_low, seen_held}
use Rattle.nc_download.specs.Chunks.{wanted_of}
use Rattle.nc_download.specs.Clouds.{held_at}
use Rattle.nc_scrub.specs.declared.flaw.Flaw.{Flaw}
use Rattle.nc_scrub.specs.declared.flaw.Part.{Part}
use Rattle.nc_scrub.specs.declared.flaw.Part.TheVariants as part
use Rattle.nc_scrub.specs.declared.flaw.State.{State}
use Rattle.nc_scrub.specs.declared.flaw.State.TheVariants as state
use Rattle.nc_scrub.specs.Flaws.{place_of, AreFlawsOf, IsListed, IsPart, IsRight, PartIs}
use Rattle.nc_scrub.specs.Tables.{meta_state, state_at, told, AreMetaStates, ChunkTold, Compares, ListsTo, RowsTold, Table}
use Rattle.nc_scrub.proofs.ListLaws.{rank_low}
use Rattle.nc_scrub.proofs.WrongLaws.{not_right}

-- a part is right, or this is why it isn't
abbrev pub PartTold : ℕ → List ℕ → Meta → Contents → ℕ → Part → Option State → Type 0
PartTold n name m F c p None = IsRight n name m F c p
PartTold n name m F c p (Some s) = PartIs n name m F c p s

-- ---- the list

module _ (n : ℕ) (name : List ℕ) (m : Meta) (F : Contents) (wide : 4 ≤ n) (narrow : n ≤ 10) (valid : IsName name) (says : ℕ → Part → Option State) (all_told : (c : ℕ) (p : Part) → c < n → IsPart p → PartTold n name m F c p (says c p)) (flaws : List Flaw) (lists : ListsTo says (3 * n) flaws) where
  right_or_listed : (c : ℕ) (p : Part) (o : Option State) → c < n → IsPart p → says c p ≡ o → PartTold n name m F c p o → IsRight n name m F c p ⊎ IsListed flaws c p
  right_or_listed c p None l is e right = inl right
  right_or_listed c p (Some s) l is e wrong = inr (record { why = s; among = lists.all (record { cloud = c; part = p; state = s }) (record { is_part = is; is = e; before = omega (arith, l, rank_low p is) }) })

  pub told_flaws : AreFlawsOf n name m F flaws
  told_flaws = record {
    each = λ i d l.
        let t = lists.each i d l in
        let f : Flaw = get_or flaws i d in
        let low : f.cloud < n = let before : place_of f.cloud f.part < 3 * n = t.before in omega (arith, before) in
        let is : PartIs n name m F f.cloud f.part f.state = subst (PartTold n name m F f.cloud f.part) t.is (all_told f.cloud f.part low t.is_part) in
        record { in_width = low; is_part = t.is_part; wrong = not_right n name m F f.cloud f.part f.state wide narrow valid low is; is = is };
    all = λ c p l is. right_or_listed c p (says c p) l is refl (all_told c p l is);
    sorted = lists.sorted;
  }

-- ---- chunks

chunk_told : (n : ℕ) (name : List ℕ) (m : Live) (F : Contents) (c r : ℕ) (o : Option State) → ChunkTold (wanted_of n name m r c) (held_at n name m F c r) o → PartTold n name (meta.Live m) F c (part.Chunk r) o
chunk_told n name m F c r None is = is
chunk_told n name m F c r (Some s) is = is

rows_told : (n : ℕ) (name : List ℕ) (m : Meta) (F : Contents) (metas zeros ones : Table) → RowsTold n name m F zeros ones → (c r : ℕ) → c < n → r < 2 → PartTold n name m F c (part.Chunk r) (told metas zeros ones c (part.Chunk r))
rows_told n name (meta.Live m) F metas zeros ones rows c zero l low = chunk_told n name m F c 0 (state_at zeros c) (rows.0.each c l)
rows_told n name (meta.Live m) F metas zeros ones rows c (suc zero) l low = chunk_told n name m F c 1 (state_at ones c) (rows.1.each c l)
rows_told n name (meta.Live m) F metas zeros ones rows c (suc (suc r)) l low = absurd (omega (arith, low))
rows_told n name (meta.Gone g) F metas zeros ones rows c zero l low = subst (PartTold n name (meta.Gone g) F c (part.Chunk 0)) (sym (rows.0 c)) tt
rows_told n name (meta.Gone g) F metas zeros ones rows c (suc zero) l low = subst (PartTold n name (meta.Gone g) F c (part.Chunk 1)) (sym (rows.1 c)) tt
rows_told n name (meta.Gone g) F metas zeros ones rows c (suc (suc r)) l low = absurd (omega (arith, low))

-- ---- metadata, by what was seen

module _ (n : ℕ) (name : List ℕ) (F : Contents) (v : Places) (wide : 4 ≤ n) (narrow : n ≤ 10) (valid : IsName name) (sees : Sees n name F v) (width : HasWidth n v) (one : SeesOne v) (a : ℕ) (m : Meta) (top : SeesTop v a m) where
  abbrev slot : ℕ
  slot = generation_of m % 2

  sealed_at : (c : ℕ) (o : Meta) → place_at v c slot ≡ place.Sealed o → HasSealed v c o
  sealed_at c o e = record { slot = slot; in_pair = parity_low (generation_of m); sealed = e }

  seen_told : (c : ℕ) (p : Place) → c < n → place_at v c slot ≡ p → IsPlaceOf n name c slot (F c (key.Meta name slot)) p → PartTold n name m F c part.Meta (meta_state p (generation_of m))
  seen_told c place.Absent l e is = is
  seen_told c place.Broken l e is = (is.0, is.1, record { none = is.2.no_meta })
  seen_told c (place.Misplaced x y) l e is = absurd (one.nothing_misplaced c (omega (arith, l, width.first)) (record { slot = slot; said_cloud = x; said_width = y; in_pair = parity_low (generation_of m); misplaced = e }))
  seen_told c place.Failed l e is = absurd (one.answered c (omega (arith, l, width.first)) (record { slot = slot; in_pair = parity_low (generation_of m); failed = e }))
  seen_told c (place.Sealed o) l e is =
      elim (cases_lt (generation_of o) (generation_of m)) [
        | inl low ↦
            subst (PartTold n name m F c part.Meta) (cond_below (generation_of o) (generation_of m) (Some state.Old) None low)
            (is.0, is.1, record { other = o; is_sealed = is.3; lower = low })
        | inr high ↦
            let under : generation_of o ≤ generation_of m = top.highest c o (omega (arith, l, width.first)) (sealed_at c o e) in
            let level : generation_of o ≡ generation_of m = omega (arith, under, high) in
            let same : o ≡ m = one.no_conflict a c m top (omega (arith, l, width.first)) o (sealed_at c o e) level in
            subst (PartTold n name m F c part.Meta) (cond_above (generation_of o) (generation_of m) (Some state.Old) None None high refl)
            (subst (Holds n F name c) same (seen_held n name F v wide narrow valid sees c o l (sealed_at c o e)))
      ]

  meta_told : (metas : Table) → AreMetaStates v m n metas → (c : ℕ) → c < n → PartTold n name m F c part.Meta (state_at metas c)
  meta_told metas are c l = subst (PartTold n name m F c part.Meta) (sym (are.each c l)) (seen_told c (place_at v c slot) l refl (sees.each c slot l (parity_low (generation_of m))))

  parts_told : (metas zeros ones : Table) → AreMetaStates v m n metas → RowsTold n name m F zeros ones → (c : ℕ) (p : Part) → c < n → IsPart p → PartTold n name m F c p (told metas zeros ones c p)
  parts_told metas zeros ones are rows c part.Meta l is = meta_told metas are c l
  parts_told metas zeros ones are rows c (part.Chunk r) l is = rows_told n name m F metas zeros ones rows c r l is

  pub compared_flaws : (flaws : List Flaw) → Compares n name v m F flaws → AreFlawsOf n name m F flaws
  compared_flaws flaws by =
      told_flaws n name m F wide narrow valid (told by.metas by.listed.zeros by.listed.ones)
      (parts_told by.metas by.listed.zeros by.listed.ones by.seen by.listed.rows)
      flaws by.listed.lists
