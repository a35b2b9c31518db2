-- The rows of names, and what they show of contents that stand.
use Rattle.std.proofs.Common.{◌≡◌, ◌⊎◌, ◌<◌, ◌≤◌, ◌+◌, ◌++◌, ℕ, zero, suc, Bool, true, false, if◌then◌else◌, Option, None, Some, IsSome, List, [], ◌∷◌, All, AllPairs, Contains, length, drop, get_or, slice_index_or, append-nil, append_assoc, inl, inr, refl, sym, ap, ◌∙◌, subst, arith}
use Rattle.std.specs.Cmp.Lexicographic.{slice_cmp}
use Rattle.std.specs.Ordering.{nat_cmp}
use Rattle.std.specs.Str.{bytes_eq}
use Rattle.std.specs.declared.cmp.Ordering.TheVariants.{Equal, Less}
use Rattle.std.proofs.lemmas.Bool.{cases_Bool}
use Rattle.std.proofs.lemmas.Cmp.{nat_list_cmp_total, tied_itself}
use Rattle.std.proofs.lemmas.List.{drop_all, drop_more}
use Rattle.std.proofs.lemmas.List.Elements.{All-contains, All-contains_itself, All-weaker, Contains-append_cases, Contains-append_left, Contains-append_right}
use Rattle.std.proofs.lemmas.List.Kept.{AllPairs-cons}
use Rattle.std.proofs.lemmas.Slice.Eq.{bytes_eq-Decides}
use Rattle.nc_name.specs.declared.key.Key.{Key}
use Rattle.nc_name.specs.Names.{IsName}
use Rattle.nc_cloud.specs.Contents.{Contents}
use Rattle.nc_meta.specs.declared.meta.Live.{Live}
use Rattle.nc_state.specs.Clouds.{Clouds}
use Rattle.nc_state.specs.Showing.{AreBearable, UnlistedOutside}
use Rattle.nc_state.specs.Standing.{Entries, Stands}
use Rattle.nc_state.specs.Vaults.{Vault}
use Rattle.nc_state.specs.Versions.{Version}
use Rattle.nc_state.specs.Versions.Version.{Never, Stored}
use Rattle.nc_state.proofs.ShownLaw.{unlisted_is_shown}
use Rattle.nc_names.specs.Listing.{AreNamesOutside, AreSortedNames}
use Rattle.nc_download.specs.FindingOnVaults.{HasAll}
use Rattle.nc_download.specs.ListingOnVaults.{LenShows}
use Rattle.nc_vault.specs.declared.reply.FileRow.{FileRow}
use Rattle.nc_vault.specs.Listing.{row_of, rows_of}
use Rattle.nc_vault.specs.Showing.{Reads, ReadsList}
use Rattle.nc_vault.proofs.Members.{in_none, in_one}

-- ---- rows in their order

in_first : {T : Type 0} (x : T) (xs : List T) → Contains (x ∷ xs) x
in_first x xs = (0, omega arith, refl)

in_rest : {T : Type 0} (x y : T) (xs : List T) → Contains xs y → Contains (x ∷ xs) y
in_rest x y xs (k, l, e) = (suc k, omega (arith, l), e)

first_or_rest : {T : Type 0} (x y : T) (xs : List T) → Contains (x ∷ xs) y → (y ≡ x) ⊎ Contains xs y
first_or_rest x y xs (zero, l, e) = inl (sym e)
first_or_rest x y xs (suc k, l, e) = inr (k, omega (arith, l), e)

abbrev Comes : List ℕ → List ℕ → Type 0
Comes a b = slice_cmp nat_cmp a b ≡ Less

-- the first of sorted names comes before all others, which are sorted too
comes_first : (name other : List ℕ) (names : List (List ℕ)) → AreSortedNames (name ∷ names) → Contains names other → Comes name other
comes_first name other names sorted (k, l, e) = subst (λ (b : List ℕ). Comes name b) e (sorted 0 (suc k) other (omega arith) (omega (arith, l)))

rest_sorted : (name : List ℕ) (names : List (List ℕ)) → AreSortedNames (name ∷ names) → AreSortedNames names
rest_sorted name names sorted i j d low within = sorted (suc i) (suc j) d (omega (arith, low)) (omega (arith, within))

first_is_new : (name : List ℕ) (names : List (List ℕ)) → AreSortedNames (name ∷ names) → Contains names name → ⊥
first_is_new name names sorted among =
    let wrong : Equal ≡ Less = sym (tied_itself nat_list_cmp_total name) ∙ comes_first name name names sorted among in
    absurd cc

row_named : (name : List ℕ) (len : Option ℕ) (row : FileRow) → Contains (row_of name len) row → row.name ≡ name
row_named name (Some len) row among = ap (λ (r : FileRow). r.name) (in_one (record { len = len; name = name }) row among)
row_named name None row among = absurd (in_none row among)

rows_named : (names : List (List ℕ)) (lens : List (Option ℕ)) (row : FileRow) → Contains (rows_of names lens) row → Contains names row.name
rows_named [] lens row among = absurd (in_none row among)
rows_named (name ∷ names) [] row among = absurd (in_none row among)
rows_named (name ∷ names) (len ∷ lens) row among =
    elim (Contains-append_cases (row_of name len) (rows_of names lens) row among) [
      | inl here ↦ subst (λ (m : List ℕ). Contains (m ∷ names) row.name) (row_named name len row here) (in_first row.name names)
      | inr later ↦ in_rest name row.name names (rows_named names lens row later)
    ]

abbrev RowComes : FileRow → FileRow → Type 0
RowComes a b = Comes a.name b.name

pub rows_sorted : (names : List (List ℕ)) (lens : List (Option ℕ)) → AreSortedNames names → AllPairs RowComes (rows_of names lens)
rows_sorted [] lens sorted = λ i j d low within. absurd (omega (arith, within))
rows_sorted (name ∷ names) [] sorted = λ i j d low within. absurd (omega (arith, within))
rows_sorted (name ∷ names) (None ∷ lens) sorted = rows_sorted names lens (rest_sorted name names sorted)
rows_sorted (name ∷ names) (Some len ∷ lens) sorted =
    let row : FileRow = record { len = len; name = name } in
    AllPairs-cons RowComes row (rows_of names lens)
    (All-weaker (Contains (rows_of names lens)) (RowComes row) (λ other among. comes_first name other.name names sorted (rows_named names lens other among)) (rows_of names lens) (All-contains_itself (rows_of names lens)))
    (rows_sorted names lens (rest_sorted name names sorted))

-- ---- rows that are pushed one after the other

-- those of the names from k on are still to come
pub record AreRows (names : List (List ℕ)) (lens : List (Option ℕ)) (k : ℕ) (rows : List FileRow) : Type 0 where
  pub all : rows_of names lens ≡ rows ++ rows_of (drop k names) (drop k lens)

pub rows_none : (names : List (List ℕ)) (lens : List (Option ℕ)) (rows : List FileRow) → rows ≡ [] → AreRows names lens 0 rows
rows_none names lens rows none = record { all = ap (λ (r : List FileRow). r ++ rows_of names lens) (sym none) }

pub rows_more : (names : List (List ℕ)) (lens : List (Option ℕ)) (k : ℕ) (rows next : List FileRow) (name : List ℕ) (len : Option ℕ) → k < length names → k < length lens
    → get_or names k name ≡ name → get_or lens k len ≡ len → next ≡ rows ++ row_of name len → AreRows names lens k rows → AreRows names lens (k + 1) next
rows_more names lens k rows next name len low within name_is len_is pushed so_far =
    let name_here : drop k names ≡ name ∷ drop (k + 1) names = drop_more names k name low ∙ ap (λ (m : List ℕ). m ∷ drop (k + 1) names) name_is in
    let len_here : drop k lens ≡ len ∷ drop (k + 1) lens = drop_more lens k len within ∙ ap (λ (l : Option ℕ). l ∷ drop (k + 1) lens) len_is in
    let rest : List FileRow = rows_of (drop (k + 1) names) (drop (k + 1) lens) in
    let here : rows_of (drop k names) (drop k lens) ≡ row_of name len ++ rest =
    ap (λ (ns : List (List ℕ)). rows_of ns (drop k lens)) name_here ∙ ap (λ (ls : List (Option ℕ)). rows_of (name ∷ drop (k + 1) names) ls) len_here in
    record {
      all =
          so_far.all ∙ ap (λ (r : List FileRow). rows ++ r) here ∙ sym (append_assoc rows (row_of name len) rest)
          ∙ ap (λ (r : List FileRow). r ++ rest) (sym pushed);
    }

pub rows_all : (names : List (List ℕ)) (lens : List (Option ℕ)) (k : ℕ) (rows : List FileRow) → length names ≤ k → AreRows names lens k rows → rows ≡ rows_of names lens
rows_all names lens k rows past so_far =
    let none : rows_of (drop k names) (drop k lens) ≡ [] = ap (λ (ns : List (List ℕ)). rows_of ns (drop k lens)) (drop_all k names past) in
    sym (so_far.all ∙ ap (λ (r : List FileRow). rows ++ r) none ∙ append-nil rows)

-- ---- what a name and its row show

pub record IsRowOf (version : Version) (row : FileRow) : Type 0 where
  pub meta : Live
  pub v : List ℕ
  pub is : version ≡ Stored meta v
  pub len_is : row.len ≡ meta.len

record RowShows (n : ℕ) (V : Vault) (X : Clouds) (name : List ℕ) (rows : List FileRow) : Type 0 where
  pub version : Version
  pub reads : Reads n V X name version
  pub all : (m : Live) (v : List ℕ) → version ≡ Stored m v → Contains rows (record { len = m.len; name = name })
  pub only : (row : FileRow) → Contains rows row → IsRowOf version row

row_shows : (n : ℕ) (V : Vault) (X : Clouds) (name : List ℕ) (len : Option ℕ) → LenShows n V X name len → RowShows n V X name (row_of name len)
row_shows n V X name (Some len) shows = record {
  version = Stored shows.0 shows.1.bytes;
  reads = shows.1.shown;
  all = λ m v is.
      let same : shows.0 ≡ m = cc in
      let long : len ≡ m.len = sym shows.2 ∙ ap (λ (k : Live). k.len) same in
      (0, omega arith, ap (λ (l : ℕ). record { len = l; name = name }) long);
  only = λ row among. record {
    meta = shows.0;
    v = shows.1.bytes;
    is = refl;
    len_is = ap (λ (r : FileRow). r.len) (in_one (record { len = len; name = name }) row among) ∙ sym shows.2;
  };
}
row_shows n V X name None shows = record {
  version = shows.version;
  reads = shows.shown;
  all = λ m v is. absurd (shows.no_file m v is);
  only = λ row among. absurd (in_none row among);
}

-- ---- what names and their rows show

record RowsShow (n : ℕ) (V : Vault) (X : Clouds) (names : List (List ℕ)) (rows : List FileRow) : Type 0 where
  pub version : List ℕ → Version
  pub reads : (name : List ℕ) → (Contains names name × Reads n V X name (version name)) ⊎ ((Contains names name → ⊥) × (version name ≡ Never))
  pub all : (name v : List ℕ) (m : Live) → version name ≡ Stored m v → Contains rows (record { len = m.len; name = name })
  pub only : (row : FileRow) → Contains rows row → IsRowOf (version row.name) row

same_or_not : (a b : List ℕ) → ((a ≡ b) × (bytes_eq a b ≡ true)) ⊎ ((a ≡ b → ⊥) × (bytes_eq a b ≡ false))
same_or_not a b =
    let decides = bytes_eq-Decides a b in
    elim (cases_Bool (bytes_eq a b)) [
      | inl is ↦ inl (decides.0 is, is)
      | inr not ↦ inr (λ same. (let wrong : true ≡ false = sym (decides.1 same) ∙ not in absurd cc), not)
    ]

abbrev first_or : List ℕ → Version → (List ℕ → Version) → List ℕ → Version
first_or first x others name = if bytes_eq name first then x else others name

module _ (n : ℕ) (V : Vault) (X : Clouds) (first : List ℕ) (names : List (List ℕ)) (rows later : List FileRow) (is_new : Contains names first → ⊥) (named : (row : FileRow) → Contains rows row → row.name ≡ first)
    (later_named : (row : FileRow) → Contains later row → Contains names row.name) (here : RowShows n V X first rows) (rest : RowsShow n V X names later) where
  abbrev version_of : List ℕ → Version
  version_of = first_or first here.version rest.version

  is_first : (name : List ℕ) → bytes_eq name first ≡ true → version_of name ≡ here.version
  is_first name is = ap (λ (b : Bool). if b then here.version else rest.version name) is

  is_other : (name : List ℕ) → bytes_eq name first ≡ false → version_of name ≡ rest.version name
  is_other name not = ap (λ (b : Bool). if b then here.version else rest.version name) not

  reads_name : (name : List ℕ) → (Contains (first ∷ names) name × Reads n V X name (version_of name)) ⊎ ((Contains (first ∷ names) name → ⊥) × (version_of name ≡ Never))
  reads_name name =
      elim (same_or_not name first) [
        | inl same ↦ inl (
          subst (λ (m : List ℕ). Contains (first ∷ names) m) (sym same.0) (in_first first names),
          subst (λ (x : Version). Reads n V X name x) (sym (is_first name same.1)) (subst (λ (m : List ℕ). Reads n V X m here.version) (sym same.0) here.reads),
        )
        | inr differ ↦
            elim (rest.reads name) [
              | inl among ↦ inl (in_rest first name names among.0, subst (λ (x : Version). Reads n V X name x) (sym (is_other name differ.1)) among.1)
              | inr never ↦ inr (
                λ among. elim (first_or_rest first name names among) [ inl same ↦ differ.0 same | inr later ↦ never.0 later ],
                is_other name differ.1 ∙ never.1,
              )
            ]
      ]

  all_rows : (name v : List ℕ) (m : Live) → version_of name ≡ Stored m v → Contains (rows ++ later) (record { len = m.len; name = name })
  all_rows name v m is =
      elim (same_or_not name first) [
        | inl same ↦
            subst (λ (of : List ℕ). Contains (rows ++ later) (record { len = m.len; name = of })) (sym same.0)
            (Contains-append_left rows later (record { len = m.len; name = first }) (here.all m v (sym (is_first name same.1) ∙ is)))
        | inr differ ↦ Contains-append_right rows later (record { len = m.len; name = name }) (rest.all name v m (sym (is_other name differ.1) ∙ is))
      ]

  only_rows : (row : FileRow) → Contains (rows ++ later) row → IsRowOf (version_of row.name) row
  only_rows row among =
      elim (Contains-append_cases rows later row among) [
        | inl early ↦ subst (λ (x : Version). IsRowOf x row) (sym (is_first row.name ((bytes_eq-Decides row.name first).1 (named row early)))) (here.only row early)
        | inr late ↦ elim (same_or_not row.name first) [
          | inl same ↦ absurd (is_new (subst (λ (m : List ℕ). Contains names m) same.0 (later_named row late)))
          | inr differ ↦ subst (λ (x : Version). IsRowOf x row) (sym (is_other row.name differ.1)) (rest.only row late)
        ]
      ]

  rows_then : RowsShow n V X (first ∷ names) (rows ++ later)
  rows_then = record { version = version_of; reads = reads_name; all = all_rows; only = only_rows }

show_nothing : (n : ℕ) (V : Vault) (X : Clouds) → RowsShow n V X [] []
show_nothing n V X = record {
  version = λ name. Never;
  reads = λ name. inr (λ among. in_none name among, refl);
  all = λ name v m is. absurd cc;
  only = λ row among. absurd (in_none row among);
}

rows_show : (n : ℕ) (V : Vault) (X : Clouds) (names : List (List ℕ)) (lens : List (Option ℕ)) → AreSortedNames names → length lens ≡ length names
    → ((i : ℕ) → i < length names → LenShows n V X (slice_index_or names i []) (slice_index_or lens i None)) → RowsShow n V X names (rows_of names lens)
rows_show n V X [] lens sorted long each = show_nothing n V X
rows_show n V X (name ∷ names) [] sorted long each = absurd (omega (arith, long))
rows_show n V X (name ∷ names) (len ∷ lens) sorted long each =
    rows_then n V X name names (row_of name len) (rows_of names lens) (first_is_new name names sorted) (row_named name len) (rows_named names lens)
    (row_shows n V X name len (each 0 (omega arith)))
    (rows_show n V X names lens (rest_sorted name names sorted) (omega (arith, long)) (λ i l. each (suc i) (omega (arith, l))))

-- ---- the list

none_at : (F : Contents) (c : ℕ) (place : Key) → (IsSome (F c place) → ⊥) → F c place ≡ None
none_at F c place not = none_by (F c place) not
  where
    none_by : (o : Option (List ℕ)) → (IsSome o → ⊥) → o ≡ None
    none_by None not = refl
    none_by (Some bytes) not = absurd (not refl)

unlisted : (n : ℕ) (F : Contents) (P X : Clouds) (names : List (List ℕ)) (name : List ℕ) → AreNamesOutside n F P names → HasAll n P X → (Contains names name → ⊥) → UnlistedOutside n F X name
unlisted n F P X names name listed has out = record {
  none = λ c place low fine is. none_at F c place (λ some.
      let apart : P c ≡ false = elim (cases_Bool (P c)) [
        | inl within ↦ let wrong : true ≡ false = sym (has.each c low within) ∙ fine in absurd cc
        | inr other ↦ other
      ] in
      out (subst (λ (m : List ℕ). Contains names m) is (listed.all c place low apart some)));
}

-- the rows of all names are the list of all files
pub reads_list : (n : ℕ) (F : Contents) (S : Entries) (D P X : Clouds) (names : List (List ℕ)) (lens : List (Option ℕ)) → Stands n F S D → AreBearable n D X → HasAll n P X
    → AreNamesOutside n F P names → All IsName names → AreSortedNames names → length lens ≡ length names
    → ((i : ℕ) → i < length names → LenShows n (record { contents = F; entries = S; damaged = D }) X (slice_index_or names i []) (slice_index_or lens i None))
    → ReadsList n (record { contents = F; entries = S; damaged = D }) X (rows_of names lens)
reads_list n F S D P X names lens stands few has listed valid sorted long each =
    let V : Vault = record { contents = F; entries = S; damaged = D } in
    let shown = rows_show n V X names lens sorted long each in
    record {
      version = λ name is. shown.version name;
      shown = λ name is.
          elim (shown.reads name) [
            | inl among ↦ among.1
            | inr never ↦ subst (λ (x : Version). Reads n V X name x) (sym never.1) (unlisted_is_shown n F S D X name is stands few (unlisted n F P X names name listed has never.0))
          ];
      all = λ name v m is stored. shown.all name v m stored;
      only = λ row among.
          let r = shown.only row among in
          (All-contains IsName names row.name valid (rows_named names lens row among), r.meta, r.v, r.is, r.len_is);
      sorted = rows_sorted names lens sorted;
    }
