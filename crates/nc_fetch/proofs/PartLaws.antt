-- What a part that came back, or didn't, shows of contents that stand.
use Rattle.std.proofs.Common.{◌≡◌, ◌<◌, ◌≤◌, ◌+◌, ◌-◌, ℕ, zero, suc, Bool, true, false, if◌then◌else◌, ◌||◌, Option, None, Some, List, option_to_list, length, length-append, All, Ok, Err, refl, sym, ap, ◌∙◌, subst, arith}
use Rattle.nc_cloud.specs.Contents.{Rose}
use Rattle.nc_cloud.specs.Rounds.{some_row}
use Rattle.nc_cloud.specs.declared.fleet.Fleet.{Ghosts as FleetGhosts}
use Rattle.nc_cloud.proofs.SomeRows.{some_more}
use Rattle.nc_meta.specs.declared.meta.Live.{Live}
use Rattle.nc_state.specs.Clouds.{Clouds, count_of}
use Rattle.nc_state.specs.Showing.{AreBearable, together}
use Rattle.nc_state.specs.Right.{PlacesStand}
use Rattle.nc_state.specs.Standing.{Entries}
use Rattle.nc_state.specs.Versions.{IsValidFor}
use Rattle.nc_state.specs.Versions.Version.{Stored}
use Rattle.nc_download.specs.declared.short.Why.{Why}
use Rattle.nc_download.specs.declared.short.Why.TheVariants.{Failed, Row}
use Rattle.nc_fetch.specs.declared.parts.PartFault.{PartFault}
use Rattle.nc_fetch.specs.declared.parts.PartFault.TheVariants.{Short, Memory}
use Rattle.nc_download.specs.Finding.{HasRisen}
use Rattle.nc_download.specs.FindingOnVaults.{HasAll}
use Rattle.nc_fetch.specs.Parts.{AreMarkedFailed, ComesBackFrom, LacksFor}
use Rattle.nc_fetch.specs.PartsOnVaults.{PartShows, StandsBy}
use Rattle.nc_download.specs.Clouds.{HoldsChunksOf}
use Rattle.nc_fetch.specs.Trying.{IsTried, IsWhy, Outcome, TriedBetween}
use Rattle.nc_fetch.specs.Whys.{AreMarkedWith, bad_with, free, free_at, is_fine, why_at}
use Rattle.nc_download.proofs.ChunkLaws.{bad_is_damaged, good_holds}
use Rattle.nc_fetch.proofs.BatchLaws.{one_length}
use Rattle.nc_fetch.proofs.SomeLists.{some_all_of}

-- ---- how many are bad

pub bad_length : (c : ℕ) (why : Option Why) → length (option_to_list (bad_with c why)) ≡ (if is_fine why then 0 else 1)
bad_length c None = refl
bad_length c (Some why) = refl

both_step : (b : Bool) (x y n : ℕ) → x + y ≡ n → (x + (if b then 1 else 0)) + (y + (if b then 0 else 1)) ≡ n + 1
both_step true x y n e = omega (arith, e)
both_step false x y n e = omega (arith, e)

-- each cloud is free or bad
pub counted : (whys : List (Option Why)) (n : ℕ) → length (some_row (free_at whys) 0 n) + length (some_row (λ c. bad_with c (why_at whys c)) 0 n) ≡ n
counted whys zero = refl
counted whys (suc n) =
    let next : suc n ≡ n + 1 = omega arith in
    let free_more : length (some_row (free_at whys) 0 (n + 1)) ≡ length (some_row (free_at whys) 0 n) + (if is_fine (why_at whys n) then 1 else 0) =
    ap length (some_more (free_at whys) n) ∙ length-append (some_row (free_at whys) 0 n) (option_to_list (free_at whys n)) ∙ ap (λ k. length (some_row (free_at whys) 0 n) + k) (one_length n (is_fine (why_at whys n))) in
    let bad_more : length (some_row (λ c. bad_with c (why_at whys c)) 0 (n + 1)) ≡ length (some_row (λ c. bad_with c (why_at whys c)) 0 n) + (if is_fine (why_at whys n) then 0 else 1) =
    ap length (some_more (λ c. bad_with c (why_at whys c)) n) ∙ length-append (some_row (λ c. bad_with c (why_at whys c)) 0 n) (option_to_list (bad_with n (why_at whys n)))
    ∙ ap (λ k. length (some_row (λ c. bad_with c (why_at whys c)) 0 n) + k) (bad_length n (why_at whys n)) in
    let step = both_step (is_fine (why_at whys n)) _ _ n (counted whys n) in
    let at_next : length (some_row (free_at whys) 0 (n + 1)) + length (some_row (λ c. bad_with c (why_at whys c)) 0 (n + 1)) ≡ n + 1 =
    ap (λ k. k + length (some_row (λ c. bad_with c (why_at whys c)) 0 (n + 1))) free_more ∙ ap (λ k. (length (some_row (free_at whys) 0 n) + (if is_fine (why_at whys n) then 1 else 0)) + k) bad_more ∙ step in
    subst (λ k. length (some_row (free_at whys) 0 k) + length (some_row (λ c. bad_with c (why_at whys c)) 0 k) ≡ k) (sym next) at_next

count_step : (w : Option Why) (e : Bool) (x y : ℕ) → ((why : Why) → w ≡ Some why → e ≡ true) → x ≤ y → x + (if is_fine w then 0 else 1) ≤ (if e then 1 else 0) + y
count_step None true x y bad l = omega (arith, l)
count_step None false x y bad l = omega (arith, l)
count_step (Some why) true x y bad l = omega (arith, l)
count_step (Some why) false x y bad l = let e : false ≡ true = bad why refl in absurd cc

-- where all that are bad are of E, they aren't more
pub bads_counted : (whys : List (Option Why)) (E : Clouds) (n : ℕ) → ((c : ℕ) (why : Why) → c < n → why_at whys c ≡ Some why → E c ≡ true) → length (some_row (λ c. bad_with c (why_at whys c)) 0 n) ≤ count_of n E
bads_counted whys E zero bad = omega arith
bads_counted whys E (suc n) bad =
    let next : suc n ≡ n + 1 = omega arith in
    let more : length (some_row (λ c. bad_with c (why_at whys c)) 0 (n + 1)) ≡ length (some_row (λ c. bad_with c (why_at whys c)) 0 n) + (if is_fine (why_at whys n) then 0 else 1) =
    ap length (some_more (λ c. bad_with c (why_at whys c)) n) ∙ length-append (some_row (λ c. bad_with c (why_at whys c)) 0 n) (option_to_list (bad_with n (why_at whys n)))
    ∙ ap (λ k. length (some_row (λ c. bad_with c (why_at whys c)) 0 n) + k) (bad_length n (why_at whys n)) in
    let step = count_step (why_at whys n) (E n) _ _ (λ why e. bad n why (omega arith) e) (bads_counted whys E n (λ c why l e. bad c why (omega (arith, l)) e)) in
    subst (λ k. length (some_row (λ c. bad_with c (why_at whys c)) 0 k) ≤ count_of (suc n) E) (sym next) (omega (arith, more, step))

-- ---- a version that stands

free_is : (c x : ℕ) (why : Option Why) → (if is_fine why then Some c else None) ≡ Some x → (c ≡ x) × (why ≡ None)
free_is c x None e = (cc, refl)
free_is c x (Some why) e = absurd cc

module _ {A : Type 0} (F : FleetGhosts A) (name : List ℕ) (m : Live) (old new : A) (before whys : List (Option Why)) where
  -- a cloud that isn't bad now wasn't bad before
  pub fine_before : (b c : ℕ) → c < F.clouds old → TriedBetween F name m old new 0 b before whys → why_at whys c ≡ None → (w : Option Why) → why_at before c ≡ w → w ≡ None
  fine_before b c l tried fine None is = refl
  fine_before b c l tried fine (Some why) is =
      let out : IsTried before 0 b c → ⊥ = λ t. let no : None ≡ Some why = sym t.fine ∙ is in cc in
      let no : None ≡ Some why = sym fine ∙ tried.same c l out ∙ is in
      absurd cc

  module _ (told : F.tells) (D : Clouds) (v : List ℕ) (valid : IsValidFor (F.clouds old) m v) (places : PlacesStand (F.clouds old) (F.held old) D name (Stored m v)) where
    holds_chunks : (b c : ℕ) → b ≤ F.clouds old → c < b → TriedBetween F name m old new 0 b before whys → why_at whys c ≡ None → HoldsChunksOf (F.clouds old) name m v (F.held old) c
    holds_chunks b c high l tried fine =
        let within : c < F.clouds old = omega (arith, l, high) in
        let is : IsTried before 0 b c = record { from = omega arith; below = l; fine = fine_before b c within tried fine (why_at before c) refl } in
        let outcome = subst (Outcome F name m old new c) fine (tried.tried c within is) in
        good_holds (F.clouds old) name m v (F.held old) D valid places c within (outcome.0 told)

    -- what each file is that these clouds hold is that version
    pub is_version : (file : List ℕ) (up_to : ℕ) → up_to ≤ F.clouds old → TriedBetween F name m old new 0 up_to before whys → (All (HoldsChunksOf (F.clouds old) name m v (F.held old)) (free whys 0 up_to) → file ≡ v) → file ≡ v
    is_version file up_to high tried is =
        is (some_all_of (HoldsChunksOf (F.clouds old) name m v (F.held old)) (free_at whys) 0 (up_to - 0) (λ c x low l e.
        let here = free_is c x (why_at whys c) e in
        let below : c < up_to = omega (arith, l) in
        subst (HoldsChunksOf (F.clouds old) name m v (F.held old)) here.0 (holds_chunks up_to c high below tried here.1)))

    -- of E are the clouds that were marked, the damaged ones, and those of which a count rose
    module _ (mark : Why) (P E : Clouds) (marked : AreMarkedWith mark (F.clouds old) P before) (of_marked : (c : ℕ) → c < F.clouds old → P c ≡ true → E c ≡ true) (of_damaged : (c : ℕ) → c < F.clouds old → D c ≡ true → E c ≡ true)
        (of_risen : (c : ℕ) → c < F.clouds old → Rose (F.faults old c) (F.faults new c) → E c ≡ true) where
      bad_by : (c : ℕ) (why : Why) → c < F.clouds old → IsWhy F name m old new c why → E c ≡ true
      bad_by c Failed l rose = of_risen c l rose
      bad_by c (Row r how) l is = of_damaged c l (bad_is_damaged (F.clouds old) name m v (F.held old) D valid places c r how l (is told))

      marked_by : (c : ℕ) (b : Bool) (why : Why) → P c ≡ b → (if b then Some mark else None) ≡ Some why → P c ≡ true
      marked_by c true why is e = is
      marked_by c false why is e = absurd cc

      -- so are those that are bad
      pub bad_among : (b c : ℕ) (why : Why) → c < F.clouds old → c < b → TriedBetween F name m old new 0 b before whys → why_at whys c ≡ Some why → (w : Option Why) → why_at before c ≡ w → E c ≡ true
      bad_among b c why l below tried bad None is =
          let outcome = subst (Outcome F name m old new c) bad (tried.tried c l (record { from = omega arith; below = below; fine = is })) in
          bad_by c why l outcome.0
      bad_among b c why l below tried bad (Some first) is = of_marked c l (marked_by c (P c) first refl (sym (marked.each c l) ∙ is))

      -- they are more than two where too few clouds are good
      pub not_too_few : TriedBetween F name m old new 0 (F.clouds old) before whys → length (free whys 0 (F.clouds old)) + 2 < F.clouds old → count_of (F.clouds old) E ≤ 2 → ⊥
      not_too_few tried few bearable =
          let whole : F.clouds old - 0 ≡ F.clouds old = omega arith in
          let free_is_whole : length (free whys 0 (F.clouds old)) ≡ length (some_row (free_at whys) 0 (F.clouds old)) = ap (λ k. length (some_row (free_at whys) 0 k)) whole in
          omega (arith, free_is_whole, few, bearable, counted whys (F.clouds old), bads_counted whys E (F.clouds old) (λ c why l e. bad_among (F.clouds old) c why l l tried e (why_at before c) refl))

-- ---- clouds that had failed were marked

or_first : (a b : Bool) → a ≡ true → (a || b) ≡ true
or_first true b e = refl
or_first false b e = absurd cc

or_second : (a b : Bool) → b ≡ true → (a || b) ≡ true
or_second true b e = refl
or_second false b e = e

module _ {A : Type 0} (F : FleetGhosts A) (name : List ℕ) (m : Live) (old new : A) (P X : Clouds) (told : F.tells) (has : HasAll (F.clouds old) P X) (risen : HasRisen F old new X)
    (S : Entries) (D : Clouds) (bytes : List ℕ) (by : StandsBy (F.clouds old) (record { contents = F.held old; entries = S; damaged = D }) name m bytes)
    (before whys : List (Option Why)) (marked : AreMarkedFailed (F.clouds old) P before) where
  are_marked : AreMarkedWith Failed (F.clouds old) P before
  are_marked = record { each = marked.each }

  pub bad_cloud : (b c : ℕ) (why : Why) → c < F.clouds old → c < b → TriedBetween F name m old new 0 b before whys → why_at whys c ≡ Some why → together D X c ≡ true
  bad_cloud b c why l below tried bad =
      bad_among F name m old new before whys told D bytes by.valid by.places Failed P (together D X) are_marked (λ d low is. or_second (D d) (X d) (has.each d low is)) (λ d low is. or_first (D d) (X d) is)
      (λ d low rose. or_second (D d) (X d) (risen.each d low rose)) b c why l below tried bad (why_at before c) refl

  pub enough_serve : TriedBetween F name m old new 0 (F.clouds old) before whys → length (free whys 0 (F.clouds old)) + 2 < F.clouds old → AreBearable (F.clouds old) D X → ⊥
  enough_serve =
      not_too_few F name m old new before whys told D bytes by.valid by.places Failed P (together D X) are_marked (λ d low is. or_second (D d) (X d) (has.each d low is)) (λ d low is. or_first (D d) (X d) is)
      (λ d low rose. or_second (D d) (X d) (risen.each d low rose))

-- ---- all answers

module _ {A : Type 0} (F : FleetGhosts A) (name : List ℕ) (m : Live) (old new : A) (P : Clouds) (told : F.tells) where
  pub part_shows : (part : List ℕ) → ComesBackFrom F name m old new P part → PartShows F name m P old new (Ok part)
  part_shows part comes = record {
    each = λ X has risen. record {
      each = λ S D stands bytes by.
          is_version F name m old new comes.before comes.whys told D bytes by.valid by.places part comes.up_to comes.within comes.tried
          (λ chunks. comes.is_file told bytes by.valid.bytes (sym by.valid.len) chunks);
    };
  }

  pub lacks_shows : (fault : PartFault) → LacksFor F name m old new P fault → PartShows F name m P old new (Err fault)
  lacks_shows (Short list) lacks = record {
    each = λ X has risen. record {
      each = λ S D stands bytes by bearable. enough_serve F name m old new P X told has risen S D bytes by lacks.before lacks.whys lacks.marked lacks.tried lacks.few bearable;
    };
  }
  lacks_shows Memory lacks = record { each = λ X has risen. record { each = λ S D stands. tt } }
