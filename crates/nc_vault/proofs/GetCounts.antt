-- Where a file comes back, at most two clouds failed.
use Rattle.std.proofs.Common.{◌≡◌, ◌≢◌, ◌≤◌, ◌<◌, ◌+◌, ◌-◌, ℕ, zero, suc, Bool, true, false, if◌then◌else◌, Option, None, Some, List, option_to_list, length, length-append, inl, inr, refl, sym, ap, ◌∙◌, subst, arith}
use Rattle.std.proofs.lemmas.Bool.{cases_lt}
use Rattle.nc_cloud.specs.Rounds.{some_row}
use Rattle.nc_cloud.specs.declared.fleet.Fleet.{Ghosts as FleetGhosts}
use Rattle.nc_cloud.proofs.SomeRows.{some_more}
use Rattle.nc_state.specs.Clouds.{Clouds, count_of}
use Rattle.nc_settle.specs.Failing.{fails}
use Rattle.nc_settle.specs.MetaWrites.{named}
use Rattle.nc_settle.proofs.Failures.{failed_at}
use Rattle.nc_download.specs.declared.short.Why.{Why}
use Rattle.nc_download.specs.declared.short.Why.TheVariants.{Failed}
use Rattle.nc_fetch.specs.Fetching.{ComesBack}
use Rattle.nc_fetch.specs.Trying.{IsTried}
use Rattle.nc_fetch.specs.Whys.{bad_with, free, free_at, is_fine, why_at}
use Rattle.nc_fetch.proofs.PartLaws.{bad_length, counted}
use Rattle.nc_words.specs.declared.act.Act.{Act}
use Rattle.nc_vault.specs.Counting.{failed_in, lists}
use Rattle.nc_vault.proofs.SeenLaws.{unmoved}

-- ---- how many clouds failed

reach_step : (w : Option Why) (e : Bool) (x y : ℕ) → (e ≡ true → w ≢ None) → x ≤ y → (if e then 1 else 0) + x ≤ y + (if is_fine w then 0 else 1)
reach_step None true x y bad l = absurd (bad refl refl)
reach_step None false x y bad l = omega (arith, l)
reach_step (Some why) true x y bad l = omega (arith, l)
reach_step (Some why) false x y bad l = omega (arith, l)

-- of the first k clouds no more are of E than were found bad, where all of E were
bads_reach : (whys : List (Option Why)) (E : Clouds) (k : ℕ) → ((c : ℕ) → c < k → E c ≡ true → why_at whys c ≢ None) → count_of k E ≤ length (some_row (λ c. bad_with c (why_at whys c)) 0 k)
bads_reach whys E zero bad = omega arith
bads_reach whys E (suc k) bad =
    let next : suc k ≡ k + 1 = omega arith in
    let more : length (some_row (λ c. bad_with c (why_at whys c)) 0 (k + 1)) ≡ length (some_row (λ c. bad_with c (why_at whys c)) 0 k) + (if is_fine (why_at whys k) then 0 else 1) =
    ap length (some_more (λ c. bad_with c (why_at whys c)) k) ∙ length-append (some_row (λ c. bad_with c (why_at whys c)) 0 k) (option_to_list (bad_with k (why_at whys k)))
    ∙ ap (λ j. length (some_row (λ c. bad_with c (why_at whys c)) 0 k) + j) (bad_length k (why_at whys k)) in
    let step = reach_step (why_at whys k) (E k) (count_of k E) (length (some_row (λ c. bad_with c (why_at whys c)) 0 k)) (bad k (omega arith)) (bads_reach whys E k (λ c l. bad c (omega (arith, l)))) in
    subst (λ j. count_of (suc k) E ≤ length (some_row (λ c. bad_with c (why_at whys c)) 0 j)) (sym next) (omega (arith, more, step))

one_more : (b : Bool) (x y : ℕ) → x ≤ y → (if b then 1 else 0) + x ≤ y + 1
one_more true x y l = omega (arith, l)
one_more false x y l = omega (arith, l)

-- each cloud past the first k counts at most once
count_past : (E : Clouds) (k n : ℕ) → k ≤ n → count_of n E ≤ count_of k E + (n - k)
count_past E k zero l = let none : k ≡ 0 = omega (arith, l) in subst (λ (j : ℕ). count_of 0 E ≤ count_of j E + (0 - j)) (sym none) (omega arith)
count_past E k (suc n) l =
    elim (cases_lt n k) [
      | inl all ↦ let same : k ≡ suc n = omega (arith, l, all) in subst (λ (j : ℕ). count_of (suc n) E ≤ count_of j E + (suc n - j)) (sym same) (omega arith)
      | inr past ↦
          let step = one_more (E n) (count_of n E) (count_of k E + (n - k)) (count_past E k n past) in
          let gap : suc n - k ≡ (n - k) + 1 = omega (arith, past) in
          omega (arith, step, gap)
    ]

-- ---- a file that came back

not_marked : (b : Bool) → (if b then Some Failed else None) ≡ None → b ≡ false
not_marked true is = absurd cc
not_marked false is = refl

module _ {A : Type 0} (F : FleetGhosts A) (a : Act) (alone : lists a ≡ false) (name : List ℕ) (old new : A) (file : List ℕ) (back : ComesBack F name old new file) (exact : F.counts_exactly) where
  abbrev whys : List (Option Why)
  whys = back.comes.whys

  abbrev before : List (Option Why)
  before = back.comes.before

  was_fine : (c : ℕ) → c < F.clouds back.mid → why_at whys c ≡ None → (w : Option Why) → why_at before c ≡ w → w ≡ None
  was_fine c l fine None is = refl
  was_fine c l fine (Some why) is =
      let out : IsTried before 0 back.comes.up_to c → ⊥ = λ t. let no : None ≡ Some why = sym t.fine ∙ is in cc in
      let no : None ≡ Some why = sym fine ∙ back.comes.tried.same c l out ∙ is in
      absurd cc

  -- the count of a cloud that wasn't found bad is as it was
  fine_stays : (c : ℕ) → c < F.clouds old → why_at whys c ≡ None → F.faults new c ≡ F.faults old c
  fine_stays c l fine =
      let low : c < F.clouds back.mid = omega (arith, l, back.sought.looked.clouds) in
      let later : F.faults new c ≡ F.faults back.mid c = (back.comes.alone exact).each c low (λ failed. let no : None ≡ Some Failed = sym fine ∙ failed in cc) in
      let unmarked : named back.failed c ≡ false = not_marked (named back.failed c) (sym (back.comes.marked.each c low) ∙ was_fine c low fine (why_at before c) refl) in
      let unfailed : fails back.sought.seen.view c ≡ false = sym (back.sought.names.each c (omega (arith, l, back.sought.seen.width.first))) ∙ unmarked in
      later ∙ (back.sought.seen.only exact).each c (λ slot within failed. let wrong : true ≡ false = sym (failed_at back.sought.seen.view c slot within failed) ∙ unfailed in cc)

  pub came_few : count_of (F.clouds old) (failed_in F a old new) ≤ 2
  came_few =
      let E : Clouds = failed_in F a old new in
      let within : back.comes.up_to ≤ F.clouds old = let low = back.comes.within in omega (arith, low, back.sought.looked.clouds) in
      let bad : (c : ℕ) → c < back.comes.up_to → E c ≡ true → why_at whys c ≢ None =
      λ c l did fine. let no : true ≡ false = sym did ∙ unmoved F a alone old new c (fine_stays c (omega (arith, l, within)) fine) in cc in
      let whole : back.comes.up_to - 0 ≡ back.comes.up_to = omega arith in
      let free_is_whole : length (free whys 0 back.comes.up_to) ≡ length (some_row (free_at whys) 0 back.comes.up_to) = ap (λ k. length (some_row (free_at whys) 0 k)) whole in
      omega (arith, within, free_is_whole, back.comes.enough, back.sought.looked.clouds, counted whys back.comes.up_to, bads_reach whys E back.comes.up_to bad, count_past E back.comes.up_to (F.clouds old) within)
