-- How many chunks a repair reads, and what stops it.
use Rattle.std.proofs.Common.{◌≡◌, ◌≢◌, ◌<◌, ◌≤◌, ◌+◌, ◌-◌, ◌&&◌, ℕ, Bool, true, false, if◌then◌else◌, List, [], get_or, length, inl, inr, refl, sym, ap, ◌∙◌, subst, arith}
use Rattle.std.proofs.lemmas.Bool.{cases_lt}
use Rattle.std.proofs.lemmas.Bool.Decides.{eqb_tells}
use Rattle.std.proofs.lemmas.List.{get_or_default}
use Rattle.nc_name.specs.declared.key.Key.{Key}
use Rattle.nc_code.specs.Parts.{PlanParts}
use Rattle.nc_cloud.specs.declared.fleet.Ask.{Ask}
use Rattle.nc_cloud.specs.Contents.{Contents}
use Rattle.nc_cloud.specs.Fleet.{Shows, asked, chunks_got, is_bytes, is_chunk}
use Rattle.nc_cloud.proofs.Rounds.{row_at}
use Rattle.nc_meta.specs.declared.meta.Live.{Live}
use Rattle.nc_download.specs.Clouds.{IsGoodRow}
use Rattle.nc_download.proofs.GotLaws.{none_got, one_got}
use Rattle.nc_repair.specs.declared.fault.RepairFault.{RepairFault}
use Rattle.nc_repair.specs.declared.fault.RepairFault.TheVariants as fault
use Rattle.nc_repair.specs.Asking.{AreAnswers, AreSurvivorAsks, survivor_ask}
use Rattle.nc_repair.specs.Giving.{GaveChunks, GaveFirst, StopsMending}
use Rattle.nc_mix.specs.Regenerating.{survivor}
use Rattle.nc_repair.specs.Repairing.{GoodBelow, IsLeastDamaged, StopsRepair, fetched_of}
use Rattle.nc_repair.specs.Survivors.{chosen_row}
use Rattle.nc_repair.proofs.AskingLaws.{asks_ascend, survivor_below, survivor_cases, survivors_rise}
use Rattle.nc_repair.proofs.GivingLaws.{asks_long, no_entry}

survivor_other : (lost k : ℕ) → survivor lost k ≢ lost
survivor_other lost k e = elim (survivor_cases lost k) [
  | inl low ↦ let under : k < lost = low.0 in let is : k ≡ lost = sym low.1 ∙ e in absurd (omega (arith, under, is))
  | inr high ↦ let over : lost ≤ k = high.0 in let is : k + 1 ≡ lost = sym high.1 ∙ e in absurd (omega (arith, over, is))
]

-- each cloud but the lost one is a survivor
position : (n lost c : ℕ) → lost < n → c < n → c ≢ lost → (k : ℕ) × (k < n - 1) × (survivor lost k ≡ c)
position n lost c low l other = elim (cases_lt c lost) [
  | inl under ↦ (
    c,
    omega (arith, under, low),
    elim (survivor_cases lost c) [
      | inl below ↦ below.1
      | inr above ↦ let over : lost ≤ c = above.0 in absurd (omega (arith, under, over))
    ],
  )
  | inr over ↦
      let past : lost < c = omega (arith, over, other) in (
        c - 1,
        omega (arith, past, l),
        elim (survivor_cases lost (c - 1)) [
          | inl below ↦ let under : c - 1 < lost = below.0 in absurd (omega (arith, past, under))
          | inr above ↦ above.1 ∙ omega (arith, past)
        ],
      )
]

one_at_most : (b : Bool) → (if b then 1 else 0) ≤ 1
one_at_most true = omega arith
one_at_most false = omega arith

module _ (n : ℕ) (name : List ℕ) (m : Live) (plan : PlanParts) (lost : ℕ) (asks : List Ask) (are : AreSurvivorAsks n name m plan lost asks) where
  pub entry_at : (k : ℕ) → k < n - 1 → (d : Ask) → asked (get_or asks k d) ≡ survivor_ask n name m plan lost k
  entry_at k l d = row_at asked (survivor_ask n name m plan lost) (n - 1) asks are.are k l d

  pub within_asks : (k : ℕ) → k < n - 1 → k < length asks
  within_asks k l = let long : length asks ≡ n - 1 = asks_long n name m plan lost asks are in omega (arith, l, long)

  -- ---- one chunk of each survivor

  -- what the entry of the survivor at a position counts
  position_got : (k : ℕ) → k < n - 1 → chunks_got (survivor lost k) asks ≡ (if is_bytes (get_or asks k no_entry).answer then 1 else 0)
  position_got k l =
      let x : Ask = get_or asks k no_entry in
      let there : x.cloud ≡ survivor lost k = ap (λ (y : ℕ × Key × ℕ). y.0) (entry_at k l no_entry) in
      let chunk : is_chunk x.key ≡ true = ap (λ (y : ℕ × Key × ℕ). is_chunk y.1) (entry_at k l no_entry) in
      one_got (survivor lost k) asks x (asks_ascend n name m plan lost asks are).rising (k, within_asks k l, get_or_default asks k x no_entry (within_asks k l)) there
      ∙ ap (λ (b : Bool). if b && is_bytes x.answer then 1 else 0) chunk

  lost_got : chunks_got lost asks ≡ 0
  lost_got =
      none_got lost asks (λ k d l same.
      let within : k < n - 1 = let long : length asks ≡ n - 1 = asks_long n name m plan lost asks are in omega (arith, l, long) in
      survivor_other lost k (sym (ap (λ (y : ℕ × Key × ℕ). y.0) (entry_at k within d)) ∙ same))

  pub got_each : (chunks : List (List ℕ)) → GaveChunks n name m plan lost asks chunks → lost < n → (c : ℕ) → c < n → chunks_got c asks ≡ fetched_of lost c
  got_each chunks gave low c l = elim (eqb_tells c lost) [
    | inl here ↦ ap (λ k. chunks_got k asks) here.1 ∙ lost_got ∙ sym (ap (λ (b : Bool). if b then 0 else 1) here.0)
    | inr other ↦
        let p = position n lost c low l other.1 in
        ap (λ k. chunks_got k asks) (sym p.2) ∙ position_got p.0 p.1 ∙ ap (λ (b : Bool). if b then 1 else 0) (gave.gave.each p.0 p.1 no_entry).given
        ∙ sym (ap (λ (b : Bool). if b then 0 else 1) other.0)
  ]

  -- and no more in any case
  pub got_few : lost < n → (c : ℕ) → c < n → chunks_got c asks ≤ fetched_of lost c
  got_few low c l = elim (eqb_tells c lost) [
    | inl here ↦ subst (λ k. k ≤ fetched_of lost c) (sym (ap (λ k. chunks_got k asks) here.1 ∙ lost_got)) (omega arith)
    | inr other ↦
        let p = position n lost c low l other.1 in
        subst (λ k. chunks_got c asks ≤ k) (sym (ap (λ (b : Bool). if b then 0 else 1) other.0))
        (subst (λ k. k ≤ 1) (sym (ap (λ k. chunks_got k asks) (sym p.2) ∙ position_got p.0 p.1)) (one_at_most (is_bytes (get_or asks p.0 no_entry).answer)))
  ]

  -- ---- what stops it

  module _ (F : Contents) (told : AreAnswers asks F) (low : lost < n) where
    shows : (k : ℕ) → k < n - 1 → Shows (get_or asks k no_entry).answer (survivor_ask n name m plan lost k).2 (F (survivor_ask n name m plan lost k).0 (survivor_ask n name m plan lost k).1)
    shows k l = subst (λ (y : ℕ × Key × ℕ). Shows (get_or asks k no_entry).answer y.2 (F y.0 y.1)) (entry_at k l no_entry) (told k no_entry (within_asks k l))

    good_at : (at : ℕ) (chunks : List (List ℕ)) → GaveFirst n name m plan lost asks at chunks → (k : ℕ) → k < n - 1 → k < at → (payload : List ℕ) × IsGoodRow n name m F (survivor lost k) (chosen_row plan (survivor lost k)) payload
    good_at at chunks gave k l under = (get_or chunks k [], (gave.each k under no_entry).verdict _ (shows k l))

    good_on : (k t : ℕ) → survivor lost k ≡ t → (payload : List ℕ) × IsGoodRow n name m F (survivor lost k) (chosen_row plan (survivor lost k)) payload → (payload : List ℕ) × IsGoodRow n name m F t (chosen_row plan t) payload
    good_on k t is good = subst (λ c. (payload : List ℕ) × IsGoodRow n name m F c (chosen_row plan c) payload) is good

    good_below : (at : ℕ) (chunks : List (List ℕ)) → GaveFirst n name m plan lost asks at chunks → GoodBelow n name m plan lost F (survivor lost at)
    good_below at chunks gave = record {
      each = λ t under l other.
          let p = position n lost t low l other in
          elim (cases_lt p.0 at) [
            | inl before ↦ good_on p.0 t p.2 (good_at at chunks gave p.0 p.1 before)
            | inr after ↦ elim (cases_lt at p.0) [
              | inl later ↦
                  let rising : survivor lost at < survivor lost p.0 = survivors_rise lost at p.0 later in
                  let higher : survivor lost at < t = subst (λ c. survivor lost at < c) p.2 rising in
                  absurd (omega (arith, higher, under))
              | inr level ↦
                  let same : at ≡ p.0 = omega (arith, after, level) in
                  let here : survivor lost at ≡ t = ap (survivor lost) same ∙ p.2 in
                  absurd (omega (arith, here, under))
            ]
          ];
    }

    pub all_good : (chunks : List (List ℕ)) → GaveChunks n name m plan lost asks chunks → (c : ℕ) → GoodBelow n name m plan lost F c
    all_good chunks gave c = record {
      each = λ t under l other. let p = position n lost t low l other in good_on p.0 t p.2 (good_at (n - 1) chunks gave.gave p.0 p.1 p.1);
    }

    pub stops_repair : (why : RepairFault) → StopsMending n name m plan lost asks why → StopsRepair n name m plan lost F why
    stops_repair (fault.Cloud c) stops =
        subst (GoodBelow n name m plan lost F) (sym (stops.here no_entry).1) (good_below stops.at stops.chunks stops.before)
    stops_repair (fault.Damaged c r how) stops =
        let from = stops.here no_entry in
        let within : stops.at < n - 1 = let more : stops.at + 1 < n = stops.within in omega (arith, more) in
        subst (λ k. IsLeastDamaged n name m plan lost F k r how) (sym from.0)
        (subst (λ q. IsLeastDamaged n name m plan lost F (survivor lost stops.at) q how) (sym from.1)
        (record {
          in_width = survivor_below n lost stops.at within;
          other = survivor_other lost stops.at;
          is_row = refl;
          before = good_below stops.at stops.chunks stops.before;
          here = from.2.verdict _ (shows stops.at within);
        }))
    stops_repair fault.Worn stops = absurd stops
    stops_repair fault.Memory stops = tt
