-- What the survivors gave, one after the other.
use Rattle.std.proofs.Common.{◌≡◌, ◌<◌, ◌+◌, ◌-◌, ◌∷◌, ℕ, true, Result, Ok, Err, IfOk, List, [], map, length, length-drop, drop, remove, get_or, refl, sym, ap, ◌∙◌, subst, arith}
use Rattle.std.proofs.lemmas.List.{drop_more, length-map}
use Rattle.nc_name.specs.declared.blob.Memory.{Memory}
use Rattle.nc_code.specs.Parts.{PlanParts}
use Rattle.nc_name.specs.declared.key.Key.TheVariants as key
use Rattle.nc_cloud.specs.declared.fleet.Answer.{Answer}
use Rattle.nc_cloud.specs.declared.fleet.Answer.TheVariants as answer
use Rattle.nc_cloud.specs.declared.fleet.Ask.{Ask}
use Rattle.nc_cloud.specs.Fleet.{asked}
use Rattle.nc_cloud.proofs.Rounds.{length-row}
use Rattle.nc_meta.specs.declared.meta.Live.{Live}
use Rattle.nc_download.specs.declared.judging.Wanted.{Wanted}
use Rattle.nc_download.specs.declared.short.Why.TheVariants.{Failed, Row}
use Rattle.nc_fetch.specs.declared.founds.Found.{Found}
use Rattle.nc_fetch.specs.declared.founds.Found.TheVariants.{Unasked, Good, Bad}
use Rattle.nc_fetch.specs.declared.seats.Seat.{Seat}
use Rattle.nc_fetch.specs.Founds.{is_asked, FoundFrom, GivesGood}
use Rattle.nc_fetch.specs.Seats.{seat_of, AllJudged, IsJudgedSeat}
use Rattle.nc_fetch.proofs.Growing.{push_more}
use Rattle.nc_fetch.proofs.SeatLaws.{judged_front}
use Rattle.nc_repair.specs.declared.fault.RepairFault.{RepairFault}
use Rattle.nc_repair.specs.declared.fault.RepairFault.TheVariants as fault
use Rattle.nc_repair.specs.Asking.{AreSurvivorAsks, chosen_of, survivor_ask}
use Rattle.nc_repair.specs.Giving.{AddsGiven, GaveChunks, GaveFirst, IsFaultBy, IsFaultOf, StopsAt, StopsMending}
use Rattle.nc_mix.specs.Regenerating.{survivor}
use Rattle.nc_repair.specs.Survivors.{chosen_row}
use Rattle.nc_repair.proofs.AskingLaws.{ask_cloud}

pub no_entry : Ask
no_entry = record { cloud = 0; key = key.Chunk [] 0 0; most = 0; answer = answer.Waiting }

-- a seat that was judged isn't one that wasn't asked
asked_by : (w : Wanted) (r : ℕ) (a : Answer) (found : Result Found Memory) → IfOk found (FoundFrom w r a) → IfOk found (λ f. is_asked f ≡ true)
asked_by w r a (Ok Unasked) is = absurd is
asked_by w r a (Ok (Good payload)) is = refl
asked_by w r a (Ok (Bad why)) is = refl
asked_by w r a (Err e) is = tt

pub judged_asked : (seat : Ask → Seat) (x : Seat) → ((d : Ask) → IsJudgedSeat (seat d) x) → IfOk x.found (λ f. is_asked f ≡ true)
judged_asked seat x judged = let y = seat no_entry in asked_by y.wanted y.row y.answer x.found (judged no_entry).gives

module _ (n : ℕ) (name : List ℕ) (m : Live) (plan : PlanParts) (lost : ℕ) where
  -- there is an ask for each survivor
  pub asks_long : (asks : List Ask) → AreSurvivorAsks n name m plan lost asks → length asks ≡ n - 1
  asks_long asks are = sym (length-map asks asked) ∙ ap length are.are ∙ length-row (survivor_ask n name m plan lost) 0 (n - 1)

  pub none_gave : (asks : List Ask) (chunks : List (List ℕ)) → chunks ≡ [] → GaveFirst n name m plan lost asks 0 chunks
  none_gave asks chunks none = record { count = ap length none; each = λ j l. absurd (omega arith) }

  low_entry : (k : ℕ) (asks : List Ask) → AreSurvivorAsks n name m plan lost asks → k < n - 1 → k < length asks
  low_entry k asks are low = omega (arith, low, asks_long asks are)

  -- a seat is left for the survivor at position k
  pub seat_left : (k : ℕ) (asks : List Ask) (seats : List Seat) → AreSurvivorAsks n name m plan lost asks → k < n - 1 → AllJudged (map (seat_of n name m plan.choice) (drop k asks)) seats → 0 < length seats
  seat_left k asks seats are low judged =
      let long : length seats ≡ length (drop k asks) = judged.same_length ∙ length-map (drop k asks) (seat_of n name m plan.choice) in
      omega (arith, low_entry k asks are low, long, length-drop k asks)

  -- the seat at the front of those that are left
  pub seat_taken : (k : ℕ) (asks : List Ask) (seats next : List Seat) (x : Seat) → AreSurvivorAsks n name m plan lost asks → k < n - 1 → AllJudged (map (seat_of n name m plan.choice) (drop k asks)) seats → x ≡ get_or seats 0 x → next ≡ remove seats 0
      → ((d : Ask) → IsJudgedSeat (seat_of n name m plan.choice (get_or asks k d)) x) × AllJudged (map (seat_of n name m plan.choice) (drop (k + 1) asks)) next
  seat_taken k asks seats next x are low judged is removed =
      let front = λ (d : Ask). judged_front (seat_of n name m plan.choice (get_or asks k d)) (map (seat_of n name m plan.choice) (drop (k + 1) asks)) seats next x
      (subst (λ (left : List Ask). AllJudged (map (seat_of n name m plan.choice) left) seats) (drop_more asks k d (low_entry k asks are low)) judged) is removed in
      (λ d. (front d).0, (front no_entry).1)

  -- what its answer gives
  found_of : (a : Ask) (t : ℕ) (x : Seat) (found : Found) → a.cloud ≡ t → IsJudgedSeat (seat_of n name m plan.choice a) x → x.found ≡ Ok found → FoundFrom (chosen_of n name m plan t) (chosen_row plan t) a.answer found
  found_of a t x found same judged is =
      let gives : FoundFrom (chosen_of n name m plan a.cloud) (chosen_row plan a.cloud) a.answer found = subst (λ (f : Result Found Memory). IfOk f (FoundFrom (chosen_of n name m plan a.cloud) (chosen_row plan a.cloud) a.answer)) is judged.gives in
      subst (λ (c : ℕ). FoundFrom (chosen_of n name m plan c) (chosen_row plan c) a.answer found) same gives

  fault_of : (a : Ask) (t : ℕ) (x : Seat) (why : RepairFault) → a.cloud ≡ t → IsJudgedSeat (seat_of n name m plan.choice a) x → IsFaultBy x.wanted.cloud x.found why → IsFaultOf (chosen_of n name m plan t) (chosen_row plan t) a.answer why
  fault_of a t x (fault.Cloud c) same judged by = (found_of a t x (Bad Failed) same judged by.0, by.1 ∙ ap (λ (w : Wanted). w.cloud) judged.wanted ∙ same)
  fault_of a t x (fault.Damaged c r how) same judged by =
      let found = found_of a t x (Bad (Row r how)) same judged by.0 in
      (by.1 ∙ ap (λ (w : Wanted). w.cloud) judged.wanted ∙ same, found.0, found.1)
  fault_of a t x fault.Worn same judged by = by
  fault_of a t x fault.Memory same judged by = tt

  pub one_gave : (k : ℕ) (asks : List Ask) (x : Seat) (chunks next : List (List ℕ)) → AreSurvivorAsks n name m plan lost asks → k < n - 1 → ((d : Ask) → IsJudgedSeat (seat_of n name m plan.choice (get_or asks k d)) x)
      → GaveFirst n name m plan lost asks k chunks → AddsGiven x.found chunks next → GaveFirst n name m plan lost asks (k + 1) next
  one_gave k asks x chunks next are low judged gave more =
      let grown = push_more [] (λ (j : ℕ) (y : List ℕ). (d : Ask) → GivesGood (chosen_of n name m plan (survivor lost j)) (get_or asks j d).answer y) k chunks next more.payload gave.count gave.each
      (λ d. found_of (get_or asks k d) (survivor lost k) x (Good more.payload) (ask_cloud n name m plan lost asks are k d (low_entry k asks are low)) (judged d) more.good) more.added in
      record { count = grown.0; each = grown.1 }

  pub one_stops : (k : ℕ) (asks : List Ask) (x : Seat) (chunks : List (List ℕ)) (why : RepairFault) → AreSurvivorAsks n name m plan lost asks → k < n - 1 → ((d : Ask) → IsJudgedSeat (seat_of n name m plan.choice (get_or asks k d)) x)
      → GaveFirst n name m plan lost asks k chunks → IsFaultBy x.wanted.cloud x.found why → StopsAt n name m plan lost asks why
  one_stops k asks x chunks why are low judged gave by = record {
    at = k;
    within = omega (arith, low);
    chunks = chunks;
    before = gave;
    here = λ d. fault_of (get_or asks k d) (survivor lost k) x why (ask_cloud n name m plan lost asks are k d (low_entry k asks are low)) (judged d) by;
  }

  -- no memory was found for the seats
  pub none_seated : (asks : List Ask) → 1 < n → StopsAt n name m plan lost asks fault.Memory
  none_seated asks some = record { at = 0; within = omega (arith, some); chunks = []; before = none_gave asks [] refl; here = λ d. tt }

  -- all of them gave theirs
  pub all_gave : (k : ℕ) (asks : List Ask) (chunks : List (List ℕ)) → AreSurvivorAsks n name m plan lost asks → 0 < n → k ≡ n - 1 → GaveFirst n name m plan lost asks k chunks → GaveChunks n name m plan lost asks chunks
  all_gave k asks chunks are some all gave =
      let whole : GaveFirst n name m plan lost asks (n - 1) chunks = subst (λ (j : ℕ). GaveFirst n name m plan lost asks j chunks) all gave in
      let long : length asks ≡ n - 1 = asks_long asks are in
      record {
        gave = whole;
        count = omega (arith, whole.count, some);
        long = λ i l. let low : i < length asks = omega (arith, l, whole.count, long) in (whole.each i (omega (arith, l, whole.count)) (entry asks low)).long;
      }
    where
      entry : (xs : List Ask) {i : ℕ} → i < length xs → Ask
      entry [] l = absurd (omega (arith, l))
      entry (a ∷ xs) l = a

pub stops_mending : (n : ℕ) (name : List ℕ) (m : Live) (plan : PlanParts) (lost : ℕ) (asks : List Ask) (why : RepairFault) → StopsAt n name m plan lost asks why → StopsMending n name m plan lost asks why
stops_mending n name m plan lost asks (fault.Cloud c) stops = stops
stops_mending n name m plan lost asks (fault.Damaged c r how) stops = stops
stops_mending n name m plan lost asks fault.Worn stops = stops.here no_entry
stops_mending n name m plan lost asks fault.Memory stops = tt
