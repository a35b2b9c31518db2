-- Seats of the entries of a round, one after the other.
use Rattle.std.proofs.Common.{◌≡◌, ◌<◌, ◌≤◌, ◌+◌, ◌++◌, ◌∷◌, ℕ, suc, Bool, true, false, Ok, List, [], All, IfOk, Result, map, length, get_or, remove, replicate, slice_index, inl, inr, refl, sym, ap, ◌∙◌, subst, arith}
use Rattle.std.proofs.lemmas.Bool.{cases_lt}
use Rattle.std.proofs.lemmas.List.{get_or-replicate, get_or_past, length-map, map-append}
use Rattle.std.proofs.lemmas.List.Elements.{All-push}
use Rattle.nc_name.specs.declared.blob.Memory.{Memory}
use Rattle.nc_name.specs.Keys.{Slots}
use Rattle.nc_cloud.specs.declared.fleet.Ask.{Ask}
use Rattle.nc_cloud.specs.Fleet.{asked}
use Rattle.nc_cloud.specs.Rounds.{some_row}
use Rattle.nc_meta.specs.declared.meta.Live.{Live}
use Rattle.nc_state.specs.Clouds.{Clouds}
use Rattle.nc_download.specs.Chunks.{wanted_of}
use Rattle.nc_fetch.specs.declared.founds.Found.{Found}
use Rattle.nc_fetch.specs.declared.founds.Found.TheVariants.{Unasked}
use Rattle.nc_fetch.specs.declared.seats.Seat.{Seat}
use Rattle.nc_fetch.specs.Founds.{chunk_ask_on, AreLeft, FoundFrom, FoundOn}
use Rattle.nc_fetch.specs.Seats.{seat_of, AllJudged, IsJudgedSeat, TakesNext}
use Rattle.nc_fetch.proofs.FoundLaws.{found_taken, found_unasked, left_all}
use Rattle.nc_fetch.proofs.RoundLaws.{passed_over, some_entry, taken}

-- one seat more
pub seated_more : (seat : Ask → Seat) (done : List Ask) (seats next : List Seat) (a : Ask) (s : Seat) → (seats ≡ map seat done) × All (λ s. Slots s.wanted.key) seats → s ≡ seat a → Slots s.wanted.key → next ≡ seats ++ s ∷ []
    → (next ≡ map seat (done ++ a ∷ [])) × All (λ s. Slots s.wanted.key) next
seated_more seat done seats next a s so_far is slots pushed = (
  pushed ∙ ap (λ xs. xs ++ s ∷ []) so_far.0 ∙ ap (λ x. map seat done ++ x ∷ []) is ∙ sym (map-append seat done (a ∷ [])),
  subst (All (λ s. Slots s.wanted.key)) (sym pushed) (All-push (λ s. Slots s.wanted.key) seats s so_far.1 slots),
)

-- a row that all clouds are asked for
pub rows_pair : (r : ℕ) → r < 2 → (c : ℕ) → slice_index (replicate 10 r) c < 2
rows_pair r pair c =
    elim (cases_lt c 10) [
      | inl low ↦ let is : slice_index (replicate 10 r) c ≡ r = get_or-replicate 10 c r 0 low in omega (arith, is, pair)
      | inr past ↦ let none : slice_index (replicate 10 r) c ≡ 0 = get_or_past (replicate 10 r) c 0 past in omega (arith, none)
    ]

-- the first seat that is left, and the others
pub judged_front : (y : Seat) (ys seats next : List Seat) (x : Seat) → AllJudged (y ∷ ys) seats → x ≡ get_or seats 0 x → next ≡ remove seats 0 → IsJudgedSeat y x × AllJudged ys next
judged_front y ys [] next x all is removed = absurd (let e = all.same_length in omega (arith, e))
judged_front y ys (s ∷ seats) next x all is removed =
    let long : length seats ≡ length ys = let e = all.same_length in omega (arith, e) in (
      subst (IsJudgedSeat y) (sym is) (all.each 0 y (omega arith)),
      record {
        same_length = ap length removed ∙ long;
        each = λ k d l. subst (λ (xs : List Seat). IsJudgedSeat (get_or ys k d) (get_or xs k d)) (sym removed) (all.each (suc k) d (omega (arith, l)));
      },
    )

-- the seats that are left are those of the clouds from c on
pub record AreSeatsLeft (n : ℕ) (name : List ℕ) (m : Live) (r : ℕ) (P : Clouds) (c : ℕ) (all : List Ask) (seats : List Seat) : Type 0 where
  pub left : List Ask
  pub are : AreLeft n name m r P c all left
  pub judged : AllJudged (map (seat_of n name m (replicate 10 r)) left) seats

module _ (n : ℕ) (name : List ℕ) (m : Live) (r : ℕ) (P : Clouds) where
  abbrev seat : Ask → Seat
  seat = seat_of n name m (replicate 10 r)

  pub seats_all : (all : List Ask) (seats : List Seat) → map asked all ≡ some_row (chunk_ask_on n name m r P) 0 n → AllJudged (map (seat_of n name m (replicate 10 r)) all) seats → AreSeatsLeft n name m r P 0 all seats
  seats_all all seats asks judged = record { left = all; are = left_all n name m r P all asks; judged = judged }

  pub some_seat : (c : ℕ) (all : List Ask) (seats : List Seat) → c < n → P c ≡ true → AreSeatsLeft n name m r P c all seats → 0 < length seats
  some_seat c all seats low within left =
      let some : 0 < length left.left = some_entry n name m r P c left.left low within left.are.asks in
      let long : length seats ≡ length left.left = left.judged.same_length ∙ length-map left.left seat in
      omega (arith, some, long)

  -- what the seat of cloud c gives
  gives_found : (c : ℕ) (a : Ask) (s : Seat) (found : Found) → c < 10 → a.cloud ≡ c → IsJudgedSeat (seat a) s → s.found ≡ Ok found → FoundFrom (wanted_of n name m r c) r a.answer found
  gives_found c a s found low same judged is =
      let here : slice_index (replicate 10 r) a.cloud ≡ r = get_or-replicate 10 a.cloud r 0 (omega (arith, low, same)) in
      let gives : FoundFrom (seat a).wanted (seat a).row a.answer found = subst (λ (f : Result Found Memory). IfOk f (FoundFrom (seat a).wanted (seat a).row a.answer)) is judged.gives in
      subst (λ (j : ℕ). FoundFrom (wanted_of n name m r j) r a.answer found) same (subst (λ (q : ℕ). FoundFrom (wanted_of n name m q a.cloud) q a.answer found) here gives)

  seat_front : (c : ℕ) (all left : List Ask) (seats next : List Seat) (found : Found) → c < n → c < 10 → P c ≡ true → AreLeft n name m r P c all left → AllJudged (map seat left) seats → TakesNext true seats next (Ok found)
      → FoundOn (P c) n name m r c all found × AreSeatsLeft n name m r P (c + 1) all next
  seat_front c all [] seats next found low narrow within are judged took = absurd (let some = some_entry n name m r P c [] low within are.asks in omega (arith, some))
  seat_front c all (a ∷ left) [] next found low narrow within are judged took = absurd (let e = judged.same_length in omega (arith, e))
  seat_front c all (a ∷ left) (s ∷ seats) next found low narrow within are judged took =
      let front = taken n name m r P c all (a ∷ left) left a low within are refl refl in
      let one = judged_front (seat a) (map seat left) (s ∷ seats) next s judged refl took.0 in
      let same : a.cloud ≡ c = ap (λ (x : ℕ × _ × ℕ). x.0) front.0 in (
        found_taken n name m r P c all a (wanted_of n name m r c) found within front.0 front.1 refl (gives_found c a s found narrow same one.0 (sym (took.1 s))),
        record { left = left; are = front.2; judged = one.1 },
      )

  seat_by : (b : Bool) (c : ℕ) (all : List Ask) (seats next : List Seat) (found : Found) → P c ≡ b → c < n → c < 10 → AreSeatsLeft n name m r P c all seats → TakesNext b seats next (Ok found)
      → FoundOn (P c) n name m r c all found × AreSeatsLeft n name m r P (c + 1) all next
  seat_by true c all seats next found within low narrow left took = seat_front c all left.left seats next found low narrow within left.are left.judged took
  seat_by false c all seats next found out low narrow left took =
      let none : found ≡ Unasked = let e = took.1 in cc in (
        subst (λ (f : Found). FoundOn (P c) n name m r c all f) (sym none) (found_unasked n name m r P c all out),
        record { left = left.left; are = passed_over n name m r P c all left.left low out left.are; judged = subst (AllJudged (map seat left.left)) (sym took.0) left.judged },
      )

  -- the next seat is taken, where there is one of cloud c
  pub seat_next : (c : ℕ) (all : List Ask) (seats next : List Seat) (found : Found) → c < n → n ≤ 10 → AreSeatsLeft n name m r P c all seats → TakesNext (P c) seats next (Ok found)
      → FoundOn (P c) n name m r c all found × AreSeatsLeft n name m r P (c + 1) all next
  seat_next c all seats next found low narrow left took = seat_by (P c) c all seats next found refl low (omega (arith, low, narrow)) left took
