-- A round of gets that each cloud served in its seat.
use Rattle.std.proofs.Common.{◌≡◌, ℕ, ◌+◌, Bool, ◌&&◌, if◌then◌else◌, None, List, [], ◌∷◌, map, get_or, refl, sym, ap, ◌∙◌, All, nat_eq}
use Rattle.std.proofs.lemmas.Simd.{map-map}
use Rattle.nc_cloud.specs.declared.fleet.Ask.{Ask}
use Rattle.nc_cloud.specs.declared.fleet.Answer.{Answer}
use Rattle.nc_cloud.specs.declared.fleet.Answer.TheVariants.{Waiting, Failed}
use Rattle.nc_cloud.specs.declared.cloud.Cloud.{Ghosts as CloudGhosts}
use Rattle.nc_cloud.specs.declared.seats.Seat.{Seat}
use Rattle.nc_cloud.specs.Fleet.{asked, Answers, chunks_got, got_count, is_bytes, is_chunk, tally}
use Rattle.nc_cloud.specs.Seats.{DidGet, clouds_in, collected_ask, contents_at, count_at}
use Rattle.nc_cloud.proofs.Entries.{Stands, entry_back, none_entry, tally_absent, tally_some}
use Rattle.nc_cloud.proofs.Fans.{got_none}
use Rattle.nc_cloud.proofs.FanRounds.{Kind, FanRound, answer_of, fan_stays, for_clouds, for_entries}

abbrev asks : {C : Type 0} → Kind C Ask Answer
asks = record {
  cloud = λ a. a.cloud;
  answer = λ a. a.answer;
  seated = λ s. s.answer;
  waiting = Waiting;
  failed = Failed;
  with_answer = λ x a. record a { answer = x };
  same_cloud = λ x a. refl;
  new_answer = λ x a. refl;
}

abbrev pub GetRound : {C : Type 0} → CloudGhosts C → List Ask → List Ask → List (Seat C) → List (Seat C) → List (Seat C) → Type 0
GetRound K xs left old mid new = FanRound K.counts_exactly K.faults K.slips asks (DidGet K) xs left old mid new

module _ {C : Type 0} {K : CloudGhosts C} {xs left : List Ask} {old mid new : List (Seat C)} (r : GetRound K xs left old mid new) where
  pub fan_asked : map asked left ≡ map asked xs
  fan_asked = ap (map asked) r.answers ∙ map-map asked (collected_ask mid) xs

  pub fan_told : K.tells → All (λ a. Answers a (contents_at K.held (clouds_in old) a.cloud a.key)) left
  fan_told told = for_entries r K.held (λ key. None) (λ a before after. Answers a (before a.key)) (λ a s. s.done.told told)

  pub fan_held : contents_at K.held (clouds_in new) ≡ contents_at K.held (clouds_in old)
  fan_held = λ i c. fan_stays r K.held (λ key. None) (λ a s t done. done.held_stays) c i

  -- an ask that was answered with the bytes of a chunk
  abbrev gave : Ask → Bool
  gave a = is_chunk a.key && is_bytes (collected_ask mid a).answer

  same_asks : (xs : List Ask) (c : ℕ) → chunks_got c (map (collected_ask mid) xs) ≡ tally (λ a. nat_eq a.cloud c && gave a) xs
  same_asks [] c = refl
  same_asks (a ∷ xs) c = ap (λ n. (if nat_eq a.cloud c && gave a then 1 else 0) + n) (same_asks xs c)

  given : (c : ℕ) → chunks_got c left ≡ tally (λ a. nat_eq a.cloud c && gave a) xs
  given c = ap (chunks_got c) r.answers ∙ same_asks xs c

  pub fan_gets : (c : ℕ) → count_at K.chunk_gets (clouds_in new) c ≡ got_count (count_at K.chunk_gets (clouds_in old) c) (chunks_got c left)
  fan_gets = for_clouds r K.chunk_gets 0 (λ c before after. after ≡ got_count before (chunks_got c left))
      (λ c n none.
      let few : chunks_got c left ≡ 0 = given c ∙ tally_absent (λ a. a.cloud) c gave xs (none_entry (λ a. a.cloud) c xs none) in
      got_none n ∙ ap (got_count n) (sym few))
      (λ c a s some.
      let at : Stands (λ a. a.cloud) xs c a = entry_back (λ a. a.cloud) c xs a some in
      let one : chunks_got c left ≡ (if is_chunk a.key && is_bytes (get_or mid c s.seat).answer then 1 else 0)
      = given c ∙ tally_some (λ a. a.cloud) c gave xs r.once a some ∙ ap (λ x. if is_chunk a.key && is_bytes x then 1 else 0) (answer_of r c a s at.of_cloud) in
      s.done.gets ∙ ap (got_count (K.chunk_gets (get_or old c s.seat).cloud)) (sym one))
