-- A round of puts or deletes that each cloud served in its seat.
use Rattle.std.proofs.Common.{◌≡◌, ◌≢◌, ℕ, Option, None, Some, List, map, get_or, refl, sym, ap, ◌∙◌, subst, All}
use Rattle.std.proofs.lemmas.Simd.{map-map}
use Rattle.std.specs.Option.{option_map}
use Rattle.nc_cloud.specs.declared.fleet.Job.{Job}
use Rattle.nc_cloud.specs.declared.fleet.Erase.{Erase}
use Rattle.nc_cloud.specs.declared.fleet.Done.{Done}
use Rattle.nc_cloud.specs.declared.fleet.Done.TheVariants.{Waiting, Failed, Memory}
use Rattle.nc_cloud.specs.declared.cloud.Cloud.{Ghosts as CloudGhosts}
use Rattle.nc_cloud.specs.declared.seats.Seat.{Seat}
use Rattle.nc_cloud.specs.Contents.{Leaves, LeavesCloud, Touch, Write, touch_at}
use Rattle.nc_cloud.specs.Fleet.{is_done, write, erasure}
use Rattle.nc_cloud.specs.Seats.{DidWrite, clouds_in, contents_at, count_at}
use Rattle.nc_cloud.proofs.Entries.{Stands, entry, entry_back, entry-map, touch_is}
use Rattle.nc_cloud.proofs.FanRounds.{Kind, FanRound, all_left, answer_of, collected, fan_stays, for_clouds}

-- a kind of entries that write: what one writes, how it ended, and one that ended otherwise
pub record Writing (X : Type 0) : Type 0 where
  pub writes : X → Write
  pub ended : X → Done
  pub ending : Done → X → X
  pub same_write : (d : Done) (x : X) → writes (ending d x) ≡ writes x
  pub new_end : (d : Done) (x : X) → ended (ending d x) ≡ d

abbrev pub jobs : Writing Job
jobs = record { writes = write; ended = λ j. j.done; ending = λ d j. record j { done = d }; same_write = λ d j. refl; new_end = λ d j. refl }

abbrev pub erases : Writing Erase
erases = record { writes = erasure; ended = λ e. e.done; ending = λ d e. record e { done = d }; same_write = λ d e. refl; new_end = λ d e. refl }

abbrev kind_of : {C X : Type 0} → Writing X → Kind C X Done
kind_of w = record {
  cloud = λ x. (w.writes x).cloud;
  answer = w.ended;
  seated = λ s. s.done;
  waiting = Waiting;
  failed = Failed;
  with_answer = w.ending;
  same_cloud = λ d x. ap (λ p. p.cloud) (w.same_write d x);
  new_answer = w.new_end;
}

abbrev pub WriteRound : {C X : Type 0} → CloudGhosts C → Type 0 → (C → ℕ) → (C → ℕ) → Writing X
    → List X → List X → List (Seat C) → List (Seat C) → Type 0
WriteRound K sure count other w xs left old new =
    FanRound K.counts_exactly count other (kind_of w) (λ x. DidWrite K sure count other (w.writes x)) xs left old new new

module _ {C X : Type 0} {K : CloudGhosts C} {sure : Type 0} {count other : C → ℕ} (w : Writing X)
    {xs left : List X} {old new : List (Seat C)} (r : WriteRound K sure count other w xs left old new) where
  -- an entry with the answer that stands in its cloud's seat
  abbrev answered : X → X
  answered x = collected (kind_of w) new x

  kept : (x : X) → w.writes (answered x) ≡ w.writes x
  kept x = w.same_write _ x

  pub fan_entries : map w.writes left ≡ map w.writes xs
  fan_entries = ap (map w.writes) r.answers ∙ map-map w.writes answered xs ∙ ap (λ f. map f xs) (λ i x. kept x i)

  pub fan_keeps_gets : count_at K.chunk_gets (clouds_in new) ≡ count_at K.chunk_gets (clouds_in old)
  fan_keeps_gets = λ i c. fan_stays r K.chunk_gets 0 (λ x s t done. done.gets) c i

  pub fan_found : sure → All (λ x. w.ended x ≢ Memory) left
  fan_found told = all_left r (λ x. w.ended x ≢ Memory) (λ x s is. s.done.found told (sym (w.new_end _ x) ∙ is))

  abbrev touch_of : X → Touch
  touch_of x = record { write = w.writes x; ok = is_done (w.ended x) }

  abbrev at : List X → ℕ → Option X
  at ys c = entry (λ x. (w.writes x).cloud) c ys

  -- what is touched on a cloud, by its entry
  abbrev touch_by : Option X → Option Touch
  touch_by o = option_map touch_of (option_map answered o)

  same_cloud : (c : ℕ) → entry (λ x. (w.writes (answered x)).cloud) c xs ≡ at xs c
  same_cloud c = ap (λ f. entry f c xs) (λ i x. (kept x i).cloud)

  touched : (c : ℕ) → touch_at (map touch_of left) c ≡ touch_by (at xs c)
  touched c =
      touch_is (map touch_of left) c
      ∙ entry-map touch_of (λ t. t.write.cloud) c left
      ∙ ap (λ ys. option_map touch_of (at ys c)) r.answers
      ∙ ap (option_map touch_of) (entry-map answered (λ x. (w.writes x).cloud) c xs ∙ ap (option_map answered) (same_cloud c))

  touch_here : (x : X) (d : Done) → w.ended (answered x) ≡ d → touch_of (answered x) ≡ record { write = w.writes x; ok = is_done d }
  touch_here x d is = λ i. record { write = kept x i; ok = is_done (is i) }

  pub fan_leaves : K.tells → Leaves (map touch_of left) (contents_at K.held (clouds_in old)) (contents_at K.held (clouds_in new))
  fan_leaves told = record {
    each = for_clouds r K.held (λ key. None) (λ c before after. LeavesCloud (touch_at (map touch_of left) c) before after)
        (λ c store none. subst (λ (t : Option Touch). LeavesCloud t store store) (sym (touched c ∙ ap touch_by none)) refl)
        (λ c x s some.
        let stands : Stands (λ x. (w.writes x).cloud) xs c x = entry_back (λ x. (w.writes x).cloud) c xs x some in
        subst (λ (t : Option Touch). LeavesCloud t (K.held (get_or old c s.seat).cloud) (K.held (get_or new c s.seat).cloud))
        (sym (touched c ∙ ap touch_by some ∙ ap Some (touch_here x _ (answer_of r c x s stands.of_cloud))))
        (s.done.told told));
  }
