-- The chunks that are made anew, and their writes.
use Rattle.std.proofs.Common.{◌≡◌, ◌<◌, ◌+◌, ◌*◌, ◌++◌, ◌∷◌, ℕ, Bool, true, false, if◌then◌else◌, None, Some, List, [], option_to_list, All, length, get_or, slice_index_or, drop, remove, refl, sym, ap, ◌∙◌, subst, arith}
use Rattle.std.specs.Option.{option_map}
use Rattle.std.proofs.lemmas.List.{drop-drop}
use Rattle.std.proofs.lemmas.Grind.{common_steps}
use Rattle.nc_cloud.specs.declared.fleet.Job.{Job}
use Rattle.nc_cloud.specs.Contents.{Write}
use Rattle.nc_cloud.specs.Deciding.{AreAscending}
use Rattle.nc_cloud.specs.Fleet.{write, writes}
use Rattle.nc_cloud.specs.Rounds.{some_row}
use Rattle.nc_cloud.proofs.SomeRows.{ascend_some, some_more}
use Rattle.nc_meta.specs.declared.meta.Live.{Live}
use Rattle.nc_state.specs.Clouds.{Clouds}
use Rattle.nc_fetch.proofs.SomeLists.{map_some, some_all_of}
use Rattle.nc_write.specs.declared.sealing.Placed.{Placed}
use Rattle.nc_write.specs.declared.sealing.RowWrites.{RowWrites}
use Rattle.nc_write.specs.Putting.{placed_of}
use Rattle.nc_write.specs.Writes.{AreChunkWrites, chunk_write}
use Rattle.nc_restore.specs.Restoring.{AreChosenTo, AreRestoreWrites, CanBeWritten, chosen_of, restore_write}

-- ---- chunks taken from the front of a list

front_of : (chunks rest : List (List ℕ)) (x : List ℕ) (at place : ℕ) → x ≡ get_or rest 0 x → rest ≡ drop at chunks → at < length chunks → at ≡ place → x ≡ get_or chunks place []
front_of chunks rest x at place is left there same = grind (arith, common_steps)

removed_front : (xs : List (List ℕ)) → remove xs 0 ≡ drop 1 xs
removed_front [] = refl
removed_front (x ∷ xs) = refl

rest_of : (chunks rest next : List (List ℕ)) (at place : ℕ) → next ≡ remove rest 0 → rest ≡ drop at chunks → at + 1 ≡ place → next ≡ drop place chunks
rest_of chunks rest next at place is left same = is ∙ removed_front rest ∙ ap (drop 1) left ∙ drop-drop 1 at chunks ∙ ap (λ k. drop k chunks) same

placed_if : Bool → ℕ → List ℕ → List Placed
placed_if b c chunk = option_to_list (if b then Some (record { cloud = c; chunk = chunk }) else None)

-- the chunk of the next cloud, where it is wanted
chosen_more : (chunks : List (List ℕ)) (bad : Clouds) (r count : ℕ) (old new : List Placed) (b : Bool) (chunk : List ℕ) → old ≡ some_row (chosen_of chunks bad r) 0 count → b ≡ bad count
    → new ≡ old ++ option_to_list (if b then Some (record { cloud = count; chunk = chunk }) else None) → chunk ≡ slice_index_or chunks (2 * count + r) [] → new ≡ some_row (chosen_of chunks bad r) 0 (count + 1)
chosen_more chunks bad r count old new b chunk was wanted more is =
    more ∙ ap (λ (l : List Placed). l ++ option_to_list (if b then Some (record { cloud = count; chunk = chunk }) else None)) was
    ∙ ap (λ (x : List ℕ). some_row (chosen_of chunks bad r) 0 count ++ option_to_list (if b then Some (record { cloud = count; chunk = x }) else None)) is
    ∙ ap (λ (w : Bool). some_row (chosen_of chunks bad r) 0 count ++ option_to_list (if w then Some (placed_of chunks r count) else None)) wanted ∙ sym (some_more (chosen_of chunks bad r) count)

-- both chunks of the next cloud
pub chosen_pair : (chunks : List (List ℕ)) (bad : ℕ → Clouds) (count : ℕ) (zeros ones zeros_new ones_new : List Placed) (rest middle next : List (List ℕ)) (a b : Bool) (first second : List ℕ) → AreChosenTo chunks bad count zeros ones rest
    → 2 * count + 1 < length chunks → a ≡ bad 0 count → b ≡ bad 1 count → first ≡ get_or rest 0 first → middle ≡ remove rest 0 → second ≡ get_or middle 0 second → next ≡ remove middle 0
    → zeros_new ≡ zeros ++ option_to_list (if a then Some (record { cloud = count; chunk = first }) else None) → ones_new ≡ ones ++ option_to_list (if b then Some (record { cloud = count; chunk = second }) else None)
    → AreChosenTo chunks bad (count + 1) zeros_new ones_new next
chosen_pair chunks bad count zeros ones zeros_new ones_new rest middle next a b first second was more a_is b_is first_is middle_is second_is next_is zeros_more ones_more =
    let left : middle ≡ drop (2 * count + 1) chunks = rest_of chunks rest middle (2 * count) (2 * count + 1) middle_is was.rest_is refl in
    record {
      zeros_are = chosen_more chunks (bad 0) 0 count zeros zeros_new a first was.zeros_are a_is zeros_more (front_of chunks rest first (2 * count) (2 * count + 0) first_is was.rest_is (omega arith) (omega arith));
      ones_are = chosen_more chunks (bad 1) 1 count ones ones_new b second was.ones_are b_is ones_more (front_of chunks middle second (2 * count + 1) (2 * count + 1) second_is left more refl);
      rest_is = rest_of chunks middle next (2 * count + 1) (2 * (count + 1)) next_is left (omega arith);
    }

-- ---- writes

module _ (chunks : List (List ℕ)) (bad : Clouds) (r : ℕ) where
  chosen_by : (c : ℕ) (b : Bool) (x : Placed) → (if b then Some (placed_of chunks r c) else None) ≡ Some x → placed_of chunks r c ≡ x
  chosen_by c true x e = cc
  chosen_by c false x e = absurd cc

  -- the chosen chunks are those of the first clouds
  pub chosen_within : (n : ℕ) → All (λ x. x.cloud < n) (some_row (chosen_of chunks bad r) 0 n)
  chosen_within n = some_all_of (λ x. x.cloud < n) (chosen_of chunks bad r) 0 n (λ c x low l e. subst (λ (y : Placed). y.cloud < n) (chosen_by c (bad c) x e) (omega (arith, l)))

  module _ (n : ℕ) (name : List ℕ) (m : Live) where
    written_by : (c : ℕ) (b : Bool) (p : Write) → option_map (chunk_write n name m r) (if b then Some (placed_of chunks r c) else None) ≡ Some p → (b ≡ true) × (chunk_write n name m r (placed_of chunks r c) ≡ p)
    written_by c true p e = (refl, cc)
    written_by c false p e = absurd cc

    -- where a cloud has an entry, its chunk is bad, and this is the write
    pub write_is : (c : ℕ) (p : Write) → restore_write n name m chunks bad r c ≡ Some p → (bad c ≡ true) × (chunk_write n name m r (placed_of chunks r c) ≡ p)
    write_is c p e = written_by c (bad c) p e

    pub write_cloud : (c : ℕ) (p : Write) → restore_write n name m chunks bad r c ≡ Some p → p.cloud ≡ c
    write_cloud c p e = let is = write_is c p e in sym (ap (λ (q : Write). q.cloud) is.1)

    pub writes_are : (jobs : List Job) → AreChunkWrites n name m r (some_row (chosen_of chunks bad r) 0 n) jobs → writes jobs ≡ some_row (restore_write n name m chunks bad r) 0 n
    writes_are jobs made = made.writes_are ∙ map_some (chunk_write n name m r) (chosen_of chunks bad r) 0 n

    pub jobs_ascend : (jobs : List Job) → AreChunkWrites n name m r (some_row (chosen_of chunks bad r) 0 n) jobs → AreAscending (λ j. j.cloud) n jobs
    jobs_ascend jobs made = ascend_some (λ (p : Write). p.cloud) (restore_write n name m chunks bad r) write_cloud write n jobs (writes_are jobs made)

-- they can be written
pub can_be_written : (n : ℕ) (name : List ℕ) (m : Live) (bad : ℕ → Clouds) (file : List ℕ) (w : RowWrites) → AreRestoreWrites n name m bad file w → CanBeWritten n w
can_be_written n name m bad file w are = record {
  ascend_0 = jobs_ascend are.chunks (bad 0) 0 n name m w.first.items are.row_0;
  whole_0 = are.row_0.whole;
  ascend_1 = jobs_ascend are.chunks (bad 1) 1 n name m w.second.items are.row_1;
  whole_1 = are.row_1.whole;
}
