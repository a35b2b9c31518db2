-- A round of chunks that are made anew, over contents.
use Rattle.std.proofs.Common.{◌≡◌, ◌<◌, ◌≤◌, ◌+◌, ◌*◌, ◌++◌, ℕ, zero, suc, Bool, true, if◌then◌else◌, Option, None, Some, List, [], option_to_list, All, slice_index_or, inl, inr, refl, sym, ap, ◌∙◌, subst, arith}
use Rattle.std.specs.Option.{option_map}
use Rattle.std.proofs.lemmas.Bool.{cases_lt}
use Rattle.nc_name.specs.declared.key.Key.{Key}
use Rattle.nc_name.specs.Keys.{key_text}
use Rattle.nc_frame.specs.Frames.{HasFrame, Sealed, frame}
use Rattle.nc_native.specs.Native.{combination}
use Rattle.nc_code.specs.Codes.{code_row}
use Rattle.nc_cloud.specs.declared.fleet.Job.{Job}
use Rattle.nc_cloud.specs.Contents.{Contents, Write}
use Rattle.nc_cloud.specs.Fleet.{writes}
use Rattle.nc_cloud.specs.Images.{Image, Written, WrittenCloud, write_at}
use Rattle.nc_cloud.specs.Rounds.{some_row}
use Rattle.nc_cloud.proofs.SomeRows.{some_in, some_out, some_written_in}
use Rattle.nc_meta.specs.declared.meta.Live.{Live}
use Rattle.nc_mix.specs.Mixing.{AreChunksOf}
use Rattle.nc_state.specs.Clouds.{Clouds}
use Rattle.nc_state.specs.Right.{IsRight, PlacesStand, payload_at}
use Rattle.nc_state.specs.Rounds.{IsImage, LeavesAtRest}
use Rattle.nc_state.specs.Rounds.LeavesAtRest.{right}
use Rattle.nc_state.specs.Versions.Version.{Stored}
use Rattle.nc_state.proofs.ChunkLaws.{only_right_is_sealed}
use Rattle.nc_state.proofs.Images.{round_image}
use Rattle.nc_download.specs.Chunks.{wanted_of}
use Rattle.nc_download.specs.Clouds.{IsGoodRow, held_at}
use Rattle.nc_download.proofs.ChunkLaws.{held_payload}
use Rattle.nc_write.specs.declared.sealing.Placed.{Placed}
use Rattle.nc_write.specs.Putting.{placed_of}
use Rattle.nc_write.specs.Writes.{AreChunkWrites, chunk_key, chunk_write}
use Rattle.nc_write.proofs.ChunkRounds.{untouched_by}
use Rattle.nc_restore.specs.Restoring.{chosen_of, restore_write}
use Rattle.nc_restore.proofs.MakeLaws.{write_cloud, write_is, writes_are}

-- ---- rows with some entries

first_part : {X : Type 0} (Q : X → Type 0) (o : Option X) (xs : List X) → All Q (option_to_list o ++ xs) → (x : X) → o ≡ Some x → Q x
first_part Q None xs all x e = absurd cc
first_part Q (Some y) xs all x e = let is : y ≡ x = cc in subst Q is (all 0 y (omega arith))

rest_part : {X : Type 0} (Q : X → Type 0) (o : Option X) (xs : List X) → All Q (option_to_list o ++ xs) → All Q xs
rest_part Q None xs all = all
rest_part Q (Some y) xs all = λ k d l. all (suc k) d (omega (arith, l))

-- what holds of all entries holds of that of a cloud
of_entry : {X : Type 0} (Q : X → Type 0) (f : ℕ → Option X) (a k : ℕ) → All Q (some_row f a k) → (c : ℕ) (x : X) → a ≤ c → c < a + k → f c ≡ Some x → Q x
of_entry Q f a zero all c x low high e = absurd (omega (arith, low, high))
of_entry Q f a (suc k) all c x low high e = elim (cases_lt a c) [
  | inl above ↦ of_entry Q f (suc a) k (rest_part Q (f a) (some_row f (suc a) k) all) c x (omega (arith, above)) (omega (arith, high)) e
  | inr level ↦ let same : a ≡ c = omega (arith, low, level) in first_part Q (f a) (some_row f (suc a) k) all x (ap f same ∙ e)
]

-- ---- a round

module _ (n : ℕ) (name : List ℕ) (m : Live) (bad : Clouds) (r : ℕ) (chunks : List (List ℕ)) (jobs : List Job) (made : AreChunkWrites n name m r (some_row (chosen_of chunks bad r) 0 n) jobs) where
  abbrev payload : ℕ → List ℕ
  payload c = slice_index_or chunks (2 * c + r) []

  abbrev key_at : ℕ → Key
  key_at c = chunk_key name m r c

  -- an entry of the round is the write of a bad chunk
  pub record IsItsEntry (c : ℕ) (p : Write) : Type 0 where
    pub within : c < n
    pub one : bad c ≡ true
    pub is : chunk_write n name m r (placed_of chunks r c) ≡ p

  pub entry_at : (c : ℕ) (p : Write) → write_at (writes jobs) c ≡ Some p → IsItsEntry c p
  entry_at c p found =
      let all : writes jobs ≡ some_row (restore_write n name m chunks bad r) 0 n = writes_are chunks bad r n name m jobs made in
      elim (cases_lt c n) [
        | inl low ↦
            let there : restore_write n name m chunks bad r c ≡ Some p =
            sym (ap (λ ps. write_at ps c) all ∙ some_in (restore_write n name m chunks bad r) (write_cloud chunks bad r n name m) 0 n c (omega arith) (omega (arith, low))) ∙ found in
            let is = write_is chunks bad r n name m c p there in
            record { within = low; one = is.0; is = is.1 }
        | inr high ↦
            let none : None ≡ Some p = sym (ap (λ ps. write_at ps c) all ∙ some_out (restore_write n name m chunks bad r) (write_cloud chunks bad r n name m) 0 n c (omega (arith, high))) ∙ found in
            absurd cc
      ]

  -- every other object stays
  pub row_untouched : (H G : Contents) (c : ℕ) (place : Key) → Image (writes jobs) H G → (c < n → bad c ≡ true → place ≡ key_at c → ⊥) → G c place ≡ H c place
  row_untouched H G c place image other =
      untouched_by (writes jobs) H G c place (λ p found same. let e = entry_at c p found in other e.within e.one (same ∙ sym (ap (λ (q : Write). q.key) e.is))) image

  entry_is : (c : ℕ) → bad c ≡ true → chosen_of chunks bad r c ≡ Some (placed_of chunks r c)
  entry_is c is = ap (λ (b : Bool). if b then Some (placed_of chunks r c) else None) is

  fits_at : (c : ℕ) → c < n → bad c ≡ true → HasFrame c n (key_text (key_at c)) (payload c)
  fits_at c low is =
      of_entry (λ (x : Placed). HasFrame x.cloud n (key_text (chunk_key name m r x.cloud)) x.chunk) (chosen_of chunks bad r) 0 n made.fits c (placed_of chunks r c) (omega arith) (omega (arith, low)) (entry_is c is)

  -- the chunks are those of the file v
  module _ (v : List ℕ) (width : m.code.width ≡ n) (pair : r < 2) (are : AreChunksOf m.code v chunks) where
    payload_is : (c : ℕ) → c < n → payload c ≡ payload_at n (Stored m v) c (key_at c)
    payload_is c low = are.each c r (omega (arith, low, width)) pair ∙ ap (combination (code_row m.code c r) v) width

    sealed_at : (c : ℕ) → c < n → bad c ≡ true → Sealed (frame c n (key_text (key_at c)) (payload c)) c n (key_text (key_at c)) (payload_at n (Stored m v) c (key_at c))
    sealed_at c low is = record {
      fits = subst (λ (b : List ℕ). HasFrame c n (key_text (key_at c)) b) (payload_is c low) (fits_at c low is);
      is_frame = ap (frame c n (key_text (key_at c))) (payload_is c low);
    }

    -- written on damaged clouds, they leave the version at rest
    pub row_at_rest : (D : Clouds) (H G : Contents) → ((c : ℕ) → c < n → bad c ≡ true → D c ≡ true) → Image (writes jobs) H G → IsImage n (LeavesAtRest n D name (Stored m v)) H G
    row_at_rest D H G damaged image =
        round_image (writes jobs) (λ c p l found.
        let e = entry_at c p found in
        subst (λ (q : Write). LeavesAtRest n D name (Stored m v) c q.key q.new) e.is
        (right (record { at = (refl, refl, pair); damaged = damaged c l e.one; bytes = frame c n (key_text (key_at c)) (payload c); writes = refl; is_chunk = sealed_at c l e.one }))) image

    -- once written, they are right
    pub row_is_right : (H G : Contents) → Written (writes jobs) H G → (c : ℕ) → c < n → bad c ≡ true → IsRight n G (Stored m v) c (key_at c)
    row_is_right H G written c low is =
        let all : writes jobs ≡ some_row (restore_write n name m chunks bad r) 0 n = writes_are chunks bad r n name m jobs made in
        let at = some_written_in (restore_write n name m chunks bad r) (write_cloud chunks bad r n name m) n (writes jobs) all H G written c low in
        let there : restore_write n name m chunks bad r c ≡ Some (chunk_write n name m r (placed_of chunks r c)) = ap (option_map (chunk_write n name m r)) (entry_is c is) in
        record {
          bytes = frame c n (key_text (key_at c)) (payload c);
          stands = (subst (λ (o : Option Write). WrittenCloud o (H c) (G c)) there at).there;
          is_chunk = sealed_at c low is;
        }

-- ---- good chunks of a version that stands

module _ (n : ℕ) (name : List ℕ) (m : Live) (v : List ℕ) (H : Contents) (D : Clouds) (places : PlacesStand n H D name (Stored m v)) where
  pub good_is_right : (c r : ℕ) (payload : List ℕ) → c < n → r < 2 → IsGoodRow n name m H c r payload → IsRight n H (Stored m v) c (chunk_key name m r c)
  good_is_right c r payload l pair good =
      let held = held_payload (wanted_of n name m r c) (held_at n name m H c r) payload good.holds in
      let is : payload ≡ payload_at n (Stored m v) c (chunk_key name m r c) = only_right_is_sealed n H D name (Stored m v) c (chunk_key name m r c) held.0 payload places l (refl, refl, pair) held.1 held.2 in
      record { bytes = held.0; stands = held.1; is_chunk = subst (Sealed held.0 c n (key_text (chunk_key name m r c))) is held.2 }
