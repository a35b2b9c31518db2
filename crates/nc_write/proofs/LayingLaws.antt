-- Frames of a version's chunks that are laid out, and finished.
use Rattle.std.proofs.Common.{◌≡◌, ◌<◌, ◌≤◌, ◌++◌, ◌∷◌, [], ℕ, suc, Some, List, All, map, length, refl, sym, ap, ◌∙◌, subst, arith}
use Rattle.std.proofs.lemmas.List.{get_or-map, length-map, map-append}
use Rattle.std.proofs.lemmas.List.Elements.{All-append, All-cons}
use Rattle.nc_name.specs.Keys.{key_text}
use Rattle.nc_frame.specs.Frames.{Whole, frame, laid_frame}
use Rattle.nc_frame.proofs.LaidLaws.{finished_is, laid_long}
use Rattle.nc_meta.specs.declared.meta.Live.{Live}
use Rattle.nc_meta.specs.declared.meta.Meta.TheVariants as meta
use Rattle.nc_cloud.specs.declared.fleet.Job.{Job}
use Rattle.nc_cloud.specs.Contents.{Write}
use Rattle.nc_cloud.specs.Deciding.{AreAscending}
use Rattle.nc_cloud.specs.Fleet.{write, writes}
use Rattle.nc_write.specs.declared.sealing.Placed.{Placed}
use Rattle.nc_write.specs.declared.sealing.RowWrites.{RowWrites}
use Rattle.nc_write.specs.declared.sealing.VersionWrites.{VersionWrites}
use Rattle.nc_write.specs.Laying.{AreFinished, AreLaidWrites, AreVersionLaid, FinishesVersion, Fits, finished_write, laid_write}
use Rattle.nc_write.specs.Writes.{AreChunkWrites, AreMetaWrites, AreVersionWrites, AreWritesBy, chunk_key, chunk_write, clouds_of}

module _ (n : ℕ) (name : List ℕ) (m : Live) (r : ℕ) where
  -- one more
  pub laid_more : (chunks : List Placed) (x : Placed) (old new : List Job) → AreLaidWrites n name m r chunks old → writes new ≡ writes old ++ laid_write n name m r x ∷ [] → Fits n name m r x
      → AreLaidWrites n name m r (chunks ++ x ∷ []) new
  laid_more chunks x old new laid added fits = record {
    writes_are = added ∙ ap (λ ps. ps ++ laid_write n name m r x ∷ []) laid.writes_are ∙ sym (map-append (laid_write n name m r) chunks (x ∷ []));
    fits = All-append (Fits n name m r) chunks (x ∷ []) laid.fits (All-cons (Fits n name m r) x [] fits (λ k d l. absurd (omega (arith, l))));
  }

  -- each has room for its digest
  all_long : (chunks : List Placed) (jobs : List Job) → writes jobs ≡ map (laid_write n name m r) chunks → All (λ j. 32 ≤ length j.bytes) jobs
  all_long [] [] made = λ k d l. absurd (omega (arith, l))
  all_long [] (j ∷ jobs) made = absurd cc
  all_long (x ∷ chunks) [] made = absurd cc
  all_long (x ∷ chunks) (j ∷ jobs) made =
      let first : write j ≡ laid_write n name m r x = cc in
      let others : writes jobs ≡ map (laid_write n name m r) chunks = cc in
      let there : Some j.bytes ≡ Some (laid_frame x.cloud n (key_text (chunk_key name m r x.cloud)) x.chunk) = ap (λ (p : Write). p.new) first in
      let bytes : j.bytes ≡ laid_frame x.cloud n (key_text (chunk_key name m r x.cloud)) x.chunk = cc in
      All-cons (λ (k : Job). 32 ≤ length k.bytes) j jobs (subst (λ (l : List ℕ). 32 ≤ length l) (sym bytes) (laid_long x.cloud n (key_text (chunk_key name m r x.cloud)) x.chunk))
      (all_long chunks jobs others)

  -- the write of one chunk
  record IsSealedAs (x : Placed) (j : Job) : Type 0 where
    pub is : write j ≡ chunk_write n name m r x
    pub whole : Whole j.bytes

  one_is : (x : Placed) (j k : Job) → Fits n name m r x → write j ≡ laid_write n name m r x → write k ≡ finished_write (write j) → IsSealedAs x k
  one_is x j k fits laid done =
      let sealed : List ℕ = frame x.cloud n (key_text (chunk_key name m r x.cloud)) x.chunk in
      let with : List ℕ → Write = λ f. record { cloud = x.cloud; key = chunk_key name m r x.cloud; new = Some f } in
      let is : write k ≡ chunk_write n name m r x = done ∙ ap finished_write laid ∙ ap with (finished_is x.cloud n (key_text (chunk_key name m r x.cloud)) x.chunk) in
      let there : Some k.bytes ≡ Some sealed = ap (λ (p : Write). p.new) is in
      let bytes : k.bytes ≡ sealed = cc in
      record {
        is = is;
        whole = record { cloud = x.cloud; width = n; key = key_text (chunk_key name m r x.cloud); payload = x.chunk; is_sealed = record { fits = fits; is_frame = bytes } };
      }

  -- those of all chunks
  finished_all : (chunks : List Placed) (old new : List Job) → writes old ≡ map (laid_write n name m r) chunks → All (Fits n name m r) chunks → AreFinished old new → AreChunkWrites n name m r chunks new
  finished_all [] [] [] made fits done = record { writes_are = refl; whole = λ k d l. absurd (omega (arith, l)); fits = fits }
  finished_all [] [] (k ∷ new) made fits done = let long = done.same_length in absurd (omega (arith, long))
  finished_all [] (j ∷ old) new made fits done = absurd cc
  finished_all (x ∷ chunks) [] new made fits done = absurd cc
  finished_all (x ∷ chunks) (j ∷ old) [] made fits done = let long = done.same_length in absurd (omega (arith, long))
  finished_all (x ∷ chunks) (j ∷ old) (k ∷ new) made fits done =
      let long = done.same_length in
      let later : AreFinished old new = record { same_length = omega (arith, long); each = λ i d l. done.each (suc i) d (omega (arith, l)) } in
      let first : write j ≡ laid_write n name m r x = cc in
      let others : writes old ≡ map (laid_write n name m r) chunks = cc in
      let one : IsSealedAs x k = one_is x j k (fits 0 x (omega arith)) first (done.each 0 j (omega arith)).is in
      let rest : AreChunkWrites n name m r chunks new = finished_all chunks old new others (λ i d l. fits (suc i) d (omega (arith, l))) later in
      record {
        writes_are = ap (λ p. p ∷ writes new) one.is ∙ ap (λ ps. chunk_write n name m r x ∷ ps) rest.writes_are;
        whole = All-cons (λ (y : Job). Whole y.bytes) k new one.whole rest.whole;
        fits = fits;
      }

  -- each entry of a row has room for its digest
  pub row_long : (chunks : List Placed) (jobs : List Job) → AreLaidWrites n name m r chunks jobs → All (λ j. 32 ≤ length j.bytes) jobs
  row_long chunks jobs laid = all_long chunks jobs laid.writes_are

  -- a row, once its frames are finished
  pub row_finished : (chunks : List Placed) (old new : List Job) → AreLaidWrites n name m r chunks old → AreFinished old new → AreChunkWrites n name m r chunks new
  row_finished chunks old new laid done = finished_all chunks old new laid.writes_are laid.fits done

-- rows, and the metadata beside them
pub version_with : (Row : Live → ℕ → List Placed → List Job → Type 0) (n : ℕ) (name : List ℕ) (m : Live) (zeros ones : List Placed) (rows : RowWrites) (w : VersionWrites) → w.live ≡ m
    → w.first ≡ rows.first → w.second ≡ rows.second → AreMetaWrites n name (meta.Live m) w.metas.items → AreAscending (λ c. c) n (clouds_of zeros) → clouds_of ones ≡ clouds_of zeros
    → Row m 0 zeros rows.first.items → Row m 1 ones rows.second.items → AreWritesBy Row n name zeros ones w
version_with Row n name m zeros ones rows w live first second metas ascend same row_0 row_1 = record {
  ascend = ascend;
  same = same;
  row_0 = subst (λ (l : Live). Row l 0 zeros w.first.items) (sym live) (subst (λ v. Row m 0 zeros v.items) (sym first) row_0);
  row_1 = subst (λ (l : Live). Row l 1 ones w.second.items) (sym live) (subst (λ v. Row m 1 ones v.items) (sym second) row_1);
  metas_are = subst (λ (l : Live). AreMetaWrites n name (meta.Live l) w.metas.items) (sym live) metas;
}

-- a version that was laid out, once its frames are finished
pub version_finished : (n : ℕ) (name : List ℕ) (zeros ones : List Placed) (w done : VersionWrites) → AreVersionLaid n name zeros ones w → FinishesVersion w done → AreVersionWrites n name zeros ones done
version_finished n name zeros ones w done laid finishes = record {
  ascend = laid.ascend;
  same = laid.same;
  row_0 = subst (λ (m : Live). AreChunkWrites n name m 0 zeros done.first.items) (sym finishes.live) (row_finished n name w.live 0 zeros w.first.items done.first.items laid.row_0 finishes.first);
  row_1 = subst (λ (m : Live). AreChunkWrites n name m 1 ones done.second.items) (sym finishes.live) (row_finished n name w.live 1 ones w.second.items done.second.items laid.row_1 finishes.second);
  metas_are =
      subst (λ (m : Live). AreMetaWrites n name (meta.Live m) done.metas.items) (sym finishes.live)
      (subst (λ (js : List Job). AreMetaWrites n name (meta.Live w.live) js) (sym finishes.metas) laid.metas_are);
}

-- ---- clouds

-- what holds of the clouds of chunks holds of each one's
pub of_clouds : (P : ℕ → Type 0) (chunks : List Placed) → All P (clouds_of chunks) → All (λ x. P x.cloud) chunks
of_clouds P chunks all k d l =
    subst P (get_or-map (λ (x : Placed). x.cloud) chunks k d d.cloud l) (all k d.cloud (omega (arith, length-map chunks (λ (x : Placed). x.cloud), l)))

-- where they ascend, each is below the width
pub within_of : (n : ℕ) (chunks : List Placed) → AreAscending (λ c. c) n (clouds_of chunks) → All (λ x. x.cloud < n) chunks
within_of n chunks ascend = of_clouds (λ c. c < n) chunks ascend.below
