-- Rounds of chunks and of metadata, over contents.
use Rattle.std.proofs.Common.{◌≡◌, ◌≢◌, ◌<◌, ℕ, zero, suc, Option, None, Some, List, [], ◌∷◌, All, AllPairs, map, length, get_or, if◌then◌else◌, refl, sym, ap, ◌∙◌, subst, arith, inl, inr, eq-eqb}
use Rattle.std.proofs.lemmas.Bool.{cases_lt}
use Rattle.std.proofs.lemmas.Bool.Decides.{eqb_tells}
use Rattle.std.proofs.lemmas.List.{length-map, get_or-map}
use Rattle.std.proofs.lemmas.Simd.{map-map}
use Rattle.nc_name.specs.declared.key.Key.{Key}
use Rattle.nc_name.specs.declared.key.Key.TheVariants as key
use Rattle.nc_name.specs.Keys.{key_text, name_of}
use Rattle.nc_name.specs.Names.{IsName}
use Rattle.nc_frame.specs.Frames.{HasFrame, Whole, frame}
use Rattle.nc_meta.specs.declared.meta.Live.{Live}
use Rattle.nc_meta.specs.declared.meta.Meta.{Meta}
use Rattle.nc_meta.specs.Metas.{IsMeta}
use Rattle.nc_cloud.specs.declared.fleet.Job.{Job}
use Rattle.nc_cloud.specs.Contents.{Contents, Store, Write}
use Rattle.nc_cloud.specs.Deciding.{AreAscending}
use Rattle.nc_cloud.specs.Fleet.{write, writes}
use Rattle.nc_cloud.specs.Images.{Image, ImageCloud, Written, WrittenCloud, write_at}
use Rattle.nc_cloud.specs.Rounds.{row}
use Rattle.nc_cloud.proofs.Decisions.{ascend_row, once}
use Rattle.nc_cloud.proofs.Images.{image_in, image_out, row_in, written_in}
use Rattle.nc_cloud.proofs.SomeRows.{ascend_map}
use Rattle.nc_state.specs.Clouds.{Clouds}
use Rattle.nc_state.specs.Commands.{RestsAt}
use Rattle.nc_state.specs.Holding.{Holds}
use Rattle.nc_state.specs.Right.{HasChunkAt, IsRight, RightOn}
use Rattle.nc_state.specs.Rounds.{IsImage, LeavesAtRest, WritesMeta}
use Rattle.nc_state.specs.Rounds.LeavesAtRest.{free}
use Rattle.nc_state.specs.Standing.{Entries}
use Rattle.nc_state.specs.Versions.{Version}
use Rattle.nc_state.specs.Versions.Version.{Stored}
use Rattle.nc_state.proofs.Alone.{AreOfName, row_of_name}
use Rattle.nc_state.proofs.CommandLaws.{stays_at_rest}
use Rattle.nc_state.proofs.Images.{round_image}
use Rattle.nc_settle.specs.MetaWrites.{meta_write}
use Rattle.nc_write.specs.declared.sealing.Placed.{Placed}
use Rattle.nc_write.specs.Writes.{AreChunkWrites, AreMetaWrites, AreOfFile, chunk_key, chunk_of, chunk_write, clouds_of}

-- ---- entries of a round

-- what holds of each write holds of the entry of a cloud, which is of that cloud
each_entry : {X : Type 0} (P : Write → Type 0) (f : X → Write) (xs : List X) → All (λ x. P (f x)) xs → (c : ℕ) (p : Write) → write_at (map f xs) c ≡ Some p → P p × (p.cloud ≡ c)
each_entry P f [] all c p found = absurd cc
each_entry P f (x ∷ xs) all c p found =
    elim (eqb_tells (f x).cloud c) [
      | inl same ↦
          let here : Some (f x) ≡ Some p = sym (ap (λ b. if b then Some (f x) else write_at (map f xs) c) same.0) ∙ found in
          let is : f x ≡ p = cc in
          (subst P is (all 0 x (omega arith)), ap (λ (q : Write). q.cloud) (sym is) ∙ same.1)
      | inr other ↦
          each_entry P f xs (λ k d l. all (suc k) d (omega arith)) c p (sym (ap (λ b. if b then Some (f x) else write_at (map f xs) c) other.0) ∙ found)
    ]

-- a write is the entry of its cloud, where no two are of one
entry_of : (ps : List Write) → AllPairs (λ p q. p.cloud ≢ q.cloud) ps → (i : ℕ) (d : Write) → i < length ps → write_at ps (get_or ps i d).cloud ≡ Some (get_or ps i d)
entry_of [] once i d l = absurd (omega arith)
entry_of (p ∷ ps) once zero d l = rw (eq-eqb p.cloud p.cloud refl) refl
entry_of (p ∷ ps) once (suc i) d l =
    let differs : p.cloud ≢ (get_or ps i d).cloud = once 0 (suc i) d (omega arith) l in
    elim (eqb_tells p.cloud (get_or ps i d).cloud) [
      | inl same ↦ absurd (differs same.1)
      | inr other ↦ rw other.0 (entry_of ps (λ j k e m o. once (suc j) (suc k) e (omega arith) (omega arith)) i d (omega arith))
    ]

other_cloud : (o : Option Write) (old left : Store) (place : Key) → ((p : Write) → o ≡ Some p → place ≢ p.key) → ImageCloud o old left → left place ≡ old place
other_cloud None old left place differs image = ap (λ (s : Store). s place) image
other_cloud (Some p) old left place differs image = image.others place (differs p refl)

-- an object that no write of the round touches
pub untouched_by : (ps : List Write) (F G : Contents) (c : ℕ) (place : Key) → ((p : Write) → write_at ps c ≡ Some p → place ≢ p.key) → Image ps F G → G c place ≡ F c place
untouched_by ps F G c place differs image = other_cloud (write_at ps c) (F c) (G c) place differs (image.each c)

-- a right object that stays is right
pub right_still : (n : ℕ) (F G : Contents) (y : Version) (c : ℕ) (place : Key) → G c place ≡ F c place → IsRight n F y c place → IsRight n G y c place
right_still n F G y c place same r = record { bytes = r.bytes; stands = same ∙ r.stands; is_chunk = r.is_chunk }

-- ---- a round of chunks

module _ (n : ℕ) (name : List ℕ) (m : Live) (r : ℕ) (chunks : List Placed) (jobs : List Job) (made : AreChunkWrites n name m r chunks jobs) where
  abbrev f : Placed → Write
  f = chunk_write n name m r

  job_clouds : map (λ (j : Job). j.cloud) jobs ≡ clouds_of chunks
  job_clouds = sym (map-map (λ (p : Write). p.cloud) write jobs) ∙ ap (map (λ (p : Write). p.cloud)) made.writes_are ∙ map-map (λ (p : Write). p.cloud) f chunks

  pub row_ascend : (z : ℕ) → AreAscending (λ c. c) z (clouds_of chunks) → AreAscending (λ j. j.cloud) z jobs
  row_ascend z ascend = ascend_map (λ (j : Job). j.cloud) (λ c. c) z jobs (clouds_of chunks) job_clouds ascend

  -- each entry writes a chunk of the row
  entries_are : (P : Write → Type 0) → All (λ x. P (f x)) chunks → (c : ℕ) (p : Write) → write_at (writes jobs) c ≡ Some p → P p × (p.cloud ≡ c)
  entries_are P all c p found = each_entry P f chunks all c p (ap (λ ps. write_at ps c) (sym made.writes_are) ∙ found)

  pub chunks_of_name : AreOfName name (writes jobs)
  chunks_of_name = record { each = λ c p found. (entries_are (λ q. name_of q.key ≡ name) (λ k d l. refl) c p found).0 }

  frame_whole : (x : Placed) → HasFrame x.cloud n (key_text (chunk_key name m r x.cloud)) x.chunk → Whole (frame x.cloud n (key_text (chunk_key name m r x.cloud)) x.chunk)
  frame_whole x fits = record { cloud = x.cloud; width = n; key = key_text (chunk_key name m r x.cloud); payload = x.chunk; is_sealed = record { fits = fits; is_frame = refl } }

  -- written in places that the version at rest doesn't name, the chunks leave it at rest
  pub row_rests : (S : Entries) (D : Clouds) (F G : Contents) (x : Version) → IsName name → All (λ e. HasChunkAt name x e.cloud (chunk_key name m r e.cloud) → ⊥) chunks → RestsAt n F S D name x
      → Image (writes jobs) F G → RestsAt n G S D name x
  row_rests S D F G x is free_at rests image =
      let P : Write → Type 0 = λ p. LeavesAtRest n D name x p.cloud p.key p.new in
      let each : All (λ e. P (f e)) chunks = λ k d l. free (record { at = refl; free = free_at k d l; writes = frame_whole (get_or chunks k d) (made.fits k d l) }) in
      stays_at_rest n F G S D name x is rests
      (round_image (writes jobs) (λ c p l found. let e = entries_are P each c p found in subst (λ k. LeavesAtRest n D name x k p.key p.new) e.1 e.0) image)

  -- an object of another row stays
  pub row_leaves : (F G : Contents) (c q : ℕ) → q ≢ r → Image (writes jobs) F G → G c (chunk_key name m q c) ≡ F c (chunk_key name m q c)
  row_leaves F G c q differs image =
      untouched_by (writes jobs) F G c (chunk_key name m q c)
      (λ p found same. (entries_are (λ w. (d : ℕ) → chunk_key name m q d ≢ w.key) (λ k d l e is. differs cc) c p found).0 c same) image

  -- once they are written, the chunks of a file are right
  pub row_right : (F G : Contents) (v : List ℕ) → AreAscending (λ c. c) n (clouds_of chunks) → AreOfFile n m v r chunks → Written (writes jobs) F G
      → All (λ c. IsRight n G (Stored m v) c (chunk_key name m r c)) (clouds_of chunks)
  row_right F G v ascend of written k d l =
      let within : k < length chunks = omega (arith, length-map chunks (λ (x : Placed). x.cloud), l) in
      let x : Placed = get_or chunks k (record { cloud = d; chunk = [] }) in
      let at : x.cloud ≡ get_or (clouds_of chunks) k d = sym (get_or-map (λ (y : Placed). y.cloud) chunks k (record { cloud = d; chunk = [] }) d within) in
      let write_d : Write = f (record { cloud = d; chunk = [] }) in
      let there : get_or (writes jobs) k write_d ≡ f x = ap (λ ps. get_or ps k write_d) made.writes_are ∙ get_or-map f chunks k (record { cloud = d; chunk = [] }) write_d within in
      let long : length (writes jobs) ≡ length chunks = ap length made.writes_are ∙ length-map chunks f in
      let entry : write_at (writes jobs) x.cloud ≡ Some (f x) =
      subst (λ (p : Write). write_at (writes jobs) p.cloud ≡ Some p) there (entry_of (writes jobs) writes_once k write_d (omega (arith, long, within))) in
      let stands : G x.cloud (chunk_key name m r x.cloud) ≡ Some (frame x.cloud n (key_text (chunk_key name m r x.cloud)) x.chunk) =
      (subst (λ (o : Option Write). WrittenCloud o (F x.cloud) (G x.cloud)) entry (written.each x.cloud)).there in
      let is : x.chunk ≡ chunk_of n m v r x.cloud = of k (record { cloud = d; chunk = [] }) within in
      let right : IsRight n G (Stored m v) x.cloud (chunk_key name m r x.cloud) =
      record {
        bytes = frame x.cloud n (key_text (chunk_key name m r x.cloud)) x.chunk;
        stands = stands;
        is_chunk = record {
          fits = subst (λ (b : List ℕ). HasFrame x.cloud n (key_text (chunk_key name m r x.cloud)) b) is (made.fits k (record { cloud = d; chunk = [] }) within);
          is_frame = ap (frame x.cloud n (key_text (chunk_key name m r x.cloud))) is;
        };
      } in
      subst (λ c. IsRight n G (Stored m v) c (chunk_key name m r c)) at right
    where
      writes_once : AllPairs (λ (p q : Write). p.cloud ≢ q.cloud) (writes jobs)
      writes_once = once (λ (p : Write). p.cloud) n (writes jobs) (ascend_map (λ (p : Write). p.cloud) (λ c. c) n (writes jobs) (clouds_of chunks) (map-map (λ (p : Write). p.cloud) write jobs ∙ job_clouds) ascend)

-- both rows of a version are right on a cloud
pub both_right : (n : ℕ) (G : Contents) (name : List ℕ) (m : Live) (v : List ℕ) (c : ℕ) → IsRight n G (Stored m v) c (chunk_key name m 0 c) → IsRight n G (Stored m v) c (chunk_key name m 1 c)
    → RightOn n G name (Stored m v) c
both_right n G name m v c first second (key.Meta other slot) has = absurd has
both_right n G name m v c first second (key.Chunk other slot zero) has =
    subst (λ (o : List ℕ). IsRight n G (Stored m v) c (key.Chunk o slot 0)) (sym has.0) (subst (λ s. IsRight n G (Stored m v) c (key.Chunk name s 0)) (sym has.1) first)
both_right n G name m v c first second (key.Chunk other slot (suc zero)) has =
    subst (λ (o : List ℕ). IsRight n G (Stored m v) c (key.Chunk o slot 1)) (sym has.0) (subst (λ s. IsRight n G (Stored m v) c (key.Chunk name s 1)) (sym has.1) second)
both_right n G name m v c first second (key.Chunk other slot (suc (suc row))) has = let low = has.2 in absurd (omega (arith, low))

-- ---- a round of metadata

module _ (n : ℕ) (name : List ℕ) (m : Meta) (jobs : List Job) (made : AreMetaWrites n name m jobs) where
  pub metas_ascend : AreAscending (λ j. j.cloud) n jobs
  metas_ascend = ascend_row write (λ p. p.cloud) (meta_write n name m) (λ c. refl) n jobs made.writes_are

  pub metas_of_name : AreOfName name (writes jobs)
  metas_of_name = row_of_name name (meta_write n name m) (λ c. refl) (λ c. refl) n (writes jobs) made.writes_are

  -- each entry writes the metadata
  pub metas_image : (F G : Contents) → Image (writes jobs) F G → IsImage n (WritesMeta n name m) F G
  metas_image F G image =
      round_image (writes jobs) (λ c p l found.
      let entry : Some (meta_write n name m c) ≡ Some p =
      sym (ap (λ ps. write_at ps c) made.writes_are ∙ row_in (meta_write n name m) (λ k. refl) 0 n c (omega arith) (omega arith)) ∙ found in
      let is : meta_write n name m c ≡ p = cc in
      subst (λ (q : Write). WritesMeta n name m c q.key q.new) is (record { at = refl; writes = refl })) image

  -- once all are written, each cloud holds it
  pub metas_held : (F G : Contents) → IsMeta n m → Written (writes jobs) F G → (c : ℕ) → c < n → Holds n G name c m
  metas_held F G fits written c l = record { is_meta = fits; stands = (written_in (meta_write n name m) (λ k. refl) n (writes jobs) made.writes_are F G written c l).there }

  -- no chunk is touched
  pub metas_leave : (F G : Contents) (c : ℕ) (other : List ℕ) (slot q : ℕ) → Image (writes jobs) F G → G c (key.Chunk other slot q) ≡ F c (key.Chunk other slot q)
  metas_leave F G c other slot q image = elim (cases_lt c n) [
    | inl l ↦ (image_in (meta_write n name m) (λ k. refl) n (writes jobs) made.writes_are F G image c l).others (key.Chunk other slot q) (λ e. cc)
    | inr past ↦ ap (λ (s : Store). s (key.Chunk other slot q)) (image_out (meta_write n name m) (λ k. refl) n (writes jobs) made.writes_are F G image c past)
  ]

  -- so what is right on a cloud stays
  pub metas_still_right : (F G : Contents) (y : Version) (c : ℕ) → Image (writes jobs) F G → RightOn n F name y c → RightOn n G name y c
  metas_still_right F G y c image right (key.Meta other slot) has = absurd has
  metas_still_right F G y c image right (key.Chunk other slot q) has =
      right_still n F G y c (key.Chunk other slot q) (metas_leave F G c other slot q image) (right (key.Chunk other slot q) has)
