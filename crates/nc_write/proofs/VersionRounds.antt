-- The rounds of a version, put together: what each stop leaves, and what they do.
use Rattle.std.proofs.Common.{◌≡◌, ◌<◌, ℕ, Some, List, [], ◌∷◌, All, Result, Ok, Err, get_or, refl, sym, ◌∙◌, subst, arith, inl}
use Rattle.nc_cloud.specs.declared.fleet.Job.{Job}
use Rattle.nc_cloud.specs.declared.deciding.RoundFault.{RoundFault}
use Rattle.nc_cloud.specs.declared.fleet.Fleet.{Ghosts as FleetGhosts}
use Rattle.nc_cloud.specs.Contents.{Contents}
use Rattle.nc_cloud.specs.Deciding.{AreAscending, Wrote}
use Rattle.nc_cloud.specs.Fleet.{writes}
use Rattle.nc_cloud.specs.Images.{Image, Written}
use Rattle.nc_cloud.specs.Stopping.{Keeps}
use Rattle.nc_cloud.proofs.Time.{keeps_by, keeps_then}
use Rattle.nc_meta.specs.declared.meta.Meta.TheVariants as meta
use Rattle.nc_meta.specs.Metas.{IsLive}
use Rattle.nc_state.specs.Commands.{RestsAt, StandsAfter}
use Rattle.nc_state.specs.Holding.{AllHold}
use Rattle.nc_state.specs.Right.{HasChunkAt, IsRight, RightOn}
use Rattle.nc_state.specs.Vaults.{Vault, version_in}
use Rattle.nc_state.specs.Versions.{Version}
use Rattle.nc_state.specs.Versions.Version.{Stored}
use Rattle.nc_state.proofs.CommandLaws.{metas_written, rests_after}
use Rattle.nc_write.specs.declared.sealing.Placed.{Placed}
use Rattle.nc_write.specs.declared.sealing.VersionWrites.{VersionWrites}
use Rattle.nc_write.specs.InTurn.{AfterRound, WroteInTurn, rounds_of}
use Rattle.nc_write.specs.Replacing.{Replaces}
use Rattle.nc_write.specs.Writes.{WritesFile, chunk_key, clouds_of}
use Rattle.nc_write.proofs.ChunkRounds.{both_right, metas_held, metas_image, metas_still_right, right_still, row_leaves, row_rests, row_right}
use Rattle.nc_write.proofs.LayingLaws.{of_clouds}

-- ---- over contents

module _ (n : ℕ) (name v clouds : List ℕ) (w : VersionWrites) (of : WritesFile n name v clouds w) where
  abbrev y : Version
  y = Stored w.live v

  -- after both rounds of chunks these are right
  pub chunks_right : (F G H : Contents) → Written (writes w.first.items) F G → Image (writes w.second.items) G H → Written (writes w.second.items) G H → All (RightOn n H name y) clouds
  chunks_right F G H one image two =
      subst (All (RightOn n H name y)) of.at
      (λ k d l.
      let c : ℕ = get_or (clouds_of of.zeros) k d in
      let first : IsRight n G y c (chunk_key name w.live 0 c) = row_right n name w.live 0 of.zeros w.first.items of.made.row_0 F G v of.made.ascend of.of_0 one k d l in
      let second : All (λ e. IsRight n H y e (chunk_key name w.live 1 e)) (clouds_of of.zeros) =
      subst (All (λ e. IsRight n H y e (chunk_key name w.live 1 e))) of.made.same
      (row_right n name w.live 1 of.ones w.second.items of.made.row_1 G H v (subst (AreAscending (λ e. e) n) (sym of.made.same) of.made.ascend) of.of_1 two) in
      both_right n H name w.live v c
      (right_still n G H y c (chunk_key name w.live 0 c) (row_leaves n name w.live 1 of.ones w.second.items of.made.row_1 G H c 0 (λ e. absurd (omega (arith, e))) image) first)
      (second k d l))

  pub metas_right : (F G : Contents) → Image (writes w.metas.items) F G → All (RightOn n F name y) clouds → All (RightOn n G name y) clouds
  metas_right F G image right k d l = metas_still_right n name (meta.Live w.live) w.metas.items of.made.metas_are F G y (get_or clouds k d) image (right k d l)

  pub all_hold : (F G : Contents) → IsLive n w.live → Written (writes w.metas.items) F G → AllHold n G name y
  all_hold F G fits written c l = metas_held n name (meta.Live w.live) w.metas.items of.made.metas_are F G fits written c l

  -- of a command that came to the name at V, and has it at rest at H
  module _ (V : Vault) (H : Contents) (p : Replaces n name clouds V H w.live v) where
    abbrev x : Version
    x = version_in n V name

    abbrev Rests : Contents → Type 0
    Rests G = RestsAt n G V.entries V.damaged name x

    abbrev Begun : Contents → Type 0
    Begun G = StandsAfter n V.contents G V.entries V.damaged name (Some y)

    free_in : (r : ℕ) (chunks : List Placed) → r < 2 → clouds_of chunks ≡ clouds → All (λ e. HasChunkAt name x e.cloud (chunk_key name w.live r e.cloud) → ⊥) chunks
    free_in r chunks pair at = of_clouds (λ c. HasChunkAt name x c (chunk_key name w.live r c) → ⊥) chunks (subst (All (λ c. HasChunkAt name x c (chunk_key name w.live r c) → ⊥)) (sym at) (p.free r pair))

    -- each stop in a round of chunks leaves the name at rest
    rests_1 : (F G : Contents) → Rests F → Image (writes w.first.items) F G → Rests G
    rests_1 F G rests image = row_rests n name w.live 0 of.zeros w.first.items of.made.row_0 V.entries V.damaged F G x p.is_name (free_in 0 of.zeros (omega arith) of.at) rests image

    rests_2 : (F G : Contents) → Rests F → Image (writes w.second.items) F G → Rests G
    rests_2 F G rests image = row_rests n name w.live 1 of.ones w.second.items of.made.row_1 V.entries V.damaged F G x p.is_name (free_in 1 of.ones (omega arith) (of.made.same ∙ of.at)) rests image

    -- at rest nothing is begun
    before : (G : Contents) → Rests G → Begun G
    before G rests = rests_after n V.contents G V.entries V.damaged name x (Some y) p.is_name p.stands rests p.next (inl refl)

    metas_begun : (F G : Contents) → Rests F → All (RightOn n F name y) clouds → Image (writes w.metas.items) F G → Begun G × (AllHold n G name y → RestsAt n G V.entries V.damaged name y)
    metas_begun F G rests right image =
        metas_written n V.contents F G V.entries V.damaged name y (meta.Live w.live) p.is_name p.stands rests p.next refl (p.others F rests.rests.places right)
        (metas_image n name (meta.Live w.live) w.metas.items of.made.metas_are F G image)

-- ---- over the states of a fleet

-- the three rounds, each of which was Ok
pub record WroteAll {A : Type 0} (F : FleetGhosts A) (w : VersionWrites) (old new : A) : Type 0 where
  pub first : A
  pub second : A
  pub image_1 : Image (writes w.first.items) (F.held old) (F.held first)
  pub image_2 : Image (writes w.second.items) (F.held first) (F.held second)
  pub image_3 : Image (writes w.metas.items) (F.held second) (F.held new)
  pub done_1 : Written (writes w.first.items) (F.held old) (F.held first)
  pub done_2 : Written (writes w.second.items) (F.held first) (F.held second)
  pub done_3 : Written (writes w.metas.items) (F.held second) (F.held new)

pub not_ok : {T E : Type 0} (t : T) (e : E) (result : Result T E) → result ≡ Ok t → result ≡ Err e → ⊥
not_ok t e result ok err = let wrong : Ok t ≡ Err e = sym ok ∙ err in cc

module _ {A : Type 0} (F : FleetGhosts A) (told : F.tells) (w : VersionWrites) where
  all_3 : (old first second new : A) (result answer : Result (Unit {0}) RoundFault) (ended : List Job) → Image (writes w.first.items) (F.held old) (F.held first) → Written (writes w.first.items) (F.held old) (F.held first)
      → Image (writes w.second.items) (F.held first) (F.held second) → Written (writes w.second.items) (F.held first) (F.held second)
      → (mid : A) → Wrote F (writes w.metas.items) ended second mid answer → AfterRound answer ((new ≡ mid) × (result ≡ Ok tt)) mid new result → result ≡ Ok tt → WroteAll F w old new
  all_3 old first second new result (Ok done) ended image_1 done_1 image_2 done_2 mid wrote then ok =
      subst (λ (e : A). WroteAll F w old e) (sym then.0)
      (record { first = first; second = second; image_1 = image_1; image_2 = image_2; image_3 = wrote.image told; done_1 = done_1; done_2 = done_2; done_3 = wrote.done told })
  all_3 old first second new result (Err fault) ended image_1 done_1 image_2 done_2 mid wrote then ok = absurd (not_ok tt fault result ok then.1)

  all_2 : (old first new : A) (result answer : Result (Unit {0}) RoundFault) (ended : List Job) → Image (writes w.first.items) (F.held old) (F.held first) → Written (writes w.first.items) (F.held old) (F.held first)
      → (mid : A) → Wrote F (writes w.second.items) ended first mid answer → AfterRound answer (WroteInTurn F (writes w.metas.items ∷ []) mid new result) mid new result → result ≡ Ok tt → WroteAll F w old new
  all_2 old first new result (Ok done) ended image_1 done_1 mid wrote then ok =
      all_3 old first mid new result then.answer then.ended image_1 done_1 (wrote.image told) (wrote.done told) then.mid then.wrote then.then ok
  all_2 old first new result (Err fault) ended image_1 done_1 mid wrote then ok = absurd (not_ok tt fault result ok then.1)

  all_1 : (old new : A) (result answer : Result (Unit {0}) RoundFault) (ended : List Job) (mid : A) → Wrote F (writes w.first.items) ended old mid answer
      → AfterRound answer (WroteInTurn F (writes w.second.items ∷ writes w.metas.items ∷ []) mid new result) mid new result → result ≡ Ok tt → WroteAll F w old new
  all_1 old new result (Ok done) ended mid wrote then ok = all_2 old mid new result then.answer then.ended (wrote.image told) (wrote.done told) then.mid then.wrote then.then ok
  all_1 old new result (Err fault) ended mid wrote then ok = absurd (not_ok tt fault result ok then.1)

  -- where the answer is Ok, each round was
  pub wrote_all : (old new : A) (result : Result (Unit {0}) RoundFault) → WroteInTurn F (rounds_of w) old new result → result ≡ Ok tt → WroteAll F w old new
  wrote_all old new result turn ok = all_1 old new result turn.answer turn.ended turn.mid turn.wrote turn.then ok

  module _ (n : ℕ) (name v clouds : List ℕ) (of : WritesFile n name v clouds w) where
    -- then the chunks are right, and all clouds hold the metadata
    pub right_on : (old new : A) → WroteAll F w old new → All (RightOn n (F.held new) name (Stored w.live v)) clouds
    right_on old new all = metas_right n name v clouds w of (F.held all.second) (F.held new) all.image_3 (chunks_right n name v clouds w of (F.held old) (F.held all.first) (F.held all.second) all.done_1 all.image_2 all.done_2)

    pub held_on : (old new : A) → IsLive n w.live → WroteAll F w old new → AllHold n (F.held new) name (Stored w.live v)
    held_on old new fits all = all_hold n name v clouds w of (F.held all.second) (F.held new) fits all.done_3

    module _ (V : Vault) (old : A) (p : Replaces n name clouds V (F.held old) w.live v) where
      abbrev Q : Contents → Type 0
      Q = Begun n name v clouds w of V (F.held old) p

      abbrev R : Contents → Type 0
      R = Rests n name v clouds w of V (F.held old) p

      begun_3 : {second mid new : A} (result answer : Result (Unit {0}) RoundFault) {ended : List Job} → R (F.held second) → All (RightOn n (F.held second) name (Stored w.live v)) clouds
          → Wrote F (writes w.metas.items) ended second mid answer → AfterRound answer ((new ≡ mid) × (result ≡ Ok tt)) mid new result → Keeps F second new Q
      begun_3 {second = second} {mid = mid} {new = new} result answer rests right wrote then =
          subst (λ (e : A). Keeps F second e Q) (sym (same answer then))
          (keeps_by Q (wrote.keeps told) (λ G image. (metas_begun n name v clouds w of V (F.held old) p (F.held second) G rests right image).0))
        where
          same : (a : Result (Unit {0}) RoundFault) → AfterRound a ((new ≡ mid) × (result ≡ Ok tt)) mid new result → new ≡ mid
          same (Ok done) t = t.0
          same (Err fault) t = t.0

      begun_2 : {first mid new : A} (result answer : Result (Unit {0}) RoundFault) {ended : List Job} → R (F.held first) → Written (writes w.first.items) (F.held old) (F.held first)
          → Wrote F (writes w.second.items) ended first mid answer → AfterRound answer (WroteInTurn F (writes w.metas.items ∷ []) mid new result) mid new result → Keeps F first new Q
      begun_2 {first} {mid} {new} result (Ok done) rests one wrote then =
          let kept : Keeps F first mid R = keeps_by R (wrote.keeps told) (λ G image. rests_2 n name v clouds w of V (F.held old) p (F.held first) G rests image) in
          keeps_then (keeps_by Q kept (before n name v clouds w of V (F.held old) p))
          (begun_3 result then.answer kept.here (chunks_right n name v clouds w of (F.held old) (F.held first) (F.held mid) one (wrote.image told) (wrote.done told)) then.wrote then.then)
      begun_2 {first} {mid} {new} result (Err fault) rests one wrote then =
          let kept : Keeps F first mid R = keeps_by R (wrote.keeps told) (λ G image. rests_2 n name v clouds w of V (F.held old) p (F.held first) G rests image) in
          subst (λ (e : A). Keeps F first e Q) (sym then.0) (keeps_by Q kept (before n name v clouds w of V (F.held old) p))

      begun_1 : {mid new : A} (result answer : Result (Unit {0}) RoundFault) {ended : List Job} → Wrote F (writes w.first.items) ended old mid answer
          → AfterRound answer (WroteInTurn F (writes w.second.items ∷ writes w.metas.items ∷ []) mid new result) mid new result → Keeps F old new Q
      begun_1 {mid} {new} result (Ok done) wrote then =
          let kept : Keeps F old mid R = keeps_by R (wrote.keeps told) (λ G image. rests_1 n name v clouds w of V (F.held old) p (F.held old) G p.rests image) in
          keeps_then (keeps_by Q kept (before n name v clouds w of V (F.held old) p)) (begun_2 result then.answer kept.here (wrote.done told) then.wrote then.then)
      begun_1 {mid} {new} result (Err fault) wrote then =
          let kept : Keeps F old mid R = keeps_by R (wrote.keeps told) (λ G image. rests_1 n name v clouds w of V (F.held old) p (F.held old) G p.rests image) in
          subst (λ (e : A). Keeps F old e Q) (sym then.0) (keeps_by Q kept (before n name v clouds w of V (F.held old) p))

      -- wherever the rounds are stopped, the clouds stand for the version begun
      pub version_begun : (new : A) (result : Result (Unit {0}) RoundFault) → WroteInTurn F (rounds_of w) old new result
          → Keeps F old new (λ G. StandsAfter n V.contents G V.entries V.damaged name (Some (Stored w.live v)))
      version_begun new result turn = begun_1 result turn.answer turn.wrote turn.then

      -- and once each was Ok, the name is at rest at it
      pub version_done : (new : A) → WroteAll F w old new → RestsAt n (F.held new) V.entries V.damaged name (Stored w.live v)
      version_done new all =
          let one : R (F.held all.first) = rests_1 n name v clouds w of V (F.held old) p (F.held old) (F.held all.first) p.rests all.image_1 in
          let two : R (F.held all.second) = rests_2 n name v clouds w of V (F.held old) p (F.held all.first) (F.held all.second) one all.image_2 in
          let right = chunks_right n name v clouds w of (F.held old) (F.held all.first) (F.held all.second) all.done_1 all.image_2 all.done_2 in
          (metas_begun n name v clouds w of V (F.held old) p (F.held all.second) (F.held new) two right all.image_3).1 (held_on old new p.next.0.stored all)
