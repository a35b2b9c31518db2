-- What follows of what a put did.
use Rattle.std.proofs.Common.{◌≡◌, ◌<◌, ◌≤◌, ℕ, Option, Some, List, slice_index, Result, IfOk, IfSome, OnOk, refl, sym, ap, ◌∙◌, subst, arith, inl}
use Rattle.nc_name.specs.Names.{IsName}
use Rattle.nc_meta.specs.declared.meta.Live.{Live}
use Rattle.nc_meta.specs.declared.meta.Meta.{Meta}
use Rattle.nc_meta.specs.declared.meta.Meta.TheVariants as meta
use Rattle.nc_meta.specs.Metas.{IsMeta}
use Rattle.nc_nextloss.specs.GoodCodes.{GoodParts}
use Rattle.nc_cloud.specs.declared.deciding.RoundFault.{RoundFault}
use Rattle.nc_cloud.specs.declared.fleet.Fleet.{Ghosts as FleetGhosts}
use Rattle.nc_cloud.specs.Contents.{Contents, Write}
use Rattle.nc_cloud.specs.Stopping.{Keeps}
use Rattle.nc_cloud.proofs.Time.{keeps_by}
use Rattle.nc_settle.specs.declared.settled.Settled.{Settled}
use Rattle.nc_state.specs.Right.{HasChunkAt, RightOn}
use Rattle.nc_state.specs.Vaults.{BeginsMaking, ChangesOnlyName, ComesTo, MayBegin, MayDo, Vault, version_in}
use Rattle.nc_state.specs.Versions.{Version, meta_of}
use Rattle.nc_state.specs.Versions.Version.{Stored}
use Rattle.nc_state.proofs.ChunkLaws.{free_slot_is_free, new_places_stand}
use Rattle.nc_write.specs.declared.fault.WriteFault.{WriteFault}
use Rattle.nc_write.specs.declared.sealing.VersionWrites.{VersionWrites}
use Rattle.nc_write.specs.Doing.{PreparesPut, WriteDid}
use Rattle.nc_write.specs.InTurn.{WroteInTurn, rounds_of}
use Rattle.nc_write.specs.Putting.{IsPutBy, IsPutOf, IsStored, each_cloud, put_meta, slot_after}
use Rattle.nc_write.specs.Replacing.{Replaces}
use Rattle.nc_write.specs.Writes.{chunk_key}
use Rattle.nc_write.proofs.ChunkRounds.{chunks_of_name, metas_of_name}
use Rattle.nc_write.proofs.DoingLaws.{did_alone, did_begin, did_ok, did_on_ok}
use Rattle.nc_write.proofs.InTurnLaws.{AllOfName}
use Rattle.nc_write.proofs.PuttingLaws.{put_next, put_slot}
use Rattle.nc_write.proofs.RowLaws.{all_in_row, on_each}
use Rattle.nc_write.proofs.VersionRounds.{WroteAll, held_on, right_on, version_begun, version_done, wrote_all}

-- ---- where the writes of a put replace what was settled

module _ (n : ℕ) (name : List ℕ) (is_name : IsName name) (top : Option Meta) (good : GoodParts) (v : List ℕ) (w : VersionWrites) (of : IsPutOf n name top good v w) where
  abbrev y : Version
  y = Stored w.live v

  narrow : n ≤ 10
  narrow = let low : w.live.code.width ≤ 10 = of.valid.stored.code.narrow in let same : w.live.code.width ≡ n = of.valid.stored.width in omega (arith, low, same)

  -- its chunks stand beside those of the version before
  beside : (x : Version) → meta_of x ≡ top → (c r : ℕ) → c < n → r < 2 → HasChunkAt name x c (chunk_key name w.live r c) → ⊥
  beside x of_x c r l pair old =
      free_slot_is_free name x w.live v c (chunk_key name w.live r c)
      (ap (λ (m : Live). slice_index m.slots c) of.is ∙ put_slot n top good v c narrow l ∙ ap (λ (o : Option Meta). slot_after o c) (sym of_x)) (refl, refl, pair) old

  pub replaces : (V : Vault) (H : Contents) → ComesTo n name V H top → Replaces n name (each_cloud n) V H w.live v
  replaces V H comes = record {
    is_name = is_name;
    stands = comes.stands;
    rests = comes.rests;
    next = put_next n name top good v w of (version_in n V name) comes.is_top;
    free = λ r pair. all_in_row (λ c. HasChunkAt name (version_in n V name) c (chunk_key name w.live r c) → ⊥) (λ c. c) n (λ c l. beside (version_in n V name) comes.is_top c r l pair);
    others = λ G places right. new_places_stand n G V.damaged name (version_in n V name) y places (λ c l. inl (on_each (RightOn n G name y) n right c l));
  }

  -- it is a version that a put makes
  pub put_by : (x : Version) → meta_of x ≡ top → IsPutBy n good v x y
  put_by x of_x = record {
    is = ap (λ (m : Live). Stored m v) of.is ∙ ap (λ (o : Option Meta). Stored (put_meta n o good v) v) (sym of_x);
    next = put_next n name top good v w of x of_x;
  }

-- ---- what a put did

module _ {A : Type 0} {F : FleetGhosts A} (n : ℕ) (name : List ℕ) (top : Option Meta) (good : GoodParts) (v : List ℕ) {old new : A} {result : Result Settled WriteFault}
    (did : WriteDid F top (PreparesPut n name top good v) old new result) where
  turn_of : (w : VersionWrites) (rounds : List (List Write)) (answer : Result (Unit {0}) RoundFault) → rounds ≡ rounds_of w → WroteInTurn F rounds old new answer → WroteInTurn F (rounds_of w) old new answer
  turn_of w rounds answer are turn = subst (λ (ps : List (List Write)). WroteInTurn F ps old new answer) are turn

  pub put_made : IfOk result (λ s. s.top ≡ Some (meta.Live (put_meta n top good v)))
  put_made = did_ok (λ s. s.top ≡ Some (meta.Live (put_meta n top good v))) (λ m rounds answer p turn ok. ap (λ (k : Meta). Some k) p.is_meta ∙ ap (λ (k : Live). Some (meta.Live k)) p.of.is) did

  pub put_fits : IfOk result (λ s. IfSome s.top (IsMeta n))
  put_fits = did_ok (λ s. IfSome s.top (IsMeta n)) (λ m rounds answer p turn ok. subst (IsMeta n) (sym p.is_meta) p.of.valid.stored) did

  pub put_stored : F.tells → OnOk result (IsStored n (F.held new) name (Stored (put_meta n top good v) v))
  put_stored told =
      did_on_ok (IsStored n (F.held new) name (Stored (put_meta n top good v) v)) (λ m rounds answer p turn ok.
      let w : VersionWrites = p.version in
      let of : IsPutOf n name top good v w = p.of in
      let all : WroteAll F w old new = wrote_all F told w old new answer (turn_of w rounds answer p.are_rounds turn) ok in
      subst (λ (k : Live). IsStored n (F.held new) name (Stored k v)) of.is
      (record {
        held = held_on F told w n name v (each_cloud n) of.made old new of.valid.stored all;
        right = λ c l. on_each (RightOn n (F.held new) name (Stored w.live v)) n (right_on F told w n name v (each_cloud n) of.made old new all) c l;
      })) did

  pub put_begins : F.tells → IsName name → MayBegin F n name top (IsPutBy n good v) old new
  put_begins told is_name =
      did_begin n name (IsPutBy n good v) is_name (λ m rounds answer p turn V comes.
      let w : VersionWrites = p.version in
      keeps_by (BeginsMaking n name (IsPutBy n good v) V)
      (version_begun F told w n name v (each_cloud n) p.of.made V old (replaces n name is_name top good v w p.of V (F.held old) comes) new answer (turn_of w rounds answer p.are_rounds turn))
      (λ G stands. record { made = Some (Stored w.live v); makes_it = put_by n name is_name top good v w p.of (version_in n V name) comes.is_top; stands = stands })) did

  pub put_does : F.tells → IsName name → IfOk result (λ s. MayDo n name top (IsPutBy n good v) (F.held old) (F.held new) s.top)
  put_does told is_name =
      did_ok (λ s. MayDo n name top (IsPutBy n good v) (F.held old) (F.held new) s.top) (λ m rounds answer p turn ok.
      let w : VersionWrites = p.version in
      record {
        each = λ V comes. record {
          version = Stored w.live v;
          made = put_by n name is_name top good v w p.of (version_in n V name) comes.is_top;
          is_top = ap (λ (k : Meta). Some k) (sym p.is_meta);
          rests =
              version_done F told w n name v (each_cloud n) p.of.made V old (replaces n name is_name top good v w p.of V (F.held old) comes) new
              (wrote_all F told w old new answer (turn_of w rounds answer p.are_rounds turn) ok);
        };
      }) did

  put_of_name : (m : Meta) (rounds : List (List Write)) → PreparesPut n name top good v m rounds → AllOfName name rounds
  put_of_name m rounds p =
      let w : VersionWrites = p.version in
      let made = p.of.made in
      subst (AllOfName name) (sym p.are_rounds) (
        chunks_of_name n name w.live 0 made.zeros w.first.items made.made.row_0,
        (
          chunks_of_name n name w.live 1 made.ones w.second.items made.made.row_1,
          (metas_of_name n name (meta.Live w.live) w.metas.items made.made.metas_are, tt),
        ),
      )

  pub put_alone : F.tells → Keeps F old new (ChangesOnlyName name (F.held old))
  put_alone told = did_alone told name put_of_name did
