-- What follows of what a removal did.
use Rattle.std.proofs.Common.{◌≡◌, ◌+◌, ℕ, true, Option, Some, List, [], ◌∷◌, Result, Ok, IfOk, IfSome, OnOk, refl, sym, ap, ◌∙◌, subst, inl}
use Rattle.nc_name.specs.Names.{IsName}
use Rattle.nc_meta.specs.declared.meta.Meta.{Meta}
use Rattle.nc_meta.specs.declared.meta.Meta.TheVariants as meta
use Rattle.nc_meta.specs.Metas.{IsMeta}
use Rattle.nc_meta.specs.Parts.{IsGeneration}
use Rattle.nc_cloud.specs.declared.deciding.RoundFault.{RoundFault}
use Rattle.nc_cloud.specs.declared.fleet.Fleet.{Ghosts as FleetGhosts}
use Rattle.nc_cloud.specs.declared.fleet.Job.{Job}
use Rattle.nc_cloud.specs.Contents.{Contents, Write}
use Rattle.nc_cloud.specs.Deciding.{Wrote}
use Rattle.nc_cloud.specs.Fleet.{writes}
use Rattle.nc_cloud.specs.Images.{Image, Written}
use Rattle.nc_cloud.specs.Stopping.{Keeps}
use Rattle.nc_cloud.proofs.Time.{keeps_by}
use Rattle.nc_settle.specs.declared.settled.Settled.{Settled}
use Rattle.nc_state.specs.Commands.{RestsAt, StandsAfter}
use Rattle.nc_state.specs.Holding.{AllHold, IsLiveTop, top_generation}
use Rattle.nc_state.specs.Vaults.{BeginsMaking, ChangesOnlyName, ComesTo, MayBegin, MayDo, Vault, version_in}
use Rattle.nc_state.specs.Versions.{Version, is_stored, meta_of}
use Rattle.nc_state.specs.Versions.Version.{Never, Removed, Stored}
use Rattle.nc_state.proofs.ChunkLaws.{new_places_stand, nothing_to_be_right}
use Rattle.nc_state.proofs.CommandLaws.{metas_written}
use Rattle.nc_write.specs.declared.fault.WriteFault.{WriteFault}
use Rattle.nc_write.specs.Doing.{WriteDid, answer_by}
use Rattle.nc_write.specs.Doing.WriteDid.{in_turn}
use Rattle.nc_write.specs.InTurn.{WroteInTurn}
use Rattle.nc_write.specs.Removing.{IsRemoval, PreparesRemoval, gone_after}
use Rattle.nc_write.specs.Writes.{AreMetaWrites}
use Rattle.nc_write.proofs.ChunkRounds.{metas_held, metas_image, metas_of_name}
use Rattle.nc_write.proofs.DoingLaws.{did_alone, did_begin, did_ok, did_on_ok, has_next}
use Rattle.nc_write.proofs.InTurnLaws.{AllOfName, one_round}

-- ---- the version that a removal makes

stored_by : (x : Version) (top : Option Meta) → meta_of x ≡ top → IsLiveTop top → is_stored x ≡ true
stored_by Never top is live = absurd (subst IsLiveTop (sym is) live)
stored_by (Removed generation) top is live = absurd (subst IsLiveTop (sym is) live)
stored_by (Stored m v) top is live = refl

module _ (n : ℕ) (name : List ℕ) (top : Option Meta) (live : IsLiveTop top) (last : IsGeneration (top_generation top + 1)) where
  abbrev y : Version
  y = Removed (top_generation top + 1)

  -- it follows each file with that metadata
  removal : (x : Version) → meta_of x ≡ top → IsRemoval n x y
  removal x is = record {
    stored = stored_by x top is live;
    is = ap (λ (o : Option Meta). Removed (top_generation o + 1)) (sym is);
    next = (last, ap (λ (o : Option Meta). top_generation o + 1) (sym is));
  }

  -- what its round leaves
  round_leaves : (jobs : List Job) → AreMetaWrites n name (gone_after top) jobs → IsName name → (V : Vault) (H G : Contents) → ComesTo n name V H top → Image (writes jobs) H G
      → StandsAfter n V.contents G V.entries V.damaged name (Some y) × (AllHold n G name y → RestsAt n G V.entries V.damaged name y)
  round_leaves jobs made is_name V H G comes image =
      let x : Version = version_in n V name in
      metas_written n V.contents H G V.entries V.damaged name y (gone_after top) is_name comes.stands comes.rests (removal x comes.is_top).next refl
      (new_places_stand n H V.damaged name x y comes.rests.rests.places (λ c l. inl ((nothing_to_be_right n H name c).1 (top_generation top + 1))))
      (metas_image n name (gone_after top) jobs made H G image)

-- ---- what a removal did

-- its round was prepared after a generation that has a next one
pub removal_did : {A : Type 0} {F : FleetGhosts A} (n k : ℕ) (name : List ℕ) (top : Option Meta) (before next : ℕ) (jobs : List Job) {old new : A} (answer : Result (Unit {0}) RoundFault) (result : Result Settled WriteFault) → k ≡ n
    → before ≡ top_generation top → next ≡ before + 1 → IsGeneration next → AreMetaWrites k name (meta.Gone next) jobs → WroteInTurn F (writes jobs ∷ []) old new answer → result ≡ answer_by (meta.Gone next) answer
    → WriteDid F top (PreparesRemoval n name top) old new result
removal_did n k name top before next jobs answer result width is more last made turn gives =
    let same : next ≡ top_generation top + 1 = more ∙ ap (λ (g : ℕ). g + 1) is in
    in_turn (has_next top before next is more last) (meta.Gone next) (writes jobs ∷ []) answer
    (record {
      jobs = jobs;
      is_meta = ap (λ (g : ℕ). meta.Gone g) same;
      last = subst IsGeneration same last;
      made = subst (λ (g : ℕ). AreMetaWrites n name (meta.Gone g) jobs) same (subst (λ (w : ℕ). AreMetaWrites w name (meta.Gone next) jobs) width made);
      are_rounds = refl;
    }) turn gives

module _ {A : Type 0} {F : FleetGhosts A} (n : ℕ) (name : List ℕ) (top : Option Meta) {old new : A} {result : Result Settled WriteFault} (did : WriteDid F top (PreparesRemoval n name top) old new result) where
  wrote_of : (m : Meta) (rounds : List (List Write)) (answer : Result (Unit {0}) RoundFault) (p : PreparesRemoval n name top m rounds) → WroteInTurn F rounds old new answer
      → (ended : List Job) × Wrote F (writes p.jobs) ended old new answer
  wrote_of m rounds answer p turn = one_round (writes p.jobs) old new answer (subst (λ (ps : List (List Write)). WroteInTurn F ps old new answer) p.are_rounds turn)

  held_by : F.tells → (m : Meta) (rounds : List (List Write)) (answer : Result (Unit {0}) RoundFault) (p : PreparesRemoval n name top m rounds) → WroteInTurn F rounds old new answer → answer ≡ Ok tt
      → AllHold n (F.held new) name (Removed (top_generation top + 1))
  held_by told m rounds answer p turn ok =
      let written : Written (writes p.jobs) (F.held old) (F.held new) =
      subst (λ (r : Result (Unit {0}) RoundFault). OnOk r (Written (writes p.jobs) (F.held old) (F.held new))) ok ((wrote_of m rounds answer p turn).1.done told) in
      λ c l. metas_held n name (gone_after top) p.jobs p.made (F.held old) (F.held new) p.last written c l

  pub remove_made : IfOk result (λ s. s.top ≡ Some (gone_after top))
  remove_made = did_ok (λ s. s.top ≡ Some (gone_after top)) (λ m rounds answer p turn ok. ap (λ (k : Meta). Some k) p.is_meta) did

  pub remove_fits : IfOk result (λ s. IfSome s.top (IsMeta n))
  remove_fits = did_ok (λ s. IfSome s.top (IsMeta n)) (λ m rounds answer p turn ok. subst (IsMeta n) (sym p.is_meta) p.last) did

  pub remove_held : F.tells → OnOk result (AllHold n (F.held new) name (Removed (top_generation top + 1)))
  remove_held told = did_on_ok (AllHold n (F.held new) name (Removed (top_generation top + 1))) (held_by told) did

  pub remove_begins : IsLiveTop top → F.tells → IsName name → MayBegin F n name top (IsRemoval n) old new
  remove_begins live told is_name =
      did_begin n name (IsRemoval n) is_name (λ m rounds answer p turn V comes.
      keeps_by (BeginsMaking n name (IsRemoval n) V) ((wrote_of m rounds answer p turn).1.keeps told)
      (λ G image. record {
        made = Some (Removed (top_generation top + 1));
        makes_it = removal n name top live p.last (version_in n V name) comes.is_top;
        stands = (round_leaves n name top live p.last p.jobs p.made is_name V (F.held old) G comes image).0;
      })) did

  pub remove_does : IsLiveTop top → F.tells → IsName name → IfOk result (λ s. MayDo n name top (IsRemoval n) (F.held old) (F.held new) s.top)
  remove_does live told is_name =
      did_ok (λ s. MayDo n name top (IsRemoval n) (F.held old) (F.held new) s.top) (λ m rounds answer p turn ok. record {
        each = λ V comes. record {
          version = Removed (top_generation top + 1);
          made = removal n name top live p.last (version_in n V name) comes.is_top;
          is_top = ap (λ (k : Meta). Some k) (sym p.is_meta);
          rests =
              (round_leaves n name top live p.last p.jobs p.made is_name V (F.held old) (F.held new) comes ((wrote_of m rounds answer p turn).1.image told)).1
              (held_by told m rounds answer p turn ok);
        };
      }) did

  remove_of_name : (m : Meta) (rounds : List (List Write)) → PreparesRemoval n name top m rounds → AllOfName name rounds
  remove_of_name m rounds p = subst (AllOfName name) (sym p.are_rounds) (metas_of_name n name (gone_after top) p.jobs p.made, tt)

  pub remove_alone : F.tells → Keeps F old new (ChangesOnlyName name (F.held old))
  remove_alone told = did_alone told name remove_of_name did
