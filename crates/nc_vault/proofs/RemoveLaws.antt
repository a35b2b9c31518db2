-- A removal: what is written over what its name was settled on.
use Rattle.std.proofs.Common.{◌≡◌, ◌<◌, ◌≤◌, ◌+◌, ◌-◌, ◌^◌, ℕ, true, false, Option, None, Some, List, [], ◌∷◌, refl, sym, ap, ◌∙◌, subst, arith}
use Rattle.nc_name.specs.Names.{IsName}
use Rattle.nc_meta.specs.declared.meta.Meta.{Meta}
use Rattle.nc_meta.specs.declared.meta.Meta.TheVariants.{Gone as GoneMeta}
use Rattle.nc_cloud.specs.declared.fleet.Fleet.{Ghosts as FleetGhosts}
use Rattle.nc_settle.specs.declared.settled.SettleFault.{SettleFault}
use Rattle.nc_state.specs.Holding.{AllHold, HoldsIfAny, IsLiveTop, top_generation}
use Rattle.nc_state.specs.Right.{RightOn}
use Rattle.nc_state.specs.Tidy.{IsTidy}
use Rattle.nc_state.specs.Versions.{Version, is_stored, meta_of}
use Rattle.nc_state.specs.Versions.Version.{Never, Removed, Stored}
use Rattle.nc_words.specs.declared.act.Act.TheVariants as act
use Rattle.nc_words.specs.declared.setting.Setting.{Setting}
use Rattle.nc_words.specs.Acts.{Task, task_of}
use Rattle.nc_write.specs.Doing.{HasWriteCause, IsWorn}
use Rattle.nc_write.specs.Removing.{IsRemoval}
use Rattle.nc_write.specs.Tidying.{NoneSlipped}
use Rattle.nc_write.specs.declared.fault.WriteFault.{WriteFault}
use Rattle.nc_write.specs.declared.fault.WriteFault.TheVariants as write
use Rattle.nc_vault.specs.declared.fault.Fault.TheVariants as fault
use Rattle.nc_vault.specs.declared.reply.Reply.TheVariants as reply
use Rattle.nc_vault.specs.Acting.{Acted, LeavesTidy}
use Rattle.nc_vault.specs.Faults.{fault_of_settle, fault_of_write}
use Rattle.nc_vault.specs.Vaults.{fills}
use Rattle.nc_vault.specs.Writing.{IsSettled, IsUnsettled, IsWritten, Tidies, Writes}
use Rattle.nc_vault.proofs.OneName.{WritesOne, finished, leaves_tidy, unfinished, unnamed_yet, unsettled, untidied, unwritten}
use Rattle.nc_vault.proofs.PutLaws.{worn_at}

-- a version of a file has its metadata
live_is_stored : (x : Version) → IsLiveTop (meta_of x) → is_stored x ≡ true
live_is_stored Never live = absurd live
live_is_stored (Removed generation) live = absurd live
live_is_stored (Stored m v) live = refl

not_live_not_stored : (x : Version) → (IsLiveTop (meta_of x) → ⊥) → is_stored x ≡ false
not_live_not_stored Never out = refl
not_live_not_stored (Removed generation) out = refl
not_live_not_stored (Stored m v) out = absurd (out tt)

module _ (s : Setting) (name v : List ℕ) where
  abbrev pub remove_task : Task
  remove_task = task_of s (act.Remove name) v

  remove_writes : WritesOne (act.Remove name) name
  remove_writes = record {
    works = λ n G. refl;
    tells = refl;
    stopped = λ f. refl;
    changes = λ F G only. only;
    bears = refl;
    restores_none = refl;
    unread = λ answer. refl;
    took = λ n answer before now. tt;
    fits = λ n. tt;
    writes = refl;
    only = λ n G names works. works;
    says = λ n task F G f refuses. refuses;
  }

  module _ {A : Type 0} (F : FleetGhosts A) (is : IsName name) (old : A) where
    abbrev n : ℕ
    n = F.clouds old

    pub remove_unsettled : {mid : A} (f : SettleFault) → IsUnsettled F name old mid f → Acted F remove_task old mid (reply.Stopped (fault_of_settle f) None)
    remove_unsettled f u = unsettled F remove_task name remove_writes is old f u

    module _ {mid : A} (top : Option Meta) (came : IsSettled F name old mid top) where
      pub remove_none : (IsLiveTop top → ⊥) → Acted F remove_task old mid (reply.Stopped fault.NoFile None)
      remove_none out =
          unwritten F remove_task name remove_writes is old top came fault.NoFile (unnamed_yet F remove_task name remove_writes is old top came) tt
          (λ told. record { top = top; agreed = came.agreed told; not_live = out })
          (λ told S D stands of. record {
            names = name ∷ [];
            works_on = refl;
            name = name;
            among = (0, omega arith, refl);
            prevents = (refl, not_live_not_stored _ (subst (λ (t : Option Meta). IsLiveTop t → ⊥) (sym of) out));
          })

      -- there is a file
      module _ (live : IsLiveTop top) where
        remove_worn : 2 ^ 64 - 2 ≤ top_generation top → Acted F remove_task old mid (reply.Stopped fault.Worn None)
        remove_worn last =
            unwritten F remove_task name remove_writes is old top came fault.Worn (unnamed_yet F remove_task name remove_writes is old top came) tt
            (λ told. worn_at n name (F.held old) top (came.agreed told).is_top came.fits last)
            (λ told S D stands of. record {
              names = name ∷ [];
              works_on = refl;
              name = name;
              among = (0, omega arith, refl);
              prevents = (live_is_stored _ (subst IsLiveTop (sym of) live), subst (λ (t : Option Meta). 2 ^ 64 - 2 ≤ top_generation t) (sym of) last);
            })

        -- what isn't done of a worn name leaves the state
        pub remove_unfinished : {end : A} (f : WriteFault) {k : ℕ} → k ≡ n → Writes F k name top (IsRemoval k) mid end → (f ≡ write.Worn → IsWorn top × (end ≡ mid))
            → HasWriteCause F.counts_exactly (F.faults mid) (F.faults end) f → Acted F remove_task old end (reply.Stopped (fault_of_write f) None)
        remove_unfinished {end} (write.Cloud c) k_is writes worn cause =
            unfinished F remove_task name remove_writes is old top came (IsRemoval n) (λ x y of made. made) (write.Cloud c)
            (subst (λ (k : ℕ). Writes F k name top (IsRemoval k) mid end) k_is writes) (λ no. absurd cc) cause
        remove_unfinished write.Worn k_is writes worn cause =
            let at = worn refl in
            subst (λ (e : A). Acted F remove_task old e (reply.Stopped fault.Worn None)) (sym at.1) (remove_worn (let last = at.0 in omega (arith, last)))
        remove_unfinished {end} write.Memory k_is writes worn cause =
            unfinished F remove_task name remove_writes is old top came (IsRemoval n) (λ x y of made. made) write.Memory
            (subst (λ (k : ℕ). Writes F k name top (IsRemoval k) mid end) k_is writes) (λ no. absurd cc) cause

        module _ {end new : A} (next : Option Meta) {k : ℕ} (k_is : k ≡ n) (written : IsWritten F k name top (IsRemoval k) mid end next)
            {j : ℕ} (j_is : j ≡ n) (tidies : Tidies F j name next end new) where
          written_here : IsWritten F n name top (IsRemoval n) mid end next
          written_here = subst (λ (h : ℕ). IsWritten F h name top (IsRemoval h) mid end next) k_is written

          tidies_here : Tidies F n name next end new
          tidies_here = subst (λ (h : ℕ). Tidies F h name next end new) j_is tidies

          pub remove_untidied : Acted F remove_task old new (reply.Stopped fault.Memory None)
          remove_untidied = untidied F remove_task name remove_writes is old top came (IsRemoval n) (λ x y of made. made) next written_here tidies_here (λ x y made. made.next)

          module _ (wide : 4 ≤ n) (narrow : n ≤ 10) (tidy : F.tells → F.sure_deletes → NoneSlipped F end new → IsTidy j (F.held new) name next)
              (made : next ≡ Some (GoneMeta (top_generation top + 1))) (held : F.tells → AllHold k (F.held end) name (Removed (top_generation top + 1))) where
            held_still : F.tells → AllHold n (F.held new) name (Removed (top_generation top + 1))
            held_still told =
                (tidies_here.keeps told).here.held (Removed (top_generation top + 1)) (sym made)
                (subst (λ (h : ℕ). AllHold h (F.held end) name (Removed (top_generation top + 1))) k_is (held told))

            fills_none : F.tells → (x y : Version) → meta_of x ≡ top → IsRemoval n x y → (c : ℕ) → c < n → fills (act.Remove name) c ≡ true → RightOn n (F.held new) name y c
            fills_none told x y of made_so c l fill = absurd cc

            tidied : F.tells → F.sure_deletes → NoneSlipped F old new → LeavesTidy n (act.Remove name) (F.held old) (F.held new)
            tidied told sure none =
                leaves_tidy F remove_task name remove_writes is old top came (IsRemoval n) (λ x y of made_so. made_so) next written_here tidies_here (λ x y made_so. made_so.next) (λ x y made_so. made_so)
                fills_none wide narrow (λ c l. subst (HoldsIfAny n (F.held new) name c) (sym made) (held_still told c l))
                (λ slipped. subst (λ (h : ℕ). IsTidy h (F.held new) name next) j_is (tidy told sure slipped)) none

            pub remove_finished : (generation : ℕ) → generation ≡ top_generation next → Acted F remove_task old new (reply.Removed generation)
            remove_finished generation of_next =
                let is_generation : generation ≡ top_generation top + 1 = of_next ∙ ap (λ (o : Option Meta). top_generation o) made in
                finished F remove_task name remove_writes is old top came (IsRemoval n) (λ x y of made_so. made_so) next written_here tidies_here (λ x y made_so. made_so.next) (λ x y made_so. made_so)
                fills_none (reply.Removed generation) tt (λ none. none) tt
                (λ told. record {
                  top = top;
                  agreed = came.agreed told;
                  live = live;
                  is_next = is_generation;
                  held = subst (λ (g : ℕ). AllHold n (F.held new) name (Removed g)) (sym is_generation) (held_still told);
                })
                (λ V done. done) (λ V of. is_generation ∙ ap (λ (o : Option Meta). top_generation o + 1) (sym of)) tidied
