-- A put: what is drawn and written over what its name was settled on.
use Rattle.std.proofs.Common.{◌≡◌, ◌≢◌, ◌<◌, ◌≤◌, ◌+◌, ◌-◌, ◌^◌, ℕ, Option, None, Some, List, [], ◌∷◌, IfSome, refl, sym, ap, ◌∙◌, subst, arith}
use Rattle.nc_name.specs.Names.{IsName}
use Rattle.nc_meta.specs.declared.meta.Meta.{Meta}
use Rattle.nc_meta.specs.declared.meta.Meta.TheVariants.{Live as LiveMeta, Gone as GoneMeta}
use Rattle.nc_meta.specs.Metas.{IsMeta, generation_of}
use Rattle.nc_nextloss.specs.GoodCodes.{GoodParts}
use Rattle.nc_search.specs.Searches.{IsStart, NoStart}
use Rattle.nc_cloud.specs.Contents.{Contents}
use Rattle.nc_cloud.specs.declared.fleet.Fleet.{Ghosts as FleetGhosts}
use Rattle.nc_state.specs.Holding.{HoldsIfAny, IsTopOrNone, top_generation}
use Rattle.nc_state.specs.Right.{RightOn}
use Rattle.nc_state.specs.Tidy.{IsTidy}
use Rattle.nc_state.specs.Versions.{Version, meta_of}
use Rattle.nc_state.specs.Versions.Version.{Stored}
use Rattle.nc_settle.specs.declared.settled.SettleFault.{SettleFault}
use Rattle.nc_words.specs.declared.act.Act.TheVariants as act
use Rattle.nc_words.specs.declared.setting.Setting.{Setting}
use Rattle.nc_words.specs.Acts.{Task, task_of}
use Rattle.nc_write.specs.Doing.{HasWriteCause}
use Rattle.nc_write.specs.Putting.{IsPutBy, IsStored, put_meta}
use Rattle.nc_write.specs.Tidying.{NoneSlipped}
use Rattle.nc_write.specs.declared.fault.WriteFault.{WriteFault}
use Rattle.nc_write.specs.declared.fault.WriteFault.TheVariants as write
use Rattle.nc_vault.specs.declared.fault.Fault.{Fault}
use Rattle.nc_vault.specs.declared.fault.Fault.TheVariants as fault
use Rattle.nc_vault.specs.declared.reply.Reply.TheVariants as reply
use Rattle.nc_vault.specs.Acting.{Acted, LeavesTidy}
use Rattle.nc_vault.specs.Drawing.{IsDrawn, RefusesNext}
use Rattle.nc_vault.specs.Faults.{fault_of_settle, fault_of_write}
use Rattle.nc_vault.specs.Makings.{IsPut, next_key}
use Rattle.nc_vault.specs.Saying.{IsWornAt}
use Rattle.nc_vault.specs.Writing.{IsSettled, IsUnsettled, IsWritten, Tidies, Writes}
use Rattle.nc_vault.proofs.OneName.{WritesOne, finished, leaves_tidy, unfinished, unnamed_yet, unsettled, untidied, unwritten}

last_generation : (n : ℕ) (m : Meta) → IsMeta n m → 2 ^ 64 - 2 ≤ generation_of m → generation_of m ≡ 2 ^ 64 - 2
last_generation n (LiveMeta m) fits last = let high = fits.generation.1 in omega (arith, last)
last_generation n (GoneMeta generation) fits last = let high = fits.1 in omega (arith, last)

-- the highest metadata has the last generation
pub worn_at : (n : ℕ) (name : List ℕ) (F : Contents) (top : Option Meta) → IsTopOrNone n F name top → IfSome top (IsMeta n) → 2 ^ 64 - 2 ≤ top_generation top → IsWornAt n name F
worn_at n name F None is fits last = absurd (omega (arith, last))
worn_at n name F (Some m) is fits last = record { meta = m; top = is; last = last_generation n m fits last }

put_generation : (n : ℕ) (top : Option Meta) (good : GoodParts) (v : List ℕ) → (put_meta n top good v).generation ≡ top_generation top + 1
unfolding put_meta
put_generation n top good v = refl

module _ (s : Setting) (name v : List ℕ) where
  abbrev pub put_task : Task
  put_task = task_of s (act.Put name) v

  put_writes : WritesOne (act.Put name) name
  put_writes = record {
    works = λ n G. refl;
    tells = refl;
    stopped = λ f. refl;
    changes = λ F G only. only;
    bears = refl;
    restores_none = refl;
    unread = λ answer. refl;
    took = λ n answer before now. tt;
    fits = λ n. tt;
    writes = refl;
    only = λ n G names works. works;
    says = λ n task F G f refuses. refuses;
  }

  module _ {A : Type 0} (F : FleetGhosts A) (is : IsName name) (old : A) where
    abbrev n : ℕ
    n = F.clouds old

    pub put_unsettled : {mid : A} (f : SettleFault) → IsUnsettled F name old mid f → Acted F put_task old mid (reply.Stopped (fault_of_settle f) None)
    put_unsettled f u = unsettled F put_task name put_writes is old f u

    module _ {mid : A} (top : Option Meta) (came : IsSettled F name old mid top) where
      put_worn : 2 ^ 64 - 2 ≤ top_generation top → Acted F put_task old mid (reply.Stopped fault.Worn None)
      put_worn last =
          unwritten F put_task name put_writes is old top came fault.Worn (unnamed_yet F put_task name put_writes is old top came) tt
          (λ told. worn_at n name (F.held old) top (came.agreed told).is_top came.fits last)
          (λ told S D stands of. record {
            names = name ∷ [];
            works_on = refl;
            name = name;
            among = (0, omega arith, refl);
            prevents = (refl, subst (λ (t : Option Meta). 2 ^ 64 - 2 ≤ top_generation t) (sym of) last);
          })

      put_spent : (tried : ℕ) → RefusesNext n s name top (fault.Spent tried) → Acted F put_task old mid (reply.Stopped (fault.Spent tried) None)
      put_spent tried why =
          unwritten F put_task name put_writes is old top came (fault.Spent tried) (unnamed_yet F put_task name put_writes is old top came) tt
          (λ told. record { all = why.0; top = top; is_top = (came.agreed told).is_top; has_next = why.1; none = why.2 })
          (λ told S D stands of. record {
            names = name ∷ [];
            works_on = refl;
            name = name;
            among = (0, omega arith, refl);
            prevents = (
              why.0,
              subst (λ (t : Option Meta). top_generation t < 2 ^ 64 - 2) (sym of) why.1,
              subst (λ (t : Option Meta). NoStart n (next_key s name t) s.budget) (sym of) why.2,
            );
          })

      -- no code was drawn
      pub put_refused : (f : Fault) → RefusesNext n s name top f → Acted F put_task old mid (reply.Stopped f None)
      put_refused fault.Worn why = put_worn why
      put_refused (fault.Spent tried) why = put_spent tried why
      put_refused fault.NoFile why = absurd why
      put_refused (fault.Cloud c) why = absurd why
      put_refused (fault.Damaged c r how) why = absurd why
      put_refused (fault.Short list) why = absurd why
      put_refused (fault.Conflict g a b) why = absurd why
      put_refused (fault.Misplaced c a b) why = absurd why
      put_refused (fault.Unsound a b) why = absurd why
      put_refused fault.Memory why = absurd why

      -- its code was drawn
      module _ (good : GoodParts) {w : ℕ} (w_is : w ≡ n) (d : IsDrawn w s name top good) where
        drawn : IsDrawn n s name top good
        drawn = subst (λ (k : ℕ). IsDrawn k s name top good) w_is d

        is_put : (x y : Version) → meta_of x ≡ top → IsPutBy n good v x y → IsPut n s name v x y
        is_put x y of made = record {
          index = drawn.index;
          good = good;
          drawn = subst (λ (t : Option Meta). IsStart n (next_key s name t) s.budget drawn.index good) (sym of) drawn.drawn;
          made = made;
        }

        pub put_unfinished : {end : A} (f : WriteFault) {k : ℕ} → k ≡ n → Writes F k name top (IsPutBy k good v) mid end → f ≢ write.Worn
            → HasWriteCause F.counts_exactly (F.faults mid) (F.faults end) f → Acted F put_task old end (reply.Stopped (fault_of_write f) None)
        put_unfinished {end} f k_is writes fine cause =
            unfinished F put_task name put_writes is old top came (IsPutBy n good v) is_put f (subst (λ (k : ℕ). Writes F k name top (IsPutBy k good v) mid end) k_is writes) fine cause

        -- its version was written, and the name tidied
        module _ {end new : A} (next : Option Meta) {k : ℕ} (k_is : k ≡ n) (written : IsWritten F k name top (IsPutBy k good v) mid end next)
            {j : ℕ} (j_is : j ≡ n) (tidies : Tidies F j name next end new) where
          written_here : IsWritten F n name top (IsPutBy n good v) mid end next
          written_here = subst (λ (h : ℕ). IsWritten F h name top (IsPutBy h good v) mid end next) k_is written

          tidies_here : Tidies F n name next end new
          tidies_here = subst (λ (h : ℕ). Tidies F h name next end new) j_is tidies

          pub put_untidied : Acted F put_task old new (reply.Stopped fault.Memory None)
          put_untidied = untidied F put_task name put_writes is old top came (IsPutBy n good v) is_put next written_here tidies_here (λ x y made. made.made.next)

          module _ (wide : 4 ≤ n) (narrow : n ≤ 10) (tidy : F.tells → F.sure_deletes → NoneSlipped F end new → IsTidy j (F.held new) name next)
              (made : next ≡ Some (LiveMeta (put_meta k top good v))) (stored : F.tells → IsStored k (F.held end) name (Stored (put_meta k top good v) v)) where
            made_here : Some (LiveMeta (put_meta n top good v)) ≡ next
            made_here = sym (subst (λ (h : ℕ). next ≡ Some (LiveMeta (put_meta h top good v))) k_is made)

            stored_here : F.tells → IsStored n (F.held end) name (Stored (put_meta n top good v) v)
            stored_here told = subst (λ (h : ℕ). IsStored h (F.held end) name (Stored (put_meta h top good v) v)) k_is (stored told)

            stored_still : F.tells → IsStored n (F.held new) name (Stored (put_meta n top good v) v)
            stored_still told = record {
              held = (tidies_here.keeps told).here.held (Stored (put_meta n top good v) v) made_here (stored_here told).held;
              right = λ c l. (tidies_here.keeps told).here.right (Stored (put_meta n top good v) v) c made_here ((stored_here told).right c l);
            }

            filled : F.tells → (x y : Version) → meta_of x ≡ top → IsPutBy n good v x y → (c : ℕ) → c < n → RightOn n (F.held new) name y c
            filled told x y of made_so c l =
                let same : y ≡ Stored (put_meta n top good v) v = made_so.is ∙ ap (λ (o : Option Meta). Stored (put_meta n o good v) v) of in
                subst (λ (z : Version). RightOn n (F.held new) name z c) (sym same) ((stored_still told).right c l)

            tidied : F.tells → F.sure_deletes → NoneSlipped F old new → LeavesTidy n (act.Put name) (F.held old) (F.held new)
            tidied told sure none =
                leaves_tidy F put_task name put_writes is old top came (IsPutBy n good v) is_put next written_here tidies_here (λ x y made_so. made_so.made.next) (λ x y made_so. made_so)
                (λ t x y of made_so c l fills. filled t x y of made_so c l) wide narrow
                (λ c l. subst (HoldsIfAny n (F.held new) name c) made_here ((stored_still told).held c l))
                (λ slipped. subst (λ (h : ℕ). IsTidy h (F.held new) name next) j_is (tidy told sure slipped)) none

            pub put_finished : (generation : ℕ) → generation ≡ top_generation next → Acted F put_task old new (reply.Stored generation)
            put_finished generation of_next =
                let is_generation : generation ≡ top_generation top + 1 = of_next ∙ ap (λ (o : Option Meta). top_generation o) (sym made_here) ∙ put_generation n top good v in
                finished F put_task name put_writes is old top came (IsPutBy n good v) is_put next written_here tidies_here (λ x y made_so. made_so.made.next) (λ x y made_so. made_so)
                (λ told x y of made_so c l fills. filled told x y of made_so c l)
                (reply.Stored generation) tt (λ none. none) tt
                (λ told. record {
                  top = top;
                  agreed = came.agreed told;
                  is_next = is_generation;
                  index = drawn.index;
                  good = good;
                  drawn = drawn.drawn;
                  stored = stored_still told;
                })
                (λ V done. done) (λ V of. is_generation ∙ ap (λ (o : Option Meta). top_generation o + 1) (sym of)) tidied
