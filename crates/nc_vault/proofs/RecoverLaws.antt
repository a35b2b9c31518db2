-- Recovery is done with a name, or isn't.
use Rattle.std.proofs.Common.{◌≡◌, ◌≤◌, ◌<◌, ℕ, Option, List, refl, ap, ◌∙◌, subst, arith}
use Rattle.nc_name.specs.Names.{IsName}
use Rattle.nc_meta.specs.declared.meta.Meta.{Meta}
use Rattle.nc_cloud.specs.Fleet.{got_count}
use Rattle.nc_cloud.specs.declared.fleet.Fleet.{Ghosts as FleetGhosts}
use Rattle.nc_cloud.proofs.Counts.{rose_more}
use Rattle.nc_state.specs.Holding.{IsSettledOn}
use Rattle.nc_state.specs.Tidy.{IsTidy}
use Rattle.nc_settle.specs.declared.settled.SettleFault.{SettleFault}
use Rattle.nc_write.specs.Tidying.{NoneSlipped}
use Rattle.nc_words.specs.declared.act.Act.TheVariants as act
use Rattle.nc_words.specs.declared.setting.Setting.{Setting}
use Rattle.nc_words.specs.Acts.{Task, task_of}
use Rattle.nc_vault.specs.declared.fault.Fault.TheVariants as fault
use Rattle.nc_vault.specs.Faults.{fault_of_settle}
use Rattle.nc_vault.specs.Parts.{PartDone, PartStopped}
use Rattle.nc_vault.specs.Writing.{IsSettled, IsUnsettled, Proceeds, Tidies}
use Rattle.nc_vault.proofs.OneName.{settle_refuses, vault_of}
use Rattle.nc_vault.proofs.RecoverPart.{recover_alone, recover_begins, recover_does, recover_proceeds, seen_fault, settle_counts, settle_part, settle_stops}

unread_count : (before now : ℕ) → now ≡ before → now ≡ got_count before 0
unread_count before now same = omega (arith, same)

-- what is asked of a recovery, whatever the setting and the bytes
abbrev pub recovery : Setting → List ℕ → Task
recovery s bytes = task_of s act.Recover bytes

module _ {A : Type 0} (F : FleetGhosts A) (s : Setting) (bytes : List ℕ) (name : List ℕ) (is : IsName name) {old mid : A} where
  -- it can't be brought to rest
  pub recover_unsettled : (f : SettleFault) → IsUnsettled F name old mid f → PartStopped F (recovery s bytes) name (fault_of_settle f) old mid
  recover_unsettled f u = record {
    clouds = u.settles.proceeds.clouds;
    grows = u.settles.proceeds.grows;
    time = u.settles.proceeds.time;
    reads = u.settles.proceeds.gets;
    kept = λ seen. u.kept (seen_fault f seen);
    counts = settle_counts F.counts_exactly (F.faults old) (F.faults mid) f u.counts;
    alone = u.settles.alone;
    begins = settle_part F (recovery s bytes) name u.settles;
    refuses = λ told. settle_refuses (F.clouds old) s name (F.held old) f (u.refuses told);
    stops = λ told. record { each = λ S D stands. settle_stops F (recovery s bytes) name mid (vault_of (F.held old) S D) f is stands (u.refuses told) };
  }

  -- it is, and then tidied
  module _ {new : A} (top : Option Meta) (settles : IsSettled F name old mid top) (tidies : Tidies F (F.clouds old) name top mid new) where
    abbrev proceeds : Proceeds F old new
    proceeds = recover_proceeds F (recovery s bytes) name is top settles tidies

    -- no memory was found for tidying
    pub recover_untidied : PartStopped F (recovery s bytes) name fault.Memory old new
    recover_untidied = record {
      clouds = proceeds.clouds;
      grows = proceeds.grows;
      time = proceeds.time;
      reads = proceeds.gets;
      kept = λ seen. absurd seen;
      counts = tt;
      alone = recover_alone F (recovery s bytes) name is top settles tidies;
      begins = recover_begins F (recovery s bytes) name is top settles tidies;
      refuses = λ told. tt;
      stops = λ told. record { each = λ S D stands. tt };
    }

    -- no count rose in tidying, where none did in all
    slipped_later : NoneSlipped F old new → NoneSlipped F mid new
    slipped_later none = record {
      none = λ c l rose.
          none.none c (subst (λ (k : ℕ). c < k) settles.settles.proceeds.clouds l)
          (rose_more (F.slips old c) (F.slips mid c) (F.slips new c) (settles.settles.proceeds.grows.slips c) rose);
    }

    module _ (wide : 4 ≤ F.clouds old) (narrow : F.clouds old ≤ 10) (tidy : F.tells → F.sure_deletes → NoneSlipped F mid new → IsTidy (F.clouds old) (F.held new) name top) where
      -- tidying leaves it settled
      settled_now : F.tells → IsSettledOn (F.clouds old) (F.held new) name top
      settled_now told = (tidies.keeps told).here.settled wide narrow (settles.settled told)

      pub recover_done : PartDone F (recovery s bytes) name 0 old new
      recover_done = record {
        clouds = proceeds.clouds;
        grows = proceeds.grows;
        time = proceeds.time;
        few = omega arith;
        one = omega arith;
        took = λ c l. unread_count (F.chunk_gets old c) (F.chunk_gets new c) (proceeds.gets c);
        clean = λ exact c. ap (λ (g : ℕ → ℕ). g c) tidies.faults ∙ settles.clean exact c;
        alone = recover_alone F (recovery s bytes) name is top settles tidies;
        begins = recover_begins F (recovery s bytes) name is top settles tidies;
        does = recover_does F (recovery s bytes) name is top settles tidies refl;
        counts = λ told. record { each = λ S D stands. refl };
        leaves = λ told. record { top = top; agreed = settles.agreed told; settled = settled_now told };
        tidy = λ told sure plain none. record { top = top; settled = settled_now told; tidy = tidy told sure (slipped_later none) };
      }
