-- How a run ends that mills.
use Rattle.std.proofs.Common.{ℕ, ◌≡◌, List, Ok, Err, refl}
use Rattle.nc_stream.specs.declared.sink.Sink.{Ghosts as SinkGhosts}
use Rattle.nc_mill.specs.Mills.{IsMilled, RefusesMill}
use Rattle.nc_mill.specs.declared.milled.MillFault.TheVariants.{Memory, Spent}
use Rattle.nc_mill.specs.declared.milled.Milled.{Milled}
use Rattle.nc_vault.specs.declared.fault.Fault.TheVariants as fault
use Rattle.nc_words.specs.declared.setting.Setting.{Setting}
use Rattle.nc_words.specs.Sending.{Sends}
use Rattle.nc_words.specs.Texts.{mill_text}
use Rattle.nc_run.specs.declared.ending.Ending.{Ending}
use Rattle.nc_run.specs.declared.status.Status.{Status}
use Rattle.nc_run.specs.declared.status.Status.TheVariants as st
use Rattle.nc_run.specs.Ending.{CountsStream, IsEarly, IsPlain, IsRefused, plain}
use Rattle.nc_run.specs.Milling.{EndsTold, MillRuns}

module _ {C : Type 0} (K : SinkGhosts C) where
  -- a status that a text was told with comes after the words and the input
  pub told_begun : (text : List ℕ) (out out_new : C) (status : Status) → EndsTold K text out out_new status → IsRefused status → ⊥
  told_begun text out out_new (st.Width w) told refused = told
  told_begun text out out_new st.Usage told refused = told
  told_begun text out out_new (st.Name cause) told refused = told
  told_begun text out out_new st.Ok told refused = refused
  told_begun text out out_new (st.BatchLine k) told refused = refused
  told_begun text out out_new st.TooLong told refused = refused
  told_begun text out out_new st.ReadFault told refused = refused
  told_begun text out out_new st.WriteFault told refused = refused
  told_begun text out out_new (st.Vault cause) told refused = refused

  pub told_late : (text : List ℕ) (out out_new : C) (status : Status) → EndsTold K text out out_new status → IsEarly status → ⊥
  told_late text out out_new (st.Width w) told early = told
  told_late text out out_new st.Usage told early = told
  told_late text out out_new (st.Name cause) told early = told
  told_late text out out_new st.TooLong told early = told
  told_late text out out_new st.ReadFault told early = told
  told_late text out out_new st.Ok told early = early
  told_late text out out_new (st.BatchLine k) told early = early
  told_late text out out_new st.WriteFault told early = early
  told_late text out out_new (st.Vault cause) told early = early

  -- it was done, and its text was told
  pub mill_done : {n : ℕ} {s : Setting} {number : ℕ} {out out_new : C} {e : Ending} (m : Milled) → IsMilled n number m
      → EndsTold K (mill_text number n m.lost m.fetched m.digest) out out_new e.status → IsPlain e → MillRuns K n s number out out_new e
  mill_done m milled told alone = record { answer = Ok m; answers = milled; ends = told; plain = alone }

  -- it was refused, and nothing was told
  pub mill_spent : {n : ℕ} {s : Setting} {number : ℕ} {out : C} (tried : ℕ) → RefusesMill n s number (Spent tried)
      → MillRuns K n s number out out (plain (st.Vault (fault.Spent tried)))
  mill_spent tried refuses = record {
    answer = Err (Spent tried);
    answers = refuses;
    ends = (refl, refl);
    plain = record { line = refl; after = refl };
  }

  pub mill_forgot : {n : ℕ} {s : Setting} {number : ℕ} {out : C} → MillRuns K n s number out out (plain (st.Vault fault.Memory))
  mill_forgot = record {
    answer = Err Memory;
    answers = tt;
    ends = (refl, refl);
    plain = record { line = refl; after = refl };
  }

  -- what was written of a text, by how it went
  pub told_all : {T E : Type 0} {text : List ℕ} {out out_new : C} {x : T} → Sends {T = T} {E = E} K text out out_new (Ok x) → EndsTold K text out out_new st.Ok
  told_all s = s.all

  pub told_some : {T E : Type 0} {text : List ℕ} {out out_new : C} {fault : E} → Sends {T = T} {E = E} K text out out_new (Err fault)
      → EndsTold K text out out_new st.WriteFault
  told_some s = (s.some, s.counts.failed)

  -- and what the count of failures says then
  pub counts_all : {T E : Type 0} {text : List ℕ} {out out_new : C} {x : T} → Sends {T = T} {E = E} K text out out_new (Ok x)
      → CountsStream st.WriteFault K.counts_exactly (K.faults out) (K.faults out_new) st.Ok
  counts_all s = record { later = s.counts.later; failed = λ fault. absurd cc; same = λ exact fine. s.counts.same exact }

  pub counts_some : {T E : Type 0} {text : List ℕ} {out out_new : C} {fault : E} → Sends {T = T} {E = E} K text out out_new (Err fault)
      → CountsStream st.WriteFault K.counts_exactly (K.faults out) (K.faults out_new) st.WriteFault
  counts_some s = record { later = s.counts.later; failed = λ fault. s.counts.failed; same = λ exact other. absurd (other refl) }
