-- Tables that grow by one cloud.
use Rattle.std.proofs.Common.{◌≡◌, ◌<◌, ◌+◌, ℕ, List, Option, length, get_or, set, length-set, inl, inr, sym, ◌∙◌, subst, arith}
use Rattle.std.proofs.lemmas.Bool.{cases_lt}
use Rattle.std.proofs.lemmas.List.{get_or-set_other, get_or-set_same}
use Rattle.std.specs.Prelude.{None}
use Rattle.nc_cloud.specs.declared.fleet.Ask.{Ask}
use Rattle.nc_meta.specs.declared.meta.Live.{Live}
use Rattle.nc_meta.specs.declared.meta.Meta.{Meta}
use Rattle.nc_settle.specs.Views.{Places}
use Rattle.nc_scrub.specs.declared.flaw.State.{State}
use Rattle.nc_scrub.specs.Tables.{meta_seen, AreChunkStates, AreMetaStates, JudgesAsk, Table}

-- a table, once entry k is set
set_more : {X : Type 0} (d : X) (Q : ℕ → X → Type 0) (k : ℕ) (table : List X) (x : X) → k < length table → ((c : ℕ) → c < k → Q c (get_or table c d)) → Q k x → (c : ℕ) → c < k + 1 → Q c (get_or (set table k x) c d)
set_more d Q k table x within each here c l =
    elim (cases_lt c k) [
      | inl before ↦ subst (Q c) (sym (get_or-set_other table k c x d (λ e. absurd (omega arith)))) (each c before)
      | inr after ↦ let at : k ≡ c = omega arith in subst (λ (j : ℕ). Q j (get_or (set table k x) j d)) at (subst (Q k) (sym (get_or-set_same table k x d within)) here)
    ]

pub meta_more : (v : Places) (m : Meta) (k : ℕ) (table : Table) (o : Option State) → AreMetaStates v m k table → k < 10 → o ≡ meta_seen v m k → AreMetaStates v m (k + 1) (set table k o)
meta_more v m k table o are low is = record {
  long = length-set table k o ∙ are.long;
  each = set_more None (λ (c : ℕ) (x : Option State). x ≡ meta_seen v m c) k table o (omega (arith, low, are.long)) are.each is;
}

pub chunk_more : (n : ℕ) (name : List ℕ) (m : Live) (r : ℕ) (asks : List Ask) (k : ℕ) (table : Table) (o : Option State) → AreChunkStates n name m r asks k table → k < 10 → JudgesAsk n name m r k asks o
    → AreChunkStates n name m r asks (k + 1) (set table k o)
chunk_more n name m r asks k table o are low is = record {
  long = length-set table k o ∙ are.long;
  each = set_more None (λ (c : ℕ) (x : Option State). JudgesAsk n name m r c asks x) k table o (omega (arith, low, are.long)) are.each is;
}
