-- The writes of a meta on some clouds.
use Rattle.std.proofs.Common.{◌≡◌, ◌+◌, ◌++◌, ℕ, Bool, true, false, if◌then◌else◌, None, Some, List, All, option_to_list, replicate, ◌≤◌, refl, sym, ap, ◌∙◌, subst, arith}
use Rattle.std.proofs.lemmas.List.{get_or-replicate}
use Rattle.nc_name.specs.declared.key.Key.{Key}
use Rattle.nc_name.specs.Keys.{key_text}
use Rattle.nc_frame.specs.Frames.{Sealed, Whole}
use Rattle.nc_meta.specs.declared.meta.Meta.{Meta}
use Rattle.nc_meta.specs.Metas.{Spells}
use Rattle.nc_cloud.specs.declared.fleet.Job.{Job}
use Rattle.nc_cloud.specs.Contents.{Write}
use Rattle.nc_cloud.specs.Fleet.{writes}
use Rattle.nc_cloud.specs.Images.{write_at}
use Rattle.nc_cloud.specs.Rounds.{row, some_row}
use Rattle.nc_cloud.proofs.SomeRows.{some_all, some_each, some_more, some_same}
use Rattle.nc_state.specs.Clouds.{Clouds}
use Rattle.nc_state.specs.Holding.{meta_key, meta_object}
use Rattle.nc_state.proofs.Held.{sealed_is_object}
use Rattle.nc_settle.specs.MetaWrites.{AreMetaJobs, meta_write, meta_write_on, named}

module _ (n : ℕ) (name : List ℕ) (m : Meta) where
  -- a sealed payload of a meta is its object
  pub sealed_write : (c : ℕ) (k : Key) (bytes payload : List ℕ) → k ≡ meta_key name m → Spells n payload m → Sealed bytes c n (key_text k) payload
      → record { cloud = c; key = k; new = Some bytes } ≡ meta_write n name m c
  sealed_write c k bytes payload at spells is =
      let object : bytes ≡ meta_object n name c m = sealed_is_object n name c m bytes payload spells (subst (λ (q : Key). Sealed bytes c n (key_text q) payload) at is) in
      ap (λ (q : Key). record { cloud = c; key = q; new = Some bytes }) at ∙ ap (λ (b : List ℕ). record { cloud = c; key = meta_key name m; new = Some b }) object

module _ (n : ℕ) (name : List ℕ) (m : Meta) (P : Clouds) where
  -- one cloud more
  pub jobs_more : (k : ℕ) (old new : List Job) → AreMetaJobs n name m P k old → writes new ≡ writes old ++ option_to_list (meta_write_on n name m P k) → All (λ j. Whole j.bytes) new
      → AreMetaJobs n name m P (k + 1) new
  jobs_more k old new was more whole = record {
    writes_are = more ∙ ap (λ ws. ws ++ option_to_list (meta_write_on n name m P k)) was.writes_are ∙ sym (some_more (meta_write_on n name m P) k);
    whole = whole;
  }

  written_by : (b : Bool) (c : ℕ) (p : Write) → (if b then Some (meta_write n name m c) else None) ≡ Some p → (meta_write n name m c ≡ p) × (b ≡ true)
  written_by true c p e = (cc, refl)
  written_by false c p e = absurd cc

  -- what a cloud's entry is, where it has one
  pub on_is : (c : ℕ) (p : Write) → meta_write_on n name m P c ≡ Some p → (meta_write n name m c ≡ p) × (P c ≡ true)
  on_is c p e = written_by (P c) c p e

  pub on_cloud : (c : ℕ) (p : Write) → meta_write_on n name m P c ≡ Some p → p.cloud ≡ c
  on_cloud c p e = sym (ap (λ (q : Write). q.cloud) (on_is c p e).0)

  -- all entries are under the key of the meta
  pub at_meta_key : (c : ℕ) (p : Write) → write_at (some_row (meta_write_on n name m P) 0 n) c ≡ Some p → p.key ≡ meta_key name m
  at_meta_key = some_each (meta_write_on n name m P) on_cloud (λ p. p.key ≡ meta_key name m) n (λ c p l e. sym (ap (λ (q : Write). q.key) (on_is c p e).0))

-- on all clouds
pub metas_on_all : (n : ℕ) (name : List ℕ) (m : Meta) → n ≤ 10 → some_row (meta_write_on n name m (named (replicate 10 true))) 0 n ≡ row (meta_write n name m) 0 n
metas_on_all n name m narrow =
    some_same (meta_write_on n name m (named (replicate 10 true))) (λ c. Some (meta_write n name m c)) 0 n
    (λ c low high. ap (λ (b : Bool). if b then Some (meta_write n name m c) else None) (get_or-replicate 10 c true false (omega arith)))
    ∙ some_all (meta_write n name m) 0 n
