-- A name of which nothing is left that doesn't count.
use Rattle.std.proofs.Common.{◌≡◌, ◌<◌, ◌≤◌, ◌%◌, ◌==◌, ℕ, true, false, Option, None, Some, List, inl, inr, refl, sym, ap, ◌∙◌, arith}
use Rattle.std.proofs.lemmas.Bool.Decides.{eqb_tells}
use Rattle.nc_name.specs.declared.key.Key.TheVariants as key
use Rattle.nc_name.specs.Names.{IsName}
use Rattle.nc_meta.specs.declared.meta.Meta.{Meta}
use Rattle.nc_meta.specs.Metas.{generation_of}
use Rattle.nc_cloud.specs.Contents.{Contents}
use Rattle.nc_state.specs.Holding.{Holds, HoldsIfAny, IsSettledOn, meta_key, meta_object}
use Rattle.nc_state.specs.Tidy.{IsTidy}
use Rattle.nc_state.proofs.Held.{same_object}

tested : (a b : ℕ) → (a == b) ≡ true → a ≡ b
tested a b is =
    elim (eqb_tells a b) [
      | inl same ↦ same.1
      | inr differ ↦ absurd (let e : true ≡ false = sym is ∙ differ.0 in cc)
    ]

-- where all clouds hold this metadata, if any, and nothing else counts, they hold none that is higher
pub settled_of_tidy : (n : ℕ) (G : Contents) (name : List ℕ) (top : Option Meta) → 4 ≤ n → n ≤ 10 → IsName name → ((c : ℕ) → c < n → HoldsIfAny n G name c top) → IsTidy n G name top
    → IsSettledOn n G name top
settled_of_tidy n G name None wide narrow is held tidy = record {
  none = λ c k l h. let e : false ≡ true = tidy.all c (meta_key name k) (meta_object n name c k) l refl (omega arith) h.stands in absurd cc;
}
settled_of_tidy n G name (Some m) wide narrow is held tidy = record {
  each = held;
  highest = λ c k l h.
      let mine : Holds n G name c m = held c l in
      let slot : generation_of m % 2 ≡ generation_of k % 2 = tested (generation_of m % 2) (generation_of k % 2) (tidy.all c (meta_key name k) (meta_object n name c k) l refl (omega arith) h.stands) in
      let place : meta_key name k ≡ meta_key name m = ap (λ (r : ℕ). key.Meta name r) (sym slot) in
      let both : Some (meta_object n name c k) ≡ Some (meta_object n name c m) = sym h.stands ∙ ap (G c) place ∙ mine.stands in
      let object : meta_object n name c k ≡ meta_object n name c m = cc in
      let same : generation_of k ≡ generation_of m = ap generation_of (same_object n name c k m wide narrow is l h.is_meta mine.is_meta object) in
      omega (arith, same);
}
