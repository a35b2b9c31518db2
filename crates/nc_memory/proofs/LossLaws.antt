-- What a loss leaves of a memory fleet, and of its shelf.
use Rattle.std.proofs.Common.{◌≡◌, ◌≢◌, ℕ, zero, suc, true, if◌then◌else◌, Option, None, Some, List, [], ◌∷◌, ◌++◌, Contains, nat_eq, refl, sym, ap, ◌∙◌, subst, arith, inl, inr}
use Rattle.std.specs.Option.{is_some}
use Rattle.std.specs.declared.cmp.Ordering.TheVariants.{Equal, Less}
use Rattle.std.proofs.lemmas.Bool.{eq-eqb, eqb-true}
use Rattle.std.proofs.lemmas.Bool.Decides.{eqb_tells}
use Rattle.std.proofs.lemmas.Cmp.{nat_list_cmp_total, tied_itself}
use Rattle.nc_name.specs.declared.key.Key.{Key}
use Rattle.nc_name.specs.Keys.{key_text}
use Rattle.nc_cloud.specs.Cloud.{AreSorted, IsBefore, Lists}
use Rattle.nc_cloud.specs.Contents.{Contents, nothing}
use Rattle.nc_memory.specs.declared.record.Torn.{Torn}
use Rattle.nc_memory.specs.declared.record.Torn.TheVariants.{Old, New, Gone, Broken}
use Rattle.nc_memory.specs.declared.record.Damage.{Damage}
use Rattle.nc_memory.specs.declared.record.Event.{Event}
use Rattle.nc_memory.specs.declared.record.Event.TheVariants.{Lost}
use Rattle.nc_memory.specs.Record.{contents_after, fate_in, lost, value}
use Rattle.nc_memory.specs.Shelf.{lost_at, lost_each}
use Rattle.nc_memory.proofs.Fates.{stays}
use Rattle.nc_memory.proofs.RecordLaws.{elsewhere, in_place, value-more}

-- ---- what is held

module _ (log : List Event) (cloud : ℕ) (damage : Damage) where
  pub loss_leaves : (q : Key) → contents_after (log ++ Lost cloud damage ∷ []) nothing cloud q ≡ lost (fate_in damage q) (contents_after log nothing cloud q)
  loss_leaves q =
      value-more log (Lost cloud damage) cloud q None
      ∙ ap (λ b. if b then lost (fate_in damage q) (value log cloud q None) else value log cloud q None) (eq-eqb cloud cloud refl)

  pub loss_others : (c : ℕ) (q : Key) → c ≢ cloud → contents_after (log ++ Lost cloud damage ∷ []) nothing c q ≡ contents_after log nothing c q
  loss_others c q other =
      value-more log (Lost cloud damage) c q None
      ∙ stays (nat_eq cloud c) (value log c q None) (lost (fate_in damage q) (value log c q None)) (λ e. other (sym (eqb-true cloud c e)))

-- ---- keys in their order

rest_sorted : (key : Key) (keys : List Key) → AreSorted (key ∷ keys) → AreSorted keys
rest_sorted key keys sorted i j d low within = sorted (suc i) (suc j) d (omega (arith, low)) (omega (arith, within))

-- the first isn't among the others
first_is_new : (key : Key) (keys : List Key) → AreSorted (key ∷ keys) → Contains keys key → ⊥
first_is_new key keys sorted (k, l, e) =
    let before : IsBefore key key = subst (λ (other : Key). IsBefore key other) e (sorted 0 (suc k) key (omega arith) (omega (arith, l))) in
    let wrong : Equal ≡ Less = sym (tied_itself nat_list_cmp_total (key_text key)) ∙ before in
    absurd cc

-- ---- the shelf

lost_none : (fate : Torn) → lost fate None ≡ None
lost_none Old = refl
lost_none New = refl
lost_none Gone = refl
lost_none Broken = refl

module _ (damage : Damage) (c : ℕ) where
  abbrev one_lost : Key → Contents → Contents
  one_lost key F = lost_at damage (record { cloud = c; key = key }) F

  -- other objects stay
  each_passes : (keys : List Key) (F : Contents) (d : ℕ) (q : Key) → (d ≡ c → Contains keys q → ⊥) → lost_each damage c keys F d q ≡ F d q
  each_passes [] F d q other = refl
  each_passes (key ∷ keys) F d q other =
      each_passes keys (one_lost key F) d q (λ same has. other same (suc has.0, omega (arith, has.1), has.2))
      ∙ elsewhere c key (F d q) (lost (fate_in damage key) (F c key)) d q (λ same e. other same (0, omega arith, sym e))

  -- each object is lost once
  each_loses : (keys : List Key) (F : Contents) (q : Key) → AreSorted keys → Contains keys q → lost_each damage c keys F c q ≡ lost (fate_in damage q) (F c q)
  each_loses [] F q sorted has = absurd (omega (arith, has.1))
  each_loses (key ∷ keys) F q sorted (zero, l, e) =
      subst (λ (k : Key). lost_each damage c (key ∷ keys) F c k ≡ lost (fate_in damage k) (F c k)) e
      (each_passes keys (one_lost key F) c key (λ same has. first_is_new key keys sorted has)
      ∙ in_place c key (F c key) (lost (fate_in damage key) (F c key)))
  each_loses (key ∷ keys) F q sorted (suc k, l, e) =
      let has : Contains keys q = (k, omega (arith, l), e) in
      each_loses keys (one_lost key F) q (rest_sorted key keys sorted) has
      ∙ ap (lost (fate_in damage q))
      (elsewhere c key (F c q) (lost (fate_in damage key) (F c key)) c q
      (λ same is. first_is_new key keys sorted (subst (λ (k : Key). Contains keys k) is has)))

  -- the loss of all objects that a cloud lists
  pub loss_shelved : (keys : List Key) (F : Contents) → Lists (F c) keys → lost_each damage c keys F ≡ contents_after (Lost c damage ∷ []) F
  loss_shelved keys F lists = λ i d q. here d q i
    where
      there : (q : Key) (held : Option (List ℕ)) → F c q ≡ held → lost_each damage c keys F c q ≡ lost (fate_in damage q) (F c q)
      there q (Some bytes) is = each_loses keys F q lists.sorted (lists.all q (ap is_some is))
      there q None is =
          each_passes keys F c q (λ same has. let wrong : is_some {T = List ℕ} None ≡ true = sym (ap is_some is) ∙ lists.only q has in cc)
          ∙ is ∙ sym (ap (lost (fate_in damage q)) is ∙ lost_none (fate_in damage q))

      here : (d : ℕ) (q : Key) → lost_each damage c keys F d q ≡ (if nat_eq c d then lost (fate_in damage q) (F d q) else F d q)
      here d q =
          elim (eqb_tells c d) [
            | inl same ↦
                subst (λ (k : ℕ). lost_each damage c keys F k q ≡ (if nat_eq c k then lost (fate_in damage q) (F k q) else F k q)) same.1
                (there q (F c q) refl ∙ sym (ap (λ b. if b then lost (fate_in damage q) (F c q) else F c q) (eq-eqb c c refl)))
            | inr other ↦
                each_passes keys F d q (λ same has. other.1 (sym same))
                ∙ sym (ap (λ b. if b then lost (fate_in damage q) (F d q) else F d q) other.0)
          ]
