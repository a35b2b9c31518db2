-- Acts on clouds that never fail.
use Rattle.std.proofs.Common.{◌≡◌, ◌≢◌, ◌∙◌, ◌&&◌, ℕ, Bool, true, false, List, [], ◌∷◌, ◌⊎◌, inl, inr, refl, sym, subst, arith}
use Rattle.nc_cloud.specs.Contents.{Contents}
use Rattle.nc_state.specs.Standing.{Stands}
use Rattle.nc_state.specs.Vaults.{ForEachVault, IsVault, Vault}
use Rattle.nc_words.specs.declared.act.Act.{Act}
use Rattle.nc_words.specs.Acts.{Task}
use Rattle.nc_vault.specs.Acting.{Acted}
use Rattle.nc_vault.specs.Counting.{failing_in, lists}
use Rattle.nc_vault.specs.Replies.{RepliesTo, RepliesWith}
use Rattle.nc_vault.specs.Vaults.{ActKeeps, StandsAtEnd}
use Rattle.nc_vault.specs.declared.reply.Reply.{Reply}
use Rattle.nc_vault.proofs.Members.{among_or_not, in_one}
use Rattle.nc_mill.specs.declared.sure.Sure.{Sure}
use Rattle.nc_mill.specs.Mills.{mill_name}
use Rattle.nc_mill.specs.Sures.{count_in, held_by, sure_clouds}

and_none : (b : Bool) → (b && false) ≡ false
and_none true = refl
and_none false = refl

-- none of the clouds fails an act
pub none_fails : (a : Act) (old new : Sure) (c : ℕ) → failing_in sure_clouds a old new c ≡ false
none_fails a old new c = and_none (lists a)

pub fails_not : (a : Act) (old new : Sure) (c : ℕ) → failing_in sure_clouds a old new c ≡ true → ⊥
fails_not a old new c is = let wrong : true ≡ false = sym is ∙ none_fails a old new c in absurd cc

-- what holds from whatever these contents stand for holds from this vault
for_vault : (n : ℕ) (F : Contents) (P : Vault → Type 0) → ForEachVault n F P → (V : Vault) → V.contents ≡ F → IsVault n V → P V
for_vault n F P for V at stands =
    let there : Stands n F V.entries V.damaged = subst (λ (G : Contents). Stands n G V.entries V.damaged) at stands in
    subst (λ (G : Contents). P (record { contents = G; entries = V.entries; damaged = V.damaged })) (sym at) (for.each V.entries V.damaged there)

module _ (n : ℕ) (task : Task) (old new : Sure) (wide : count_in old ≡ n) (V : Vault) (at : V.contents ≡ held_by old) (stands : IsVault n V) (answer : Reply)
    (acted : Acted sure_clouds task old new answer) where
  there : IsVault (count_in old) V
  there = subst (λ (m : ℕ). IsVault m V) (sym wide) stands

  -- how the act is answered, and what it leaves
  pub replied : RepliesWith n task V (failing_in sure_clouds task.act old new) answer
  replied =
      subst (λ (m : ℕ). RepliesWith m task V (failing_in sure_clouds task.act old new) answer) wide
      (for_vault (count_in old) (held_by old) (RepliesTo sure_clouds task old new answer) (acted.replies tt) V at there)

  pub left_so : StandsAtEnd n task V (held_by new) answer
  left_so =
      subst (λ (m : ℕ). StandsAtEnd m task V (held_by new) answer) wide
      (for_vault (count_in old) (held_by old) (ActKeeps sure_clouds (count_in old) task old new answer) (acted.stands tt) V at there).end

-- a name is the file's, or another
pub is_file_or_not : (name : List ℕ) → (name ≡ mill_name) ⊎ (name ≢ mill_name)
is_file_or_not name =
    elim (among_or_not (mill_name ∷ []) name) [
      | inl among ↦ inl (in_one mill_name name among)
      | inr out ↦ inr (λ same. out (0, omega arith, sym same))
    ]
