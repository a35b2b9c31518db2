use Rattle.std.proofs.Common.{rules, refl, ap, ◌∷◌, [], List, ℕ}
use Rattle.nc_words.specs.declared.act.Act.TheVariants as act
use Rattle.nc_words.proofs.OneMeaning.{bad_name}
use Rattle.nc_words.proofs.commands.read_named.Goals.{in-put, in-get, in-rm, in-stat}
use Rattle.nc_words.proofs.commands.read_named.Goals as goal

pub returns-in-Err-clause-fault : goal.returns-in-Err-clause-fault
returns-in-Err-clause-fault c =
    let text : List ℕ = c.args.text.now in
    elim c.match-word.branch [
      | in-put w ↦ bad_name _ _ text (act.Put text) _ refl (ap (λ (word : List ℕ). word ∷ text ∷ []) w.in-put.is) (search rules)
      | in-get w ↦ bad_name _ _ text (act.Get text) _ refl (ap (λ (word : List ℕ). word ∷ text ∷ []) w.in-get.is) (search rules)
      | in-rm w ↦ bad_name _ _ text (act.Remove text) _ refl (ap (λ (word : List ℕ). word ∷ text ∷ []) w.in-rm.is) (search rules)
      | in-stat w ↦ bad_name _ _ text (act.Stat text) _ refl (ap (λ (word : List ℕ). word ∷ text ∷ []) w.in-stat.is) (search rules)
    ]

pub returns-in-Ok-clause-command : goal.returns-in-Ok-clause-command
returns-in-Ok-clause-command c =
    elim c.match-word.branch [
      | in-put w ↦ (search rules)
      | in-get w ↦ (search rules)
      | in-rm w ↦ (search rules)
      | in-stat w ↦ (search rules)
    ]
