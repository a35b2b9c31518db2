-- Arguments by what the rows give.
use Rattle.std.proofs.Common.{◌≡◌, ◌∙◌, ℕ, List, [], ◌∷◌, Option, Some, None, ap, ap₂, subst, sym}
use Rattle.std.specs.Prelude.{codes, unwrap_or}
use Rattle.clap.specs.Walk.{Row, all_of, first_of}
use Rattle.nc_words.specs.Words.{MeansNothing, arguments_in, joined}
use Rattle.nc_words.proofs.OneMeaning.{nothing_given}

pub arguments_are : (rows : List Row) (word : List ℕ) (rest : Option (List (List ℕ))) → first_of (codes "command") rows ≡ Some word
    → rest ≡ all_of (codes "rest") rows → word ∷ unwrap_or rest [] ≡ arguments_in rows
arguments_are rows word rest first more =
    let given : unwrap_or (all_of (codes "rest") rows) [] ≡ unwrap_or rest [] = ap (λ (o : Option (List (List ℕ))). unwrap_or o []) (sym more) in
    sym (ap₂ joined first given)

pub without_word : (n : ℕ) (rows : List Row) → first_of (codes "command") rows ≡ None → MeansNothing n (arguments_in rows)
without_word n rows first =
    let none : arguments_in rows ≡ [] = ap (λ o. joined o (unwrap_or (all_of (codes "rest") rows) [])) first in
    subst (MeansNothing n) (sym none) (nothing_given n)
