-- What reading in pieces adds up to.
use Rattle.std.proofs.Common.{◌≡◌, ◌≤◌, ◌+◌, ◌++◌, length, take, drop, List, [], ℕ, ap, arith, sym, ◌∙◌}
use Rattle.std.proofs.lemmas.List.{take-append-drop, drop-drop}
use Rattle.std.proofs.lemmas.Grind.{common_steps}
use Rattle.std.proofs.Math.Seq.{take-add}
use Rattle.nc_bytes.specs.Bytes.{part}

-- the first bytes of a buffer whose front is old
pub added : (at n len : ℕ) (old buf now rest items : List ℕ) → items ≡ take (at + n) (take len (now ++ rest)) → len ≡ length now → at + n ≤ length now → take at now ≡ take at buf → take at buf ≡ old → items ≡ old ++ part at n now
added at n len old buf now rest items is whole fits front kept =
    let cut : take len (now ++ rest) ≡ now = grind (arith, common_steps) in
    is ∙ ap (take (at + n)) cut ∙ take-add at n now ∙ ap (λ l. l ++ part at n now) (front ∙ kept)

pub count_of_part : (at n : ℕ) (now : List ℕ) → at + n ≤ length now → length (part at n now) ≡ n
count_of_part at n now fits = grind (arith, common_steps)

-- what is given goes from the front of what was left
pub given : (at n : ℕ) (bytes front : List ℕ) → front ≡ take n (drop at bytes) → drop at bytes ≡ front ++ drop (at + n) bytes
given at n bytes front is = sym (take-append-drop n (drop at bytes)) ∙ ap (λ l. l ++ drop n (drop at bytes)) (sym is) ∙ ap (λ l. front ++ l) (drop-drop n at bytes)

-- nothing is left after the end
pub given_none : (at n : ℕ) (bytes : List ℕ) → drop at bytes ≡ [] → drop (at + n) bytes ≡ []
given_none at n bytes end = sym (drop-drop n at bytes) ∙ ap (drop n) end ∙ grind (arith, common_steps)
