use Rattle.std.proofs.Common.{◌≡◌, ◌+◌, ◌≤◌, ℕ, List, length, slice_index, ap, ◌∙◌, subst}
use Rattle.std.specs.Option.{IfSome}
use Rattle.nc_bytes.specs.Bytes.{part}
use Rattle.nc_bytes.proofs.Places.{length-part}
use Rattle.nc_search.specs.Tries.{tries_len, tries_at, HasGoodTry, IsFirstGoodTry}
use Rattle.nc_search.proofs.TryLemmas.{whole_tries, first_of_sixteen, none_of_sixteen}
use Rattle.nc_search.proofs.tries.first_try.Goals as goal

-- the part that is handed on holds the tries
is_part : (n w each at : ℕ) (block found : List ℕ) → found ≡ part at each block → each ≡ tries_len w → w ≡ n → found ≡ tries_at n block at
is_part n w each at block found is len width = is ∙ ap (λ (k : ℕ). part at k block) (len ∙ ap tries_len width)

is_long : (n at : ℕ) (block found : List ℕ) → found ≡ tries_at n block at → at + tries_len n ≤ length block → length found ≡ tries_len n
is_long n at block found is long = ap length is ∙ length-part at (tries_len n) block long

pub first_witness-requires-clause-whole : goal.first_witness-requires-clause-whole
first_witness-requires-clause-whole c =
    let is = is_part c.args.code.now.width c.width-width.result c.tries_len.result c.args.at c.args.block.now c.part_of.result.now c.part_of.ensures c.tries_len.ensures c.width-width.ensures.width in
    whole_tries c.args.code.now.width (length c.part_of.result.now) (is_long c.args.code.now.width c.args.at c.args.block.now c.part_of.result.now is c.requires.long)

pub returns-clause-some : goal.returns-clause-some
returns-clause-some c =
    let is = is_part c.args.code.now.width c.width-width.result c.tries_len.result c.args.at c.args.block.now c.part_of.result.now c.part_of.ensures c.tries_len.ensures c.width-width.ensures.width in
    subst (λ (tries : List ℕ). IfSome c.first_witness.result (IsFirstGoodTry c.args.code.now c.args.lost c.args.base.now tries)) is
    (first_of_sixteen c.args.code.now c.args.lost (slice_index c.args.base.now) c.part_of.result.now c.first_witness.result (is_long c.args.code.now.width c.args.at c.args.block.now c.part_of.result.now is c.requires.long) c.first_witness.ensures.some)

pub returns-clause-none : goal.returns-clause-none
returns-clause-none c = λ none.
    let is = is_part c.args.code.now.width c.width-width.result c.tries_len.result c.args.at c.args.block.now c.part_of.result.now c.part_of.ensures c.tries_len.ensures c.width-width.ensures.width in
    subst (λ (tries : List ℕ). HasGoodTry c.args.code.now c.args.lost c.args.base.now tries → ⊥) is
    (none_of_sixteen c.args.code.now c.args.lost c.args.base.now c.part_of.result.now (is_long c.args.code.now.width c.args.at c.args.block.now c.part_of.result.now is c.requires.long) (c.first_witness.ensures.none none))
