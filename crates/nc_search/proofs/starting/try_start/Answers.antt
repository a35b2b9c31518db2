use Rattle.std.proofs.Common.{ℕ, List, subst, rules}
use Rattle.std.specs.Option.{IfSome}
use Rattle.nc_search.specs.Starts.{IsGoodStart, IsStartOf}
use Rattle.nc_search.proofs.StartLemmas.{start_block_is}
use Rattle.nc_search.proofs.starting.try_start.Goals as goal

pub returns-clause-some : goal.returns-clause-some
returns-clause-some c =
    let is = start_block_is c.args.width c.args.key.now c.fill.new.out c.args.index c.from.result c.word_count.result c.start_len-len.result _ c.fill.ensures c.from.ensures c.word_count.ensures (search rules) c.start_len-len.ensures.len in
    subst (λ (block : List ℕ). IfSome c.good_start.result (IsStartOf c.args.width block)) is c.good_start.ensures.some

pub returns-clause-none : goal.returns-clause-none
returns-clause-none c = λ none.
    let is = start_block_is c.args.width c.args.key.now c.fill.new.out c.args.index c.from.result c.word_count.result c.start_len-len.result _ c.fill.ensures c.from.ensures c.word_count.ensures (search rules) c.start_len-len.ensures.len in
    subst (λ (block : List ℕ). IsGoodStart c.args.width block → ⊥) is (c.good_start.ensures.none none)
