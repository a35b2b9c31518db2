use Rattle.std.proofs.Common.{slice_index, rules}
use Rattle.std.proofs.lemmas.List.FromFn.{fill_by_all}
use Rattle.nc_code.specs.Tries.{choice_at}
use Rattle.nc_nextloss.proofs.reading.choices.Goals as goal

pub returns : goal.returns
returns c =
    fill_by_all (choice_at c.args.width c.args.lost (slice_index c.args.base.now) (λ _. c.args.first)) c.loop-t.choice 10 0 c.loop-t.invariant.0 (search rules)
