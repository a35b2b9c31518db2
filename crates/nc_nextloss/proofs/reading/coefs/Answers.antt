use Rattle.std.proofs.Common.{slice_index, rules}
use Rattle.std.proofs.lemmas.List.FromFn.{fill_by_all}
use Rattle.nc_code.specs.Tries.{coef_at, from}
use Rattle.nc_nextloss.proofs.reading.coefs.Goals as goal

pub returns : goal.returns
returns c =
    fill_by_all (coef_at c.args.width c.args.lost (from c.args.at (slice_index c.args.bytes.now)) c.args.r) c.loop-t.row 10 0 c.loop-t.invariant.0 (search rules)
