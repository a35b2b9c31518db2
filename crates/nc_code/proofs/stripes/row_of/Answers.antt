use Rattle.std.proofs.Common.{◌/◌, ◌%◌, rules}
use Rattle.std.proofs.lemmas.List.FromFn.{fill_by_all}
use Rattle.nc_code.specs.Striped.{striped_entry}
use Rattle.nc_code.proofs.stripes.row_of.Goals as goal

pub returns : goal.returns
returns c = fill_by_all (striped_entry c.args.width (c.args.row / 2) (c.args.row % 2)) c.loop-i.entries 16 0 c.loop-i.invariant.0 (search rules)
