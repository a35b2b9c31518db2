use Rattle.std.proofs.Common.{length}
use Rattle.nc_mix.specs.Mixing.{lent}
use Rattle.nc_mix.proofs.Mixes.{parts_more}
use Rattle.nc_mix.proofs.adding.+mix_parts.Goals as goal

pub returns-in-Some : goal.returns-in-Some
returns-in-Some t c =
    parts_more c.args.start c.args.count (length c.split_at_mut-part.result.0.now) c.in-Some.row.now
    c.args.rows.now c.in-Some.rest.now (lent c.args.sources.now) c.mix_part.new.dst c.mix_parts.new.dst
    c.in-Some.ensures.cases.0 c.split_at_mut-part.ensures.front_len c.mix_part.ensures
    c.mix_parts.ensures
