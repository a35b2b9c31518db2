use Rattle.std.proofs.Common.{length}
use Rattle.nc_mix.proofs.adding.+mix_parts.Given as goal

abbrev pub decreases-mix_parts : goal.decreases-mix_parts
decreases-mix_parts l = length l.rows.now
