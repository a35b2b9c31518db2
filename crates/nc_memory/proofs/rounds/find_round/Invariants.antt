use Rattle.std.proofs.Common.{◌≡◌, ◌+◌, drop}
use Rattle.nc_memory.specs.Rounds.{round_place}
use Rattle.nc_memory.proofs.rounds.find_round.Given as goal

abbrev pub invariant-loop-at : goal.invariant-loop-at
invariant-loop-at l = round_place l.log l.round ≡ round_place (drop l.at l.log) l.left + l.at
