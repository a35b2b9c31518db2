use Rattle.std.proofs.Common.{refl}
use Rattle.nc_write.proofs.TidyTurns.{part_stops, part_then}
use Rattle.nc_write.proofs.tidying.tidy_in_turn.Goals as goal

pub returns-in-Err : goal.returns-in-Err
returns-in-Err g c = record { turn = part_stops c.in-Err.ensures }

pub returns-in-Err-erase : goal.returns-in-Err-erase
returns-in-Err-erase g c = record { turn = part_then c.in-Ok.ensures (part_stops c.in-Err-erase.ensures) }

pub returns-in-Err-erase-2 : goal.returns-in-Err-erase-2
returns-in-Err-erase-2 g c = record { turn = part_then c.in-Ok.ensures (part_then c.in-Ok-erase.ensures (part_stops c.in-Err-erase-2.ensures)) }

pub returns-in-Err-erase-3 : goal.returns-in-Err-erase-3
returns-in-Err-erase-3 g c = record { turn = part_then c.in-Ok.ensures (part_then c.in-Ok-erase.ensures (part_then c.in-Ok-erase-2.ensures (part_stops c.in-Err-erase-3.ensures))) }

pub returns-in-Err-erase-4 : goal.returns-in-Err-erase-4
returns-in-Err-erase-4 g c = record { turn = part_then c.in-Ok.ensures (part_then c.in-Ok-erase.ensures (part_then c.in-Ok-erase-2.ensures (part_then c.in-Ok-erase-3.ensures (part_stops c.in-Err-erase-4.ensures)))) }

pub returns-in-Err-erase-5 : goal.returns-in-Err-erase-5
returns-in-Err-erase-5 g c = record { turn = part_then c.in-Ok.ensures (part_then c.in-Ok-erase.ensures (part_then c.in-Ok-erase-2.ensures (part_then c.in-Ok-erase-3.ensures (part_then c.in-Ok-erase-4.ensures (part_stops c.in-Err-erase-5.ensures))))) }

pub returns-in-Ok-erase-5 : goal.returns-in-Ok-erase-5
returns-in-Ok-erase-5 g c = record { turn = part_then c.in-Ok.ensures (part_then c.in-Ok-erase.ensures (part_then c.in-Ok-erase-2.ensures (part_then c.in-Ok-erase-3.ensures (part_then c.in-Ok-erase-4.ensures (part_then c.in-Ok-erase-5.ensures (refl, refl)))))) }
