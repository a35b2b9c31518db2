use Rattle.std.proofs.Common.{List, ℕ, ◌∷◌}
use Rattle.clap.specs.Walk.{texts}
use Rattle.nc_words.proofs.OneMeaning.{no_act}
use Rattle.nc_words.proofs.lines.read_plain.Goals as goal

pub returns-in-Err-clause-fault : goal.returns-in-Err-clause-fault
returns-in-Err-clause-fault c = no_act c.args.width (c.args.word.now ∷ texts c.args.rest.now) c.in-Err.field-0 c.in-Err.ensures.fault
