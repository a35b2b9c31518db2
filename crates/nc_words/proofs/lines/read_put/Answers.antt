use Rattle.nc_words.proofs.LinePuts.{no_data_no_put, no_name_no_put}
use Rattle.nc_words.proofs.lines.read_put.Goals as goal

pub returns-in_default-read-clause-fault : goal.returns-in_default-read-clause-fault
returns-in_default-read-clause-fault c =
    no_name_no_put c.args.tail.now c.in-Some.front.now c.in-Some.digits.now c.in_default-read.field-0 c.in-Some.ensures.some c.in_default-read.ensures.fault

pub returns-in-Err-clause-fault : goal.returns-in-Err-clause-fault
returns-in-Err-clause-fault c =
    no_data_no_put c.args.tail.now c.in-Some.front.now c.in-Some.digits.now c.in-Err.fault c.in-Some.ensures.some c.in-Err.ensures.fault
