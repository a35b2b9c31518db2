use Rattle.nc_run.proofs.saying.say.Goals as goal

pub returns-in-Stored-clause-says : goal.returns-in-Stored-clause-says
returns-in-Stored-clause-says g c = rw c.in-Stored.is c.say_number.ensures.says
