use Rattle.nc_run.proofs.running.run_command.Goals as goal

pub returns-in-Batch-clause-shown : goal.returns-in-Batch-clause-shown
returns-in-Batch-clause-shown g c = rw c.in-Batch.is c.run_lines.ensures.shown
