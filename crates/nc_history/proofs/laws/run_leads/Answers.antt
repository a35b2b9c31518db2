use Rattle.nc_history.proofs.LossLaws.{run_leads}
use Rattle.nc_history.proofs.laws.run_leads.Goals as goal

pub returns : goal.returns
returns c = run_leads
