use Rattle.nc_history.proofs.LossLaws.{loss_leads}
use Rattle.nc_history.proofs.laws.loss_leads.Goals as goal

pub returns : goal.returns
returns c = loss_leads
