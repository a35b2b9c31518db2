use Rattle.nc_drive.proofs.GetLaws.{few_causes_stop, last_done_is_printed, no_file_is_removed}
use Rattle.nc_drive.proofs.laws.get_after.Goals as goal

pub returns : goal.returns
returns c = record { printed = last_done_is_printed; none = no_file_is_removed; causes = few_causes_stop }
