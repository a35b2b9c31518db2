use Rattle.std.proofs.Common.{nat_eq, subst, sym}
use Rattle.nc_frame.specs.Frames.{Whole}
use Rattle.nc_cloud.proofs.SeatLaws.{find_all}
use Rattle.nc_cloud.proofs.seats.serve_put.Goals as goal

pub put-requires : goal.put-requires
put-requires g c =
    subst Whole (sym c.bytes.ensures)
    (find_all (λ j. Whole j.bytes) (λ j. nat_eq j.cloud c.args.cloud) c.args.jobs.now c.in-Some.job.now c.requires (sym c.in-Some.ensures))
