use Rattle.std.proofs.Common.{subst, sym}
use Rattle.std.specs.Prelude.{All}
use Rattle.std.proofs.lemmas.List.Elements.{All-push}
use Rattle.nc_frame.specs.Frames.{Whole}
use Rattle.nc_cloud.specs.declared.fleet.Job.{Job}
use Rattle.nc_settle.proofs.metas.push_named.Goals as goal

pub returns-clause-whole : goal.returns-clause-whole
returns-clause-whole c =
    subst (All (λ (j : Job). Whole j.bytes)) (sym c.in_ok-push_job.ensures)
    (All-push (λ (j : Job). Whole j.bytes) _ _ c.requires.whole c.in_ok-job.ensures.whole)
