use Rattle.std.proofs.Common.{ap, ◌∙◌}
use Rattle.nc_memory.proofs.log.Log.object.Goals as goal

pub returns-in-Some : goal.returns-in-Some
returns-in-Some c = c.bytes_at.ensures ∙ ap (λ G. G c.args.cloud c.args.key.now) (c.args.self.now.current c.in-Some.shelf c.in-Some.is)
