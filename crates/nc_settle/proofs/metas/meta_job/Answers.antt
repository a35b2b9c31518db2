use Rattle.std.proofs.Common.{ℕ, List, sym, subst}
use Rattle.nc_meta.specs.Metas.{Spells}
use Rattle.nc_settle.proofs.MetaJobs.{sealed_write}
use Rattle.nc_settle.proofs.metas.meta_job.Goals as goal

pub returns-clause-write : goal.returns-clause-write
returns-clause-write c =
    sealed_write c.args.width c.args.name.now c.args.meta.now c.args.cloud c.meta_key-key.result c.in_ok-bytes.bytes c.bytes.result.now c.meta_key-key.ensures
    (subst (λ (p : List ℕ). Spells c.args.width p c.args.meta.now) (sym c.bytes.ensures) c.requires.spells) c.in_ok-bytes.ensures
