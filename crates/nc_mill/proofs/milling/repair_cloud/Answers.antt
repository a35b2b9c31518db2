use Rattle.nc_mill.proofs.MendLaws.{fetched_by, few_fetched, may_repair, mend_ends, mend_refuses, repairs_file}
use Rattle.nc_mill.proofs.milling.repair_cloud.Goals as goal

pub repaired-requires : goal.repaired-requires
repaired-requires g c =
    may_repair c.args.job.now _ c.step-reply.result
    (mend_ends c.args.job.now c.args.clouds.now c.step-reply.new.fleet c.requires.stores c.requires.fits.is_name c.requires.width c.step-reply.result c.step-reply.ensures.acted)

pub overflow_mul-result : goal.overflow_mul-result
overflow_mul-result g c =
    few_fetched c.in-Ok.files c.from.result c.args.job.now.width
    (repairs_file c.args.job.now _ c.step-reply.result c.in-Ok.files
    (mend_ends c.args.job.now c.args.clouds.now c.step-reply.new.fleet c.requires.stores c.requires.fits.is_name c.requires.width c.step-reply.result c.step-reply.ensures.acted)
    c.in-Ok.ensures.ok).0
    c.from.ensures c.requires.fits.narrow

pub returns-in-Ok-clause-fetched : goal.returns-in-Ok-clause-fetched
returns-in-Ok-clause-fetched g c =
    fetched_by c.in-Ok.files c.from.result c.args.job.now.width
    (repairs_file c.args.job.now _ c.step-reply.result c.in-Ok.files
    (mend_ends c.args.job.now c.args.clouds.now c.step-reply.new.fleet c.requires.stores c.requires.fits.is_name c.requires.width c.step-reply.result c.step-reply.ensures.acted)
    c.in-Ok.ensures.ok).0
    c.from.ensures c.requires.fits.wide

pub returns-in-Ok-clause-keeps : goal.returns-in-Ok-clause-keeps
returns-in-Ok-clause-keeps g c =
    (repairs_file c.args.job.now _ c.step-reply.result c.in-Ok.files
    (mend_ends c.args.job.now c.args.clouds.now c.step-reply.new.fleet c.requires.stores c.requires.fits.is_name c.requires.width c.step-reply.result c.step-reply.ensures.acted)
    c.in-Ok.ensures.ok).1

pub returns-clause-refused : goal.returns-clause-refused
returns-clause-refused g c =
    mend_refuses c.args.job.now _ c.step-reply.result c.in-Err.fault
    (mend_ends c.args.job.now c.args.clouds.now c.step-reply.new.fleet c.requires.stores c.requires.fits.is_name c.requires.width c.step-reply.result c.step-reply.ensures.acted)
    c.in-Err.ensures.err
