use Rattle.nc_mill.proofs.PutLaws.{is_stored_by, may_store, put_done, put_refuses}
use Rattle.nc_mill.proofs.milling.put_file.Goals as goal

pub unstored-requires : goal.unstored-requires
unstored-requires g c =
    may_store c.args.job.now _ c.step-reply.result
    (put_done c.args.job.now c.args.clouds.now c.step-reply.new.fleet c.requires.fits c.requires.width c.requires.empty _ _ c.requires.fits.name c.bytes.ensures c.step-reply.result c.step-reply.ensures.acted)

pub returns-in-None-clause-stored : goal.returns-in-None-clause-stored
returns-in-None-clause-stored g c =
    is_stored_by c.args.job.now _ c.step-reply.result
    (put_done c.args.job.now c.args.clouds.now c.step-reply.new.fleet c.requires.fits c.requires.width c.requires.empty _ _ c.requires.fits.name c.bytes.ensures c.step-reply.result c.step-reply.ensures.acted)
    c.in-None.ensures

pub returns-clause-refused : goal.returns-clause-refused
returns-clause-refused g c =
    put_refuses c.args.job.now _ c.step-reply.result c.in-Some.fault
    (put_done c.args.job.now c.args.clouds.now c.step-reply.new.fleet c.requires.fits c.requires.width c.requires.empty _ _ c.requires.fits.name c.bytes.ensures c.step-reply.result c.step-reply.ensures.acted)
    c.in-Some.ensures
