use Rattle.nc_mill.proofs.GetLaws.{get_done, gives_file, may_give}
use Rattle.nc_mill.proofs.milling.get_file.Goals as goal

pub given-requires : goal.given-requires
given-requires g c =
    may_give c.args.job.now c.step-reply.result
    (get_done c.args.job.now c.args.clouds.now c.step-reply.new.fleet c.requires.width c.requires.keeps _ c.requires.fits.name c.step-reply.result c.step-reply.ensures.acted)

pub returns-in-Ok-clause-held : goal.returns-in-Ok-clause-held
returns-in-Ok-clause-held g c = (c.step-reply.ensures.acted.only tt).here

pub returns-in-Err-clause-held : goal.returns-in-Err-clause-held
returns-in-Err-clause-held g c = (c.step-reply.ensures.acted.only tt).here

pub returns-in-Ok-clause-got : goal.returns-in-Ok-clause-got
returns-in-Ok-clause-got g c =
    gives_file c.args.job.now c.step-reply.result c.in-Ok.bytes
    (get_done c.args.job.now c.args.clouds.now c.step-reply.new.fleet c.requires.width c.requires.keeps _ c.requires.fits.name c.step-reply.result c.step-reply.ensures.acted)
    c.in-Ok.ensures.ok
