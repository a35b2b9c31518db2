use Rattle.std.proofs.Common.{None, subst, sym}
use Rattle.nc_words.specs.declared.act.Act.TheVariants as act
use Rattle.nc_words.specs.Acts.{task_of}
use Rattle.nc_vault.specs.declared.fault.Fault.{Fault}
use Rattle.nc_vault.specs.declared.reply.Reply.TheVariants as reply
use Rattle.nc_vault.specs.Acting.{Acted}
use Rattle.nc_vault.proofs.GetLaws.{got_file, got_none}
use Rattle.nc_vault.proofs.getting.get.Goals as goal

pub returns-in-Ok : goal.returns-in-Ok
returns-in-Ok g c = record {
  acted = λ bytes. got_file g.F.Fleet c.args.setting.now c.args.name.now bytes c.fetch.ensures.looked c.fetch.ensures.stops c.in-Ok.file c.in-Ok.ensures.fetches c.in-Ok.ensures.shows c.in-Ok.ensures.reads;
}

pub returns-in-Err : goal.returns-in-Err
returns-in-Err g c = record {
  acted = λ bytes. subst (λ (f : Fault). Acted g.F.Fleet (task_of c.args.setting.now (act.Get c.args.name.now) bytes) c.args.fleet.now c.fetch.new.fleet (reply.Stopped f None)) (sym c.from.ensures)
      (got_none g.F.Fleet c.args.setting.now c.args.name.now bytes c.fetch.ensures.looked c.fetch.ensures.stops c.in-Err.fault
      c.in-Err.ensures.fetches c.in-Err.ensures.shows c.in-Err.ensures.unread);
}
