use Rattle.std.proofs.Common.{Bool, None, subst, sym}
use Rattle.nc_words.specs.declared.act.Act.TheVariants as act
use Rattle.nc_words.specs.Acts.{task_of}
use Rattle.nc_vault.specs.declared.fault.Fault.{Fault}
use Rattle.nc_vault.specs.declared.reply.Reply.TheVariants as reply
use Rattle.nc_vault.specs.Acting.{Acted}
use Rattle.nc_vault.proofs.StatLaws.{told_about, told_none}
use Rattle.nc_vault.proofs.statting.stat.Goals as goal

pub returns-in-Ok : goal.returns-in-Ok
returns-in-Ok g c = record {
  acted = λ s bytes. subst (λ (b : Bool). Acted g.F.Fleet (task_of s (act.Stat c.args.name.now) bytes) c.args.fleet.now c.find.new.fleet (reply.About c.in-Ok.live.generation c.in-Ok.live.len b)) (sym c.is_some.ensures)
      (told_about g.F.Fleet s c.args.name.now bytes c.find.ensures.looked c.find.ensures.stops c.find.ensures.gets c.in-Ok.live c.in-Ok.ensures.finds c.in-Ok.ensures.shows);
}

pub returns-in-Err : goal.returns-in-Err
returns-in-Err g c = record {
  acted = λ s bytes. subst (λ (f : Fault). Acted g.F.Fleet (task_of s (act.Stat c.args.name.now) bytes) c.args.fleet.now c.find.new.fleet (reply.Stopped f None)) (sym c.from.ensures)
      (told_none g.F.Fleet s c.args.name.now bytes c.find.ensures.looked c.find.ensures.stops c.find.ensures.gets c.in-Err.fault c.in-Err.ensures.finds c.in-Err.ensures.shows);
}
