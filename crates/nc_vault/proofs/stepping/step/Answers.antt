use Rattle.std.proofs.Common.{sym, subst}
use Rattle.nc_words.specs.declared.act.Act.{Act}
use Rattle.nc_words.specs.Acts.{task_of}
use Rattle.nc_vault.specs.Acting.{Acted}
use Rattle.nc_vault.proofs.stepping.step.Goals as goal

pub returns-in-Get : goal.returns-in-Get
returns-in-Get g c = record {
  acted = subst (λ (a : Act). Acted g.F.Fleet (task_of c.args.setting.now a c.args.bytes.now) c.args.fleet.now c.get.new.fleet c.get.result) (sym c.in-Get.is) (c.get.ensures.acted c.args.bytes.now);
}

pub returns-in-Remove : goal.returns-in-Remove
returns-in-Remove g c = record {
  acted = subst (λ (a : Act). Acted g.F.Fleet (task_of c.args.setting.now a c.args.bytes.now) c.args.fleet.now c.remove.new.fleet c.remove.result) (sym c.in-Remove.is)
      (c.remove.ensures.acted c.args.setting.now c.args.bytes.now);
}

pub returns-in-List : goal.returns-in-List
returns-in-List g c = record {
  acted = subst (λ (a : Act). Acted g.F.Fleet (task_of c.args.setting.now a c.args.bytes.now) c.args.fleet.now c.list.new.fleet c.list.result) (sym c.in-List.is)
      (c.list.ensures.acted c.args.setting.now c.args.bytes.now);
}

pub returns-in-Stat : goal.returns-in-Stat
returns-in-Stat g c = record {
  acted = subst (λ (a : Act). Acted g.F.Fleet (task_of c.args.setting.now a c.args.bytes.now) c.args.fleet.now c.stat.new.fleet c.stat.result) (sym c.in-Stat.is)
      (c.stat.ensures.acted c.args.setting.now c.args.bytes.now);
}

pub returns-in-Repair : goal.returns-in-Repair
returns-in-Repair g c = record { acted = c.sweep.ensures.acted c.args.bytes.now }

pub returns-in-Scrub : goal.returns-in-Scrub
returns-in-Scrub g c = record {
  acted = subst (λ (a : Act). Acted g.F.Fleet (task_of c.args.setting.now a c.args.bytes.now) c.args.fleet.now c.scrub.new.fleet c.scrub.result) (sym c.in-Scrub.is)
      (c.scrub.ensures.acted c.args.setting.now c.args.bytes.now);
}
