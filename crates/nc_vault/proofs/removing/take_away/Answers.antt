use Rattle.std.proofs.Common.{◌≡◌, ◌∙◌, true, false, None, Err, refl, sym, ap, subst}
use Rattle.nc_vault.specs.declared.fault.Fault.{Fault}
use Rattle.nc_vault.specs.declared.reply.Reply.TheVariants as reply
use Rattle.nc_vault.specs.Acting.{Acted}
use Rattle.nc_vault.proofs.OneName.{proceeds_of}
use Rattle.nc_vault.proofs.RemoveLaws.{remove_finished, remove_none, remove_task, remove_unfinished, remove_unsettled, remove_untidied}
use Rattle.nc_vault.proofs.removing.take_away.Goals as goal

-- the name wasn't settled
pub returns-in-Err : goal.returns-in-Err
returns-in-Err g c = record {
  acted = λ s v. subst (λ (f : Fault). Acted g.F.Fleet (remove_task s c.args.name.now v) c.args.fleet.now c.come.new.fleet (reply.Stopped f None)) (sym c.from.ensures)
      (remove_unsettled s c.args.name.now v g.F.Fleet c.told_name.ensures c.args.fleet.now c.in-Err.fault c.in-Err.ensures.unsettled);
}

-- there is no file
pub returns-then-not-is_live : goal.returns-then-not-is_live
returns-then-not-is_live g c = record {
  acted = λ s v. remove_none s c.args.name.now v g.F.Fleet c.told_name.ensures c.args.fleet.now c.in-Ok.before.top c.in-Ok.ensures.settled (λ live. absurd (let e : false ≡ true = c.if-not-is_live.ensures.1 live in cc));
}

-- a cloud failed, no memory was found, or no generation is left
pub returns-in-Err-remove : goal.returns-in-Err-remove
returns-in-Err-remove g c =
    let came = c.in-Ok.ensures.settled in
    record {
      acted = λ s v. subst (λ (f : Fault). Acted g.F.Fleet (remove_task s c.args.name.now v) c.args.fleet.now c.remove.new.fleet (reply.Stopped f None)) (sym c.from-in-Err-remove.ensures)
          (remove_unfinished s c.args.name.now v g.F.Fleet c.told_name.ensures c.args.fleet.now c.in-Ok.before.top came (c.if-not-is_live.ensures.0 refl) c.in-Err-remove.fault came.settles.proceeds.clouds
          (record { begins = c.remove.ensures.begins; alone = c.remove.ensures.alone; proceeds = proceeds_of c.remove.ensures.clouds c.remove.ensures.grows c.remove.ensures.slips c.remove.ensures.gets c.remove.ensures.time })
          (λ is. (c.in-Err-remove.ensures.not_worn (ap Err is), (c.in-Err-remove.ensures.worn (c.in-Err-remove.ensures.not_worn (ap Err is))).1)) c.in-Err-remove.ensures.cause);
    }

-- no memory was found for tidying
pub returns-in-Err-finish : goal.returns-in-Err-finish
returns-in-Err-finish g c =
    let came = c.in-Ok.ensures.settled in
    record {
      acted = λ s v. remove_untidied s c.args.name.now v g.F.Fleet c.told_name.ensures c.args.fleet.now c.in-Ok.before.top came (c.if-not-is_live.ensures.0 refl) c.in-Ok-remove.after.top came.settles.proceeds.clouds
          (record {
            writes = record { begins = c.remove.ensures.begins; alone = c.remove.ensures.alone; proceeds = proceeds_of c.remove.ensures.clouds c.remove.ensures.grows c.remove.ensures.slips c.remove.ensures.gets c.remove.ensures.time };
            does = c.in-Ok-remove.ensures.does;
            clean = c.in-Ok-remove.ensures.clean;
          })
          (c.remove.ensures.clouds ∙ came.settles.proceeds.clouds) c.finish.ensures.tidies;
    }

-- the file is removed
pub returns-in-Ok-finish : goal.returns-in-Ok-finish
returns-in-Ok-finish g c =
    let came = c.in-Ok.ensures.settled in
    record {
      acted = λ s v. remove_finished s c.args.name.now v g.F.Fleet c.told_name.ensures c.args.fleet.now c.in-Ok.before.top came (c.if-not-is_live.ensures.0 refl) c.in-Ok-remove.after.top came.settles.proceeds.clouds
          (record {
            writes = record { begins = c.remove.ensures.begins; alone = c.remove.ensures.alone; proceeds = proceeds_of c.remove.ensures.clouds c.remove.ensures.grows c.remove.ensures.slips c.remove.ensures.gets c.remove.ensures.time };
            does = c.in-Ok-remove.ensures.does;
            clean = c.in-Ok-remove.ensures.clean;
          })
          (c.remove.ensures.clouds ∙ came.settles.proceeds.clouds) c.finish.ensures.tidies c.requires.wide c.requires.narrow c.in-Ok-finish.ensures.tidy
          c.in-Ok-remove.ensures.made c.in-Ok-remove.ensures.held c.generation.result c.generation.ensures;
    }
