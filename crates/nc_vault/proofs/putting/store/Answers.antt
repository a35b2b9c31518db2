use Rattle.std.proofs.Common.{◌≡◌, ◌≢◌, ◌-◌, ◌^◌, ◌∙◌, ℕ, None, Err, sym, ap, subst, arith}
use Rattle.nc_state.specs.Holding.{top_generation}
use Rattle.nc_write.specs.declared.fault.WriteFault.TheVariants as write
use Rattle.nc_vault.specs.declared.fault.Fault.{Fault}
use Rattle.nc_vault.specs.declared.reply.Reply.TheVariants as reply
use Rattle.nc_vault.specs.Acting.{Acted}
use Rattle.nc_vault.specs.Drawing.{RefusesNext}
use Rattle.nc_vault.proofs.DrawingLaws.{width_is}
use Rattle.nc_vault.proofs.OneName.{proceeds_of}
use Rattle.nc_vault.proofs.PutLaws.{put_finished, put_refused, put_task, put_unfinished, put_unsettled, put_untidied}
use Rattle.nc_vault.proofs.putting.store.Goals as goal

-- the name wasn't settled
pub returns-in-Err : goal.returns-in-Err
returns-in-Err g c = record {
  acted = subst (λ (f : Fault). Acted g.F.Fleet (put_task c.args.setting.now c.args.name.now c.args.bytes.now) c.args.fleet.now c.come.new.fleet (reply.Stopped f None)) (sym c.from.ensures)
      (put_unsettled c.args.setting.now c.args.name.now c.args.bytes.now g.F.Fleet c.told_name.ensures c.args.fleet.now c.in-Err.fault c.in-Err.ensures.unsettled);
}

-- no code was drawn
pub returns-in-Err-draw : goal.returns-in-Err-draw
returns-in-Err-draw g c =
    let came = c.in-Ok.ensures.settled in
    record {
      acted = put_refused c.args.setting.now c.args.name.now c.args.bytes.now g.F.Fleet c.told_name.ensures c.args.fleet.now c.in-Ok.before.top came c.in-Err-draw.fault
          (subst (λ (k : ℕ). RefusesNext k c.args.setting.now c.args.name.now c.in-Ok.before.top c.in-Err-draw.fault) (c.width.ensures ∙ came.settles.proceeds.clouds) c.in-Err-draw.ensures.refused);
    }

-- its code is for so many clouds
pub put-requires-clause-width : goal.put-requires-clause-width
put-requires-clause-width g c _ _ = width_is _ _ _ _ _ c.in-Ok-draw.ensures.drawn.drawn ∙ c.width.ensures

-- a cloud failed, or no memory was found
pub returns-in-Err-put : goal.returns-in-Err-put
returns-in-Err-put g c =
    let came = c.in-Ok.ensures.settled in
    let d = c.in-Ok-draw.ensures.drawn in
    let last = d.has_next in
    let fine : c.in-Err-put.fault ≢ write.Worn = λ is. let worn : top_generation c.in-Ok.before.top ≡ 2 ^ 64 - 2 = c.in-Err-put.ensures.not_worn (ap Err is) in absurd (omega (arith, last, worn)) in
    record {
      acted = subst (λ (f : Fault). Acted g.F.Fleet (put_task c.args.setting.now c.args.name.now c.args.bytes.now) c.args.fleet.now c.put.new.fleet (reply.Stopped f None)) (sym c.from-in-Err-put.ensures)
          (put_unfinished c.args.setting.now c.args.name.now c.args.bytes.now g.F.Fleet c.told_name.ensures c.args.fleet.now c.in-Ok.before.top came
          c.in-Ok-draw.good (c.width.ensures ∙ came.settles.proceeds.clouds) d c.in-Err-put.fault came.settles.proceeds.clouds
          (record { begins = c.put.ensures.begins; alone = c.put.ensures.alone; proceeds = proceeds_of c.put.ensures.clouds c.put.ensures.grows c.put.ensures.slips c.put.ensures.gets c.put.ensures.time })
          fine c.in-Err-put.ensures.cause);
    }

-- no memory was found for tidying
pub returns-in-Err-finish : goal.returns-in-Err-finish
returns-in-Err-finish g c =
    let came = c.in-Ok.ensures.settled in
    record {
      acted = put_untidied c.args.setting.now c.args.name.now c.args.bytes.now g.F.Fleet c.told_name.ensures c.args.fleet.now c.in-Ok.before.top came
          c.in-Ok-draw.good (c.width.ensures ∙ came.settles.proceeds.clouds) c.in-Ok-draw.ensures.drawn c.in-Ok-put.after.top came.settles.proceeds.clouds
          (record {
            writes = record { begins = c.put.ensures.begins; alone = c.put.ensures.alone; proceeds = proceeds_of c.put.ensures.clouds c.put.ensures.grows c.put.ensures.slips c.put.ensures.gets c.put.ensures.time };
            does = c.in-Ok-put.ensures.does;
            clean = c.in-Ok-put.ensures.clean;
          })
          (c.put.ensures.clouds ∙ came.settles.proceeds.clouds) c.finish.ensures.tidies;
    }

-- the file is stored
pub returns-in-Ok-finish : goal.returns-in-Ok-finish
returns-in-Ok-finish g c =
    let came = c.in-Ok.ensures.settled in
    record {
      acted = put_finished c.args.setting.now c.args.name.now c.args.bytes.now g.F.Fleet c.told_name.ensures c.args.fleet.now c.in-Ok.before.top came
          c.in-Ok-draw.good (c.width.ensures ∙ came.settles.proceeds.clouds) c.in-Ok-draw.ensures.drawn c.in-Ok-put.after.top came.settles.proceeds.clouds
          (record {
            writes = record { begins = c.put.ensures.begins; alone = c.put.ensures.alone; proceeds = proceeds_of c.put.ensures.clouds c.put.ensures.grows c.put.ensures.slips c.put.ensures.gets c.put.ensures.time };
            does = c.in-Ok-put.ensures.does;
            clean = c.in-Ok-put.ensures.clean;
          })
          (c.put.ensures.clouds ∙ came.settles.proceeds.clouds) c.finish.ensures.tidies c.requires.wide c.requires.narrow c.in-Ok-finish.ensures.tidy
          c.in-Ok-put.ensures.made c.in-Ok-put.ensures.stored c.generation.result c.generation.ensures;
    }
