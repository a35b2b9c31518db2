use Rattle.std.proofs.Common.{◌∙◌, ℕ, refl, subst, sym}
use Rattle.nc_repair.specs.Mending.{IsMadeOf}
use Rattle.nc_repair.specs.Repairing.RepairDid.{in_turn, not_made, unsealed}
use Rattle.nc_repair.specs.Survivors.{HasLost}
use Rattle.nc_repair.proofs.MendingLaws.{mends_with, width_of}
use Rattle.nc_repair.proofs.TurnLaws.{has_next}
use Rattle.nc_repair.proofs.repairing.repair_in_turn.Goals as goal

pub seal_mended-requires-clause-lost : goal.seal_mended-requires-clause-lost
seal_mended-requires-clause-lost g c κs alive = subst (λ (n : ℕ). HasLost n c.args.lost c.args.before.now) (sym c.width-width.ensures) c.requires.lost

pub seal_mended-requires-clause-width : goal.seal_mended-requires-clause-width
seal_mended-requires-clause-width g c κs alive =
    width_of (g.F.Fleet.clouds c.args.fleet.now) c.args.lost c.args.plan.now c.args.before.now c.args.good.now c.requires.code c.requires.lost.live ∙ sym c.width-width.ensures

pub returns-in-Err : goal.returns-in-Err
returns-in-Err g c = record { did = not_made (has_next c.args.before.now _ c.in-Some.ensures.next.0 c.in-Some.ensures.next.1) c.in-Err.fault c.in-Err.ensures.not_remade refl }

pub returns-in-Err-seal_mended : goal.returns-in-Err-seal_mended
returns-in-Err-seal_mended g c = record { did = unsealed (has_next c.args.before.now _ c.in-Some.ensures.next.0 c.in-Some.ensures.next.1) c.in-Ok.pair c.in-Ok.ensures.remade refl }

pub returns : goal.returns
returns g c = record {
  did =
      in_turn (has_next c.args.before.now _ c.in-Some.ensures.next.0 c.in-Some.ensures.next.1) c.in-Ok.pair c.remake_part.new.fleet c.in-Ok.ensures.remade c.in-Ok-seal_mended.writes c.write_version-answer.result
      (mends_with (g.F.Fleet.clouds c.args.fleet.now) c.args.lost c.args.name.now c.args.before.now c.args.plan.now c.args.good.now c.in-Ok.pair c.in-Ok-seal_mended.writes c.requires.code c.requires.lost.lost c.requires.lost.live
      c.code-kept.ensures.kept
      (subst (λ (n : ℕ). IsMadeOf n c.args.name.now c.args.lost c.args.before.now c.args.good.now c.in-Ok.pair.zero c.in-Ok.pair.one c.in-Ok-seal_mended.writes) c.width-width.ensures c.in-Ok-seal_mended.ensures))
      c.write_version-answer.ensures.rounds c.answer_of.ensures;
}
