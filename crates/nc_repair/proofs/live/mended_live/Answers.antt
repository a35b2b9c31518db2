use Rattle.std.proofs.Common.{ℕ, List, sym, subst}
use Rattle.sha2.proofs.Facts256.{length-sha256}
use Rattle.nc_bytes.specs.Bytes.{AreBytes}
use Rattle.nc_code.specs.Parts.{CodeParts, IsCode}
use Rattle.nc_code.specs.declared.plan.Witnesses.{Witnesses}
use Rattle.nc_meta.specs.Metas.{IsLive}
use Rattle.nc_meta.specs.Parts.{IsGeneration}
use Rattle.nc_write.proofs.PuttingLaws.{HasPlans}
use Rattle.nc_repair.proofs.MendingLaws.{mended_built, mended_is_live}
use Rattle.nc_repair.proofs.live.mended_live.Goals as goal

pub returns-clause-is : goal.returns-clause-is
returns-clause-is g c =
    mended_built c.args.lost c.args.old.now c.args.good.now _ _ c.marks_of_both-marks.result.zero c.marks_of_both-marks.result.one c.args.generation c.code-2.result.now c.turned.result c.renewed.result c.witnesses-2.result.now c.requires.next
    c.code-2.ensures.code c.turned.ensures.is c.renewed.ensures.is c.marks_of_both-marks.ensures.zero c.marks_of_both-marks.ensures.one c.witnesses-2.ensures

pub returns-clause-fits : goal.returns-clause-fits
returns-clause-fits g c =
    let good = c.args.good.now in
    let kept : IsCode good.code = subst (λ (k : CodeParts). IsCode k) c.code.ensures.code c.width-kept.ensures.kept in
    let plans : HasPlans good.witnesses = subst (λ (w : Witnesses). HasPlans w) c.witnesses.ensures (record { count = c.told_plans.ensures.count; plans = c.told_plans.ensures.plans }) in
    subst (IsLive c.args.width)
    (sym
    (mended_built c.args.lost c.args.old.now good _ _ c.marks_of_both-marks.result.zero c.marks_of_both-marks.result.one c.args.generation c.code-2.result.now c.turned.result c.renewed.result c.witnesses-2.result.now c.requires.next
    c.code-2.ensures.code c.turned.ensures.is c.renewed.ensures.is c.marks_of_both-marks.ensures.zero c.marks_of_both-marks.ensures.one c.witnesses-2.ensures))
    (mended_is_live c.args.width c.args.lost c.args.old.now good _ _ c.requires.lost.live (subst IsGeneration c.requires.next c.requires.last) c.requires.lost.lost c.requires.width kept c.code.ensures.kept plans
    (subst (λ (x : List ℕ). AreBytes x) c.marks_of_both-marks.ensures.zero c.marks_of_both-marks.ensures.zero_bytes) (length-sha256 c.args.zero.now) (subst (λ (x : List ℕ). AreBytes x) c.marks_of_both-marks.ensures.one c.marks_of_both-marks.ensures.one_bytes) (length-sha256 c.args.one.now))
