use Rattle.std.proofs.Common.{subst}
use Rattle.nc_code.specs.Parts.{CodeParts}
use Rattle.nc_code.specs.Codes.{IsMds, repaired}
use Rattle.nc_mds.specs.Verdicts.{IsVerdict}
use Rattle.nc_nextloss.proofs.NoWitness.{no_witness}
use Rattle.nc_nextloss.proofs.PlanLemmas.{fails_of}
use Rattle.nc_nextloss.proofs.laws.check_striped_repair.Goals as goal

pub returns-clause-verdict : goal.returns-clause-verdict
returns-clause-verdict c =
    subst (λ (x : CodeParts). IsVerdict (repaired x c.args.lost c.args.plan.now) c.check_witness.result) c.striped.ensures.code c.check_witness.ensures.verdict

pub returns-clause-fails : goal.returns-clause-fails
returns-clause-fails c =
    fails_of (repaired c.striped.result c.args.lost c.args.plan.now) c.check_witness.result c.check_witness.ensures.verdict
    (λ mds. no_witness c.args.width c.args.lost c.args.plan.now c.requires.wide c.requires.narrow c.requires.lost c.told_plan.ensures
    (record { mds = subst (λ (x : CodeParts). IsMds (repaired x c.args.lost c.args.plan.now)) c.striped.ensures.code mds }))
