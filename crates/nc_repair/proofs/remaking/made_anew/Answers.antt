use Rattle.std.proofs.Common.{List, ℕ, subst}
use Rattle.nc_mix.specs.Regenerating.{IsRegenerated, RepairsFile}
use Rattle.nc_repair.proofs.GivingLaws.{stops_mending}
use Rattle.nc_repair.proofs.remaking.made_anew.Goals as goal

pub returns-in-Err-clause-stops : goal.returns-in-Err-clause-stops
returns-in-Err-clause-stops g c = stops_mending _ _ _ _ _ _ c.in-Err.fault c.in-Err.ensures.stops

pub returns-in-Ok-regenerate-clause-made : goal.returns-in-Ok-regenerate-clause-made
returns-in-Ok-regenerate-clause-made g c = record {
  chunks = c.in-Ok.fetched.items;
  gave = c.in-Ok.ensures.gave;
  is = subst (λ (l : List (List ℕ)). IsRegenerated c.args.plan.now c.args.lost l c.in-Ok-regenerate.pair) c.deref.ensures.value c.in-Ok-regenerate.ensures.pair;
  of_file = subst (λ (l : List (List ℕ)). RepairsFile c.args.plan.now c.args.lost c.args.width l c.in-Ok-regenerate.pair) c.deref.ensures.value c.in-Ok-regenerate.ensures.of_file;
}
