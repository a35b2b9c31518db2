use Rattle.std.proofs.Common.{ℕ, subst}
use Rattle.nc_cloud.specs.Deciding.{AreAscending}
use Rattle.nc_cloud.specs.declared.fleet.Job.{Job}
use Rattle.nc_write.proofs.ChunkRounds.{metas_ascend}
use Rattle.nc_write.proofs.RemoveDone.{removal_did}
use Rattle.nc_write.proofs.removing.remove_in_turn.Goals as goal

pub write_metas-answer-requires-clause-clouds : goal.write_metas-answer-requires-clause-clouds
write_metas-answer-requires-clause-clouds g c = subst (λ (n : ℕ). AreAscending (λ (j : Job). j.cloud) n c.in-Ok.metas.items) c.width-width.ensures (metas_ascend _ _ _ _ c.in-Ok.ensures)

pub returns : goal.returns
returns g c = record {
  did =
      removal_did _ _ _ _ _ _ _ _ _ c.width-width.ensures c.generation.ensures c.in-Some.ensures.next.0 c.in-Some.ensures.next.1 c.in-Ok.ensures
      c.write_metas-answer.ensures.rounds c.answer_of.ensures;
}
