use Rattle.std.proofs.Common.{◌≡◌, ◌∙◌, ap, refl, subst, sym}
use Rattle.nc_meta.specs.declared.meta.Live.{Live}
use Rattle.nc_meta.specs.declared.meta.Meta.TheVariants as meta
use Rattle.nc_write.specs.Doing.{answer_by}
use Rattle.nc_write.specs.Doing.WriteDid.{in_turn}
use Rattle.nc_write.specs.InTurn.{rounds_of}
use Rattle.nc_write.specs.Laying.{IsLaid}
use Rattle.nc_write.specs.Putting.{IsPutOf}
use Rattle.nc_write.proofs.DoingLaws.{has_next}
use Rattle.nc_write.proofs.putting.put_in_turn.Goals as goal

pub returns : goal.returns
returns g c =
    let rounds = c.write_laid-answer.ensures.rounds in
    let live : c.in-Ok.version.live ≡ rounds.done.live = sym rounds.finishes.live in
    record {
      did =
          in_turn (has_next c.args.before.now.top _ _ c.generation.ensures c.in-Some.ensures.next.0 c.in-Some.ensures.next.1) (meta.Live rounds.done.live) (rounds_of rounds.done) c.write_laid-answer.result
          (record {
            version = rounds.done;
            of = subst (λ n. IsPutOf n c.args.name.now c.args.before.now.top c.args.good.now c.args.bytes.now rounds.done) c.requires.width (c.in-Ok.ensures.once_finished rounds.done rounds.finishes);
            is_meta = refl;
            are_rounds = refl;
          }) rounds.wrote (c.answer_of.ensures ∙ ap (λ (m : Live). answer_by (meta.Live m) c.write_laid-answer.result) live);
    }

pub write_laid-answer-requires-clause-laid : goal.write_laid-answer-requires-clause-laid
write_laid-answer-requires-clause-laid g c = λ κ l. subst (λ n. IsLaid n c.in-Ok.version) c.requires.width c.in-Ok.ensures.is
