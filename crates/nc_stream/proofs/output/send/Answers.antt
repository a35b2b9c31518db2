use Rattle.std.proofs.Common.{◌++◌, take, arith, append_assoc, ap, ◌∙◌}
use Rattle.std.proofs.lemmas.List.{take-append-drop}
use Rattle.std.proofs.KnownBytes.{Appends-trans}
use Rattle.nc_stream.proofs.output.send.Goals as goal

pub loop-rest-preserved : goal.loop-rest-preserved
loop-rest-preserved g c =
    let i = c.loop-rest.invariant in
    record {
      front = i.front ++ take c.in-Ok.n c.loop-rest.rest.now;
      parts = append_assoc i.front (take c.in-Ok.n c.loop-rest.rest.now) c.split_at.result.1.now ∙ ap (λ l. i.front ++ (take c.in-Ok.n c.loop-rest.rest.now ++ l)) c.split_at.ensures.back ∙ ap (λ l. i.front ++ l) (take-append-drop c.in-Ok.n c.loop-rest.rest.now) ∙ i.parts;
      appends = Appends-trans _ _ _ _ _ i.appends c.in-Ok.ensures.bytes;
      later = omega (arith, i.later, c.in-Ok.ensures.cause.later);
      same = λ exact. c.in-Ok.ensures.cause.same exact ∙ i.same exact;
    }
