use Rattle.std.proofs.Common.{refl}
use Rattle.nc_run.proofs.CourseLaws.{done_unless}
use Rattle.nc_run.proofs.acting.turn.Goals as goal

pub returns-in-Stopped : goal.returns-in-Stopped
returns-in-Stopped g c = record {
  leaves = record { answer = c.step-reply.result; acted = c.step-reply.ensures.acted; went = (c.in-Stopped.is, refl, refl) };
}

pub returns-then-not-act_done : goal.returns-then-not-act_done
returns-then-not-act_done g c = record {
  leaves = record {
    answer = c.step-reply.result;
    acted = c.step-reply.ensures.acted;
    went = (done_unless c.step-reply.result c.in_default.not-Stopped, record { known = c.if-not-act_done.ensures.ends refl; why = c.if-not-act_done.ensures.why refl }, refl);
  };
}

pub returns-in-Ok : goal.returns-in-Ok
returns-in-Ok g c = record {
  leaves = record {
    answer = c.step-reply.result;
    acted = c.step-reply.ensures.acted;
    went = (done_unless c.step-reply.result c.in_default.not-Stopped, record { known = c.if-not-act_done.ensures.goes_on refl }, c.in-Ok.ensures.says);
  };
}

pub returns : goal.returns
returns g c = record {
  leaves = record {
    answer = c.step-reply.result;
    acted = c.step-reply.ensures.acted;
    went = (c.in-Err.ensures.done, record { known = c.if-not-act_done.ensures.goes_on refl }, record { fault = c.in-Err.field-0; sends = c.in-Err.ensures.says });
  };
}
