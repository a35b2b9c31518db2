use Rattle.std.proofs.Common.{ap}
use Rattle.nc_words.proofs.SendLaws.{all_parts, failed_part, next_part, sends_none}
use Rattle.nc_run.specs.Texts.{file_row_text}
use Rattle.nc_run.proofs.saying.say_rows.Goals as goal

pub loop-row-init : goal.loop-row-init
loop-row-init g l = sends_none g.K.Sink l.args.out.now tt

pub loop-row-preserved : goal.loop-row-preserved
loop-row-preserved g l =
    next_part g.K.Sink file_row_text l.args.rows.now l.loop-row.row-index l.row-item.result (ap file_row_text l.row-item.is) l.loop-row-test.true l.loop-row.invariant l.in_ok-say_file.field-0 l.in_ok-say_file.ensures.says

pub returns-in_err-say_file : goal.returns-in_err-say_file
returns-in_err-say_file g c = record {
  says = failed_part g.K.Sink file_row_text c.args.rows.now c.loop-row.row-index c.row-item.result (ap file_row_text c.row-item.is) c.loop-row-test.true c.loop-row.invariant c.from_residual.result c.from_residual.ensures.0 _ c.in_err-say_file.ensures.says;
}

pub returns : goal.returns
returns g c = record { says = all_parts g.K.Sink file_row_text c.args.rows.now c.loop-row.row-index tt c.loop-row-test.false c.loop-row.invariant }
