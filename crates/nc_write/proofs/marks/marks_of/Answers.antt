use Rattle.nc_write.proofs.MarkLaws.{digests_in_front, marks_shape, zeros_past}
use Rattle.nc_write.proofs.marks.marks_of.Goals as goal

pub returns-clause-marks : goal.returns-clause-marks
returns-clause-marks g c = digests_in_front _ _ c.requires.few c.mark_all.ensures

pub returns-clause-shape : goal.returns-clause-shape
returns-clause-shape g c = marks_shape _ _ (digests_in_front _ _ c.requires.few c.mark_all.ensures)

pub returns-clause-past : goal.returns-clause-past
returns-clause-past g c = zeros_past _ _ (digests_in_front _ _ c.requires.few c.mark_all.ensures)
