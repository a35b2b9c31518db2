use Rattle.std.proofs.Common.{sym, ◌∙◌, subst}
use Rattle.nc_bytes.specs.Bytes.{AreBytes}
use Rattle.nc_cloud.proofs.KeyOrder.{text_order}
use Rattle.nc_cloud.proofs.SortLaws.{order_same}
use Rattle.nc_cloud.proofs.sorting.key_cmp.Goals as goal

pub returns-clause-order : goal.returns-clause-order
returns-clause-order c =
    c.parts_cmp.ensures
    ∙ sym (text_order c.args.a.now c.args.b.now
    (subst AreBytes (c.bytes-first.ensures.same ∙ c.name.ensures) c.bytes-first.ensures.name.are_bytes)
    (subst AreBytes (c.bytes-second.ensures.same ∙ c.name-2.ensures) c.bytes-second.ensures.name.are_bytes))

pub returns-clause-same : goal.returns-clause-same
returns-clause-same c = λ e. order_same c.args.a.now c.args.b.now (sym c.parts_cmp.ensures ∙ e)
