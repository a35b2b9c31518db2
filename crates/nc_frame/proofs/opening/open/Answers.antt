use Rattle.std.proofs.Common.{sym, ◌∙◌}
use Rattle.nc_frame.proofs.Shapes.{same_parts}
use Rattle.nc_frame.proofs.opening.open.Goals as goal

pub returns-else-is_same : goal.returns-else-is_same
returns-else-is_same c = λ d u k payload sealed.
    let s = same_parts _ _ _ _ _ _ _ _ _ sealed c.in-Some.ensures.some in (
      s.cloud ∙ c.if-parts-cloud.false,
      s.width ∙ c.if-parts-width.false,
      λ e. cc (c.is_same.ensures.1 (sym s.key ∙ e ∙ sym c.text.ensures ∙ sym c.as_str.ensures ∙ sym c.as_bytes.ensures.value), c.if-is_same.false),
    )
