use Rattle.std.proofs.Common.{◌≡◌, ℕ, refl, subst, arith}
use Rattle.nc_matrix.specs.Elimination.{IsStep}
use Rattle.nc_matrix.proofs.EndLemmas.{inverse_is, kernel_is}
use Rattle.nc_matrix.proofs.invert.Goals as goal

pub returns-in-None : goal.returns-in-None
returns-in-None c =
    kernel_is c.args.a.now.size c.loop-c.c c.args.a.now.cells c.augmented-rows.result c.loop-c.rows c.kernel.result
    c.augmented-rows.ensures c.loop-c.invariant c.loop-c-test.true (c.in-None.ensures.none refl) c.kernel.ensures

pub returns : goal.returns
returns c =
    let done : c.loop-c.c ≡ c.args.a.now.size = omega arith in
    let step = subst (λ (k : ℕ). IsStep c.args.a.now.size k c.augmented-rows.result c.loop-c.rows) done c.loop-c.invariant in (
      c.right_half.ensures.size,
      inverse_is c.args.a.now.size c.args.a.now.cells c.augmented-rows.result c.loop-c.rows c.right_half.result.cells
          c.augmented-rows.ensures step c.right_half.ensures.entries c.right_half.ensures.bytes,
    )
