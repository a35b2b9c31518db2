use Rattle.std.proofs.Common.{sym, subst, Option, ℕ, ◌≡◌, ◌+◌, arith}
use Rattle.nc_settle.specs.declared.deciding.Top.{Top}
use Rattle.nc_settle.specs.Views.{width_of}
use Rattle.nc_settle.specs.Tops.{IsTopSoFar}
use Rattle.nc_settle.proofs.Steps.{top_more}
use Rattle.nc_settle.proofs.view.View.top.Goals as goal

pub loop-cloud-preserved : goal.loop-cloud-preserved
loop-cloud-preserved c =
    subst (λ (t : Option Top). IsTopSoFar c.args.self.now (c.loop-cloud.cloud + 1) t) (sym c.higher-top.ensures)
    (top_more c.args.self.now c.loop-cloud.cloud c.loop-cloud.top c.best_on.result c.loop-cloud.invariant c.best_on.ensures.some c.best_on.ensures.none)

pub returns-clause-some : goal.returns-clause-some
returns-clause-some c =
    let all : c.loop-cloud.cloud ≡ width_of c.args.self.now = omega arith in
    let whole : IsTopSoFar c.args.self.now (width_of c.args.self.now) c.loop-cloud.top = subst (λ (n : ℕ). IsTopSoFar c.args.self.now n c.loop-cloud.top) all c.loop-cloud.invariant in
    whole.some

pub returns-clause-none : goal.returns-clause-none
returns-clause-none c =
    let all : c.loop-cloud.cloud ≡ width_of c.args.self.now = omega arith in
    let whole : IsTopSoFar c.args.self.now (width_of c.args.self.now) c.loop-cloud.top = subst (λ (n : ℕ). IsTopSoFar c.args.self.now n c.loop-cloud.top) all c.loop-cloud.invariant in
    whole.none
