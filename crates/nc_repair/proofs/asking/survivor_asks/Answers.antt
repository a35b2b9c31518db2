use Rattle.std.proofs.Common.{◌≡◌, ◌-◌, ◌++◌, ◌∷◌, [], ap, sym, ◌∙◌, arith}
use Rattle.nc_cloud.specs.Rounds.{row}
use Rattle.nc_cloud.proofs.Rounds.{row_more}
use Rattle.nc_repair.specs.Asking.{survivor_ask}
use Rattle.nc_repair.proofs.asking.survivor_asks.Goals as goal

pub loop-k-preserved : goal.loop-k-preserved
loop-k-preserved c =
    let ask = survivor_ask c.args.width c.args.name.now c.args.live.now c.args.plan.now c.args.lost in
    c.in_ok-push_survivor.ensures ∙ ap (λ l. l ++ ask c.loop-k.k ∷ []) c.loop-k.invariant ∙ sym (row_more ask c.loop-k.k)

pub returns : goal.returns
returns c =
    let ask = survivor_ask c.args.width c.args.name.now c.args.live.now c.args.plan.now c.args.lost in
    let all : c.loop-k.k ≡ c.args.width - 1 = omega (arith, c.loop-k-test.false, c.loop-k.auto.k-end) in
    record { are = c.loop-k.invariant ∙ ap (row ask 0) all }
