use Rattle.std.proofs.Common.{◌<◌, ◌++◌, ◌∙◌, List, length, ap, arith}
use Rattle.std.proofs.lemmas.List.{take_all}
use Rattle.nc_scrub.specs.declared.flaw.Flaw.{Flaw}
use Rattle.nc_vault.specs.Damage.{with_name}
use Rattle.nc_vault.proofs.ScrubLaws.{pushed_more, pushed_none}
use Rattle.nc_vault.proofs.scrubbing.push_flaws.Goals as goal

pub loop-k-init : goal.loop-k-init
loop-k-init c = pushed_none c.args.name.now c.args.told.now c.args.flaws.now

pub loop-k-preserved : goal.loop-k-preserved
loop-k-preserved c =
    let within : c.loop-k.k < length c.args.flaws.now = omega (arith, c.loop-k-test.true, c.loop-k.auto.k-end) in
    pushed_more c.args.name.now c.args.told.now c.loop-k.told _ c.args.flaws.now c.loop-k.k _ within c.loop-k.invariant c.in_ok-push.ensures.ok

pub returns : goal.returns
returns c =
    c.loop-k.invariant
    ∙ ap (λ (fs : List Flaw). c.args.told.now ++ with_name c.args.name.now fs) (take_all c.loop-k.k c.args.flaws.now (omega (arith, c.loop-k-test.false)))
