use Rattle.std.proofs.Common.{refl, sym, ◌∙◌}
use Rattle.nc_download.proofs.Judged.{inner_good, inner_long, inner_other, not_here, opened}
use Rattle.std.specs.Prelude.{◌≡◌, true, false}
use Rattle.nc_download.proofs.at_once.verdict.Goals as goal

false_is_not : false ≡ true → ⊥
false_is_not e = cc

pub returns-in_default : goal.returns-in_default
returns-in_default c = record { verdict = not_here _ _ _ c.requires.opens c.in_default.not-Payload; long = tt }

pub returns-then-is_same-clause-verdict : goal.returns-then-is_same-clause-verdict
returns-then-is_same-clause-verdict c =
    inner_good _ _ _ _ c.requires.inner (opened c.args.wanted.now _ _ _ c.requires.opens c.in-Payload.is) (sym c.requires.digest ∙ c.if-is_same.ensures.0 refl)

pub returns-then-is_same-clause-long : goal.returns-then-is_same-clause-long
returns-then-is_same-clause-long c = inner_long c.args.wanted.now _ _ _ c.requires.inner (opened c.args.wanted.now _ _ _ c.requires.opens c.in-Payload.is)

pub returns-else-is_same-clause-verdict : goal.returns-else-is_same-clause-verdict
returns-else-is_same-clause-verdict c =
    inner_other _ _ _ _ c.requires.inner (opened c.args.wanted.now _ _ _ c.requires.opens c.in-Payload.is) (λ e. false_is_not (c.if-is_same.ensures.1 (c.requires.digest ∙ e)))
