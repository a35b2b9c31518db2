use Rattle.nc_words.proofs.Chosen.{if_none, without_budget, without_seed, without_workers}
use Rattle.nc_words.proofs.options.read_setting.Goals as goal

pub returns-in_err-seed-clause-none : goal.returns-in_err-seed-clause-none
returns-in_err-seed-clause-none c = if_none c.from_residual.result (without_seed _ c.in_err-seed.ensures.none)

pub returns-in_err-budget-clause-none : goal.returns-in_err-budget-clause-none
returns-in_err-budget-clause-none c = if_none c.from_residual-in_err-budget.result (without_budget _ c.in_err-budget.ensures.none)

pub returns-in_err-workers-clause-none : goal.returns-in_err-workers-clause-none
returns-in_err-workers-clause-none c = if_none c.from_residual-in_err-workers.result (without_workers _ c.in_err-workers.ensures.none)
