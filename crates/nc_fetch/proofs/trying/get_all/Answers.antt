use Rattle.std.proofs.Common.{◌∙◌, length, sym}
use Rattle.std.proofs.lemmas.Bool.{eqb-true}
use Rattle.nc_fetch.proofs.RoundLaws.{answered_none}
use Rattle.nc_fetch.proofs.trying.get_all.Goals as goal

pub returns-then-is_empty-clause-answered : goal.returns-then-is_empty-clause-answered
returns-then-is_empty-clause-answered g c = answered_none g.F.Fleet _ c.args.asks.now (eqb-true (length c.args.asks.now) 0 (sym c.is_empty.ensures ∙ c.if-is_empty.true))
