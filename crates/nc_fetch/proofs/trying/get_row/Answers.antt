use Rattle.std.proofs.Common.{◌≡◌, ◌∙◌, List, length, map, ap, sym, subst, arith}
use Rattle.nc_cloud.specs.declared.fleet.Ask.{Ask}
use Rattle.nc_cloud.specs.Fleet.{asked}
use Rattle.nc_fetch.specs.Asking.{AreAnswered}
use Rattle.nc_fetch.proofs.FoundLaws.{same_length, written_back}
use Rattle.nc_fetch.proofs.trying.get_row.Goals as goal

pub returns-clause-answered : goal.returns-clause-answered
returns-clause-answered g c =
    let long : length c.get_all.new.asks ≡ length c.args.asks.items = same_length _ _ c.get_all.ensures.entries ∙ ap length c.deref_mut.ensures.value in
    subst (λ (asks : List Ask). AreAnswered g.F.Fleet asks c.args.fleet.now c.get_all.new.fleet) (sym (written_back c.args.asks.len c.get_all.new.asks c.args.asks.items (omega (arith, c.args.asks.ok)) long)) c.get_all.ensures.answered

pub returns-clause-entries : goal.returns-clause-entries
returns-clause-entries g c =
    let long : length c.get_all.new.asks ≡ length c.args.asks.items = same_length _ _ c.get_all.ensures.entries ∙ ap length c.deref_mut.ensures.value in
    ap (map asked) (written_back c.args.asks.len c.get_all.new.asks c.args.asks.items (omega (arith, c.args.asks.ok)) long) ∙ c.get_all.ensures.entries ∙ ap (map asked) c.deref_mut.ensures.value
