use Rattle.std.proofs.Common.{List, ℕ, subst}
use Rattle.nc_name.specs.Names.{IsName}
use Rattle.nc_write.specs.Tidying.{all_parts}
use Rattle.nc_write.proofs.TidyTurns.{turn_keeps, turn_tidies}
use Rattle.nc_write.proofs.tidying.tidy.Goals as goal

pub returns-clause-keeps : goal.returns-clause-keeps
returns-clause-keeps g c told = (turn_keeps g.F.Fleet c.args.name.now c.args.top.now.top (subst (λ (l : List ℕ). IsName l) c.bytes-told.ensures.same c.bytes-told.ensures.name) all_parts _ _ _ c.tidy_in_turn.ensures.turn).keeps told

pub returns-clause-alone : goal.returns-clause-alone
returns-clause-alone g c told = (turn_keeps g.F.Fleet c.args.name.now c.args.top.now.top (subst (λ (l : List ℕ). IsName l) c.bytes-told.ensures.same c.bytes-told.ensures.name) all_parts _ _ _ c.tidy_in_turn.ensures.turn).alone told

pub returns-clause-tidy : goal.returns-clause-tidy
returns-clause-tidy g c told sure = turn_tidies g.F.Fleet c.args.name.now c.args.top.now.top (subst (λ (l : List ℕ). IsName l) c.bytes-told.ensures.same c.bytes-told.ensures.name) _ _ _ c.tidy_in_turn.ensures.turn told sure

pub returns-clause-clouds : goal.returns-clause-clouds
returns-clause-clouds g c = (turn_keeps g.F.Fleet c.args.name.now c.args.top.now.top (subst (λ (l : List ℕ). IsName l) c.bytes-told.ensures.same c.bytes-told.ensures.name) all_parts _ _ _ c.tidy_in_turn.ensures.turn).clouds

pub returns-clause-faults : goal.returns-clause-faults
returns-clause-faults g c = (turn_keeps g.F.Fleet c.args.name.now c.args.top.now.top (subst (λ (l : List ℕ). IsName l) c.bytes-told.ensures.same c.bytes-told.ensures.name) all_parts _ _ _ c.tidy_in_turn.ensures.turn).faults

pub returns-clause-grows : goal.returns-clause-grows
returns-clause-grows g c = (turn_keeps g.F.Fleet c.args.name.now c.args.top.now.top (subst (λ (l : List ℕ). IsName l) c.bytes-told.ensures.same c.bytes-told.ensures.name) all_parts _ _ _ c.tidy_in_turn.ensures.turn).grows

pub returns-clause-gets : goal.returns-clause-gets
returns-clause-gets g c = (turn_keeps g.F.Fleet c.args.name.now c.args.top.now.top (subst (λ (l : List ℕ). IsName l) c.bytes-told.ensures.same c.bytes-told.ensures.name) all_parts _ _ _ c.tidy_in_turn.ensures.turn).gets

pub returns-clause-time : goal.returns-clause-time
returns-clause-time g c = (turn_keeps g.F.Fleet c.args.name.now c.args.top.now.top (subst (λ (l : List ℕ). IsName l) c.bytes-told.ensures.same c.bytes-told.ensures.name) all_parts _ _ _ c.tidy_in_turn.ensures.turn).time
