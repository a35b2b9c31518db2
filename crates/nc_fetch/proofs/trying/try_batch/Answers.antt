use Rattle.std.proofs.Common.{◌≡◌, List, length, ap, subst, arith}
use Rattle.nc_fetch.specs.declared.founds.Found.{Found}
use Rattle.nc_fetch.specs.Founds.{NamesGood}
use Rattle.nc_fetch.specs.Whys.{AreMarked}
use Rattle.nc_fetch.proofs.TriedLaws.{tries_batch}
use Rattle.nc_fetch.proofs.trying.try_batch.Goals as goal

pub good_ones-passed-requires : goal.good_ones-passed-requires
good_ones-passed-requires g c =
    let long : length c.deref.result.now ≡ length c.in_ok-zeros.zeros.items = ap length c.deref.ensures.value in
    omega (arith, long, c.in_ok-zeros.ensures.asked.long, c.requires.narrow)

pub whys_after-requires-clause-few : goal.whys_after-requires-clause-few
whys_after-requires-clause-few g c =
    let long : length c.deref-2.result.now ≡ length c.in_ok-zeros.zeros.items = ap length c.deref-2.ensures.value in
    omega (arith, long, c.in_ok-zeros.ensures.asked.long, c.requires.narrow)

pub whys_after-requires-clause-same : goal.whys_after-requires-clause-same
whys_after-requires-clause-same g c =
    let long : length c.deref-2.result.now ≡ length c.in_ok-zeros.zeros.items = ap length c.deref-2.ensures.value in
    let other : length c.deref-3.result.now ≡ length c.in_ok-ones.ones.items = ap length c.deref-3.ensures.value in
    omega (arith, long, other, c.in_ok-zeros.ensures.asked.long, c.in_ok-ones.ensures.asked.long, c.ask_row.ensures.looked.clouds)

pub returns-clause-tried : goal.returns-clause-tried
returns-clause-tried g c =
    tries_batch g.F.Fleet c.args.name.now c.args.live.now c.args.fleet.now c.ask_row.new.fleet c.ask_row-2.new.fleet c.ask_row.ensures.looked.clouds c.ask_row.ensures.looked.held c.ask_row.ensures.looked.grows c.ask_row-2.ensures.looked.grows
    c.args.at c.args.next c.width-width.result c.args.whys.now c.whys_after.result c.in_ok-zeros.zeros.items c.in_ok-ones.ones.items c.free_ones-left.result c.good_ones-passed.result c.width-width.ensures
    c.in_ok-zeros.ensures.asked c.in_ok-ones.ensures.asked c.free_ones-left.ensures
    (subst (λ (z : List Found). NamesGood z (length z) c.good_ones-passed.result) c.deref.ensures.value c.good_ones-passed.ensures)
    (subst (λ (z : List Found). AreMarked z c.in_ok-ones.ones.items (length z) c.args.whys.now c.whys_after.result) c.deref-2.ensures.value
    (subst (λ (o : List Found). AreMarked c.deref-2.result.now o (length c.deref-2.result.now) c.args.whys.now c.whys_after.result) c.deref-3.ensures.value c.whys_after.ensures))
    c.requires.later c.requires.within c.args.pieces.now.items _ c.in_ok-join.ensures
