use Rattle.std.proofs.Common.{◌≡◌, ◌<◌, ℕ, Option, List, length, [], sym, ◌∙◌, subst, arith}
use Rattle.std.proofs.lemmas.List.{get_or_default}
use Rattle.nc_settle.specs.MetaWrites.{named}
use Rattle.nc_download.specs.Listing.{AreListed}
use Rattle.nc_download.proofs.ListLaws.{AreLooked, all_show, list_refused, looked_more, looked_none, stops_for}
use Rattle.nc_download.proofs.listing.find_all.Goals as goal

pub loop-k-init : goal.loop-k-init
loop-k-init g c =
    subst (λ (lens : List (Option ℕ)). AreLooked g.F.Fleet c.args.names.now 0 (named c.args.failed.now) (named c.args.failed.now) lens c.args.fleet.now c.args.fleet.now)
    (sym c.new-lens.ensures.items) (looked_none g.F.Fleet c.args.names.now (named c.args.failed.now) c.args.fleet.now)

pub loop-k-preserved : goal.loop-k-preserved
loop-k-preserved g c =
    let low : c.loop-k.k < length c.args.names.now = omega (arith, c.loop-k-test.true, c.loop-k.auto.k-end) in
    looked_more g.F.Fleet c.args.names.now (named c.args.failed.now) (named c.loop-k.failed) (named c.find_without.new.failed) c.args.fleet.now c.loop-k.fleet c.find_without.new.fleet
    c.loop-k.k c.loop-k.lens.items c.push_len.new.lens.items c.in-Ok.len c.index-names-k.result c.loop-k.invariant
    (c.index-names-k.is ∙ get_or_default c.args.names.now c.loop-k.k c.index-names-k.result [] low) c.in-Ok.ensures.found
    c.find_without.ensures.more c.in-Ok.ensures.only c.find_without.ensures.looked c.find_without.ensures.stops c.find_without.ensures.gets c.in-Ok-push_len.ensures

pub returns-in-Err-clause-refused : goal.returns-in-Err-clause-refused
returns-in-Err-clause-refused g c =
    let low : c.loop-k.k < length c.args.names.now = omega (arith, c.loop-k-test.true, c.loop-k.auto.k-end) in
    list_refused g.F.Fleet c.args.names.now (named c.args.failed.now) (named c.loop-k.failed) (named c.find_without.new.failed) c.args.fleet.now c.loop-k.fleet c.find_without.new.fleet
    c.loop-k.lens.items c.index-names-k.result (record { fault = c.in-Err.fault; done = c.loop-k.k }) c.loop-k.invariant c.find_without.ensures.more low
    (c.index-names-k.is ∙ get_or_default c.args.names.now c.loop-k.k c.index-names-k.result [] low) c.in-Err.ensures.refused

pub returns-in-Err-clause-stopped : goal.returns-in-Err-clause-stopped
returns-in-Err-clause-stopped g c told =
    stops_for g.F.Fleet c.args.fleet.now told c.args.names.now (named c.args.failed.now) (named c.find_without.new.failed) c.find_without.new.fleet
    (record { fault = c.in-Err.fault; done = c.loop-k.k }) (returns-in-Err-clause-refused g c)

pub returns-clause-listed : goal.returns-clause-listed
returns-clause-listed g c =
    let all : c.loop-k.k ≡ length c.args.names.now = omega (arith, c.loop-k-test.false, c.loop-k.auto.k-end) in
    subst (λ (k : ℕ). AreListed g.F.Fleet c.args.fleet.now c.args.names.now k (named c.args.failed.now) (named c.loop-k.failed) c.loop-k.lens.items) all c.loop-k.invariant.listed

pub returns-clause-shows : goal.returns-clause-shows
returns-clause-shows g c told = all_show g.F.Fleet c.args.fleet.now told c.args.names.now (named c.args.failed.now) (named c.loop-k.failed) c.loop-k.lens.items (returns-clause-listed g c)
