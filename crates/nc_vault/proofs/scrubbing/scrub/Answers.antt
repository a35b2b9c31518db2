use Rattle.std.proofs.Common.{◌≡◌, ◌<◌, ◌≤◌, ◌∙◌, ℕ, refl, Some, List, length, slice_get, sym, ap, subst, arith}
use Rattle.std.proofs.lemmas.Option.{slice_get_read}
use Rattle.nc_words.specs.declared.act.Act.TheVariants as act
use Rattle.nc_words.specs.Acts.{task_of}
use Rattle.nc_vault.specs.declared.fault.Fault.{Fault}
use Rattle.nc_vault.specs.declared.reply.Reply.{Reply}
use Rattle.nc_vault.specs.declared.reply.Reply.TheVariants as reply
use Rattle.nc_vault.specs.Acting.{Acted}
use Rattle.nc_vault.proofs.Members.{next_is_new}
use Rattle.nc_vault.proofs.ScrubLaws.{ScrubbedSoFar, scrub_done, scrubbed_more, scrubbed_none, so_clouds, so_grows, so_held, so_stops, unlisted_acted, untold_acted, untold_since}
use Rattle.nc_vault.proofs.scrubbing.scrub.Goals as goal

pub loop-done-init : goal.loop-done-init
loop-done-init g c = scrubbed_none g.F.Fleet c.in-Ok.names.items c.new-told.result c.all_names.ensures.listed c.new-told.ensures

pub loop-done-preserved : goal.loop-done-preserved
loop-done-preserved g c =
    let names : List (List ℕ) = c.in-Ok.names.items in
    let long : c.len-done-end.result ≡ length names = c.len-done-end.ensures ∙ c.in-Ok.names.ok.0 in
    let within : c.loop-done.done < length names = omega (arith, c.loop-done-test.true, long) in
    let next : slice_get names c.loop-done.done ≡ Some c.index.result.now = slice_get_read names (length names) c.loop-done.done c.index.result.now refl within c.index.ensures in
    scrubbed_more g.F.Fleet names c.loop-done.done c.loop-done.told c.index.result.now next (next_is_new names c.loop-done.done c.index.result.now c.in-Ok.ensures.sorted next)
    c.loop-done.invariant c.scrub_name.ensures.only c.scrub_name.new.told c.in-Ok-scrub_name.ensures.done

pub scrub_name-requires-clause-wide : goal.scrub_name-requires-clause-wide
scrub_name-requires-clause-wide g c = subst (λ (n : ℕ). 4 ≤ n) (sym c.loop-done.invariant.clouds) c.requires.wide

pub scrub_name-requires-clause-narrow : goal.scrub_name-requires-clause-narrow
scrub_name-requires-clause-narrow g c = subst (λ (n : ℕ). n ≤ 10) (sym c.loop-done.invariant.clouds) c.requires.narrow

-- a list failed
pub returns-in-Err : goal.returns-in-Err
returns-in-Err g c = record {
  acted = λ s bytes.
      subst (λ (answer : Reply). Acted g.F.Fleet (task_of s act.Scrub bytes) c.args.fleet.now c.all_names.new.fleet answer)
      (sym (c.stopped.ensures ∙ ap (λ (cause : Fault). reply.Stopped cause (Some 0)) c.list_fault.ensures))
      (unlisted_acted g.F.Fleet s bytes c.all_names.ensures.listed c.in-Err.fault c.in-Err.ensures.cause c.in-Err.ensures.below);
}

-- a name can't be told
pub returns-in-Err-scrub_name : goal.returns-in-Err-scrub_name
returns-in-Err-scrub_name g c =
    let names : List (List ℕ) = c.in-Ok.names.items in
    let done : ℕ = c.loop-done.done in
    let name : List ℕ = c.index.result.now in
    let long : c.len-done-end.result ≡ length names = c.len-done-end.ensures ∙ c.in-Ok.names.ok.0 in
    let within : c.loop-done.done < length names = omega (arith, c.loop-done-test.true, long) in
    let next : slice_get names done ≡ Some name = slice_get_read names (length names) done name refl within c.index.ensures in
    let is_new = next_is_new names done name c.in-Ok.ensures.sorted next in
    let so : ScrubbedSoFar g.F.Fleet names done c.loop-done.told c.args.fleet.now c.loop-done.fleet = c.loop-done.invariant in
    let only = c.scrub_name.ensures.only in
    record {
      acted = λ s bytes.
          subst (λ (answer : Reply). Acted g.F.Fleet (task_of s act.Scrub bytes) c.args.fleet.now c.scrub_name.new.fleet answer) {x = reply.Stopped c.in-Err-scrub_name.fault (Some done)} (sym c.stopped-in-Err-scrub_name.ensures)
          (untold_acted g.F.Fleet s bytes (so_clouds g.F.Fleet names done c.loop-done.told name next is_new so only) (so_held g.F.Fleet names done c.loop-done.told name next is_new so only)
          (so_grows g.F.Fleet names done c.loop-done.told name next is_new so only) (so_stops g.F.Fleet names done c.loop-done.told name next is_new so only)
          names done name next c.in-Ok.ensures.valid c.in-Ok.ensures.names c.in-Err-scrub_name.fault
          (untold_since g.F.Fleet names done c.loop-done.told name next is_new so only c.in-Err-scrub_name.fault c.in-Err-scrub_name.ensures.stopped));
    }

-- all names are told
pub returns : goal.returns
returns g c =
    let names : List (List ℕ) = c.in-Ok.names.items in
    let end : c.len-done-end.result ≡ length names = c.len-done-end.ensures ∙ c.in-Ok.names.ok.0 in
    let all : c.loop-done.done ≡ length names = omega (arith, c.loop-done-test.false, c.loop-done.auto.done-end, end) in
    let at : ScrubbedSoFar g.F.Fleet names (length names) c.loop-done.told c.args.fleet.now c.loop-done.fleet =
    subst (λ (k : ℕ). ScrubbedSoFar g.F.Fleet names k c.loop-done.told c.args.fleet.now c.loop-done.fleet) all c.loop-done.invariant in
    record {
      acted = λ s bytes. scrub_done g.F.Fleet s bytes at.clouds at.held at.grows at.stops names c.loop-done.told at.clean c.in-Ok.ensures.names at.flaws;
    }
