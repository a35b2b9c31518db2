use Rattle.std.proofs.Common.{◌≡◌, ◌<◌, ◌≤◌, ◌*◌, ℕ, refl, Some, List, [], length, slice_get, sym, ap, ◌∙◌, subst, arith}
use Rattle.std.proofs.lemmas.Option.{slice_get_read}
use Rattle.nc_words.specs.Acts.{FitsWidth, task_of}
use Rattle.nc_vault.specs.declared.fault.Fault.{Fault}
use Rattle.nc_vault.specs.declared.reply.Reply.{Reply}
use Rattle.nc_vault.specs.declared.reply.Reply.TheVariants as reply
use Rattle.nc_vault.specs.Acting.{Acted}
use Rattle.nc_vault.specs.Sweeping.{sweep_reply}
use Rattle.nc_vault.proofs.Members.{next_is_new}
use Rattle.nc_vault.proofs.SweepLaws.{all_acted, list_acted, name_acted}
use Rattle.nc_vault.proofs.SweepStates.{Sweeping, sweeping_more, sweeping_none}
use Rattle.nc_vault.proofs.sweeping.sweep.Goals as goal

pub loop-done-init : goal.loop-done-init
loop-done-init g c = sweeping_none g.F.Fleet c.args.setting.now c.args.act.now c.requires.sweeps c.in-Ok.names.items c.all_names.ensures.listed

pub loop-done-preserved : goal.loop-done-preserved
loop-done-preserved g c =
    let names : List (List ℕ) = c.in-Ok.names.items in
    let long : c.len-done-end.result ≡ length names = c.len-done-end.ensures ∙ c.in-Ok.names.ok.0 in
    let within : c.loop-done.done < length names = omega (arith, c.loop-done-test.true, long) in
    let next : slice_get names c.loop-done.done ≡ Some c.index.result.now = slice_get_read names (length names) c.loop-done.done c.index.result.now refl within c.index.ensures in
    sweeping_more g.F.Fleet c.args.setting.now c.args.act.now c.requires.sweeps names c.loop-done.done c.loop-done.count c.in-Ok-sweep_name.more c.index.result.now next
    (next_is_new names c.loop-done.done c.index.result.now c.in-Ok.ensures.sorted next) c.loop-done.invariant c.in-Ok-sweep_name.ensures.done c.in-Ok-sweep_name.ensures.reads c.in-Ok.ensures.names

pub sweep_name-requires-clause-wide : goal.sweep_name-requires-clause-wide
sweep_name-requires-clause-wide g c κs alive = subst (λ (n : ℕ). 4 ≤ n) (sym c.loop-done.invariant.clouds) c.requires.wide

pub sweep_name-requires-clause-narrow : goal.sweep_name-requires-clause-narrow
sweep_name-requires-clause-narrow g c κs alive = subst (λ (n : ℕ). n ≤ 10) (sym c.loop-done.invariant.clouds) c.requires.narrow

pub sweep_name-requires-clause-fits : goal.sweep_name-requires-clause-fits
sweep_name-requires-clause-fits g c κs alive = subst (λ (n : ℕ). FitsWidth n c.args.act.now) (sym c.loop-done.invariant.clouds) c.requires.fits

-- at most four chunks are counted of each name
pub overflow_add-count : goal.overflow_add-count
overflow_add-count g c =
    let few : c.loop-done.count ≤ 4 * c.loop-done.done = c.loop-done.invariant.few in
    let one : c.in-Ok-sweep_name.more ≤ 4 = (c.in-Ok-sweep_name.ensures.done []).few in
    let long : c.len-done-end.result ≡ c.in-Ok.names.len = c.len-done-end.ensures in
    omega (arith, few, one, long, c.loop-done-test.true, c.in-Ok.names.ok.1, c.in-Ok.names.small)

pub returns-in-Err : goal.returns-in-Err
returns-in-Err g c = record {
  acted = λ bytes.
      subst (λ (answer : Reply). Acted g.F.Fleet (task_of c.args.setting.now c.args.act.now bytes) c.args.fleet.now c.all_names.new.fleet answer)
      (sym (c.stopped.ensures ∙ ap (λ (cause : Fault). reply.Stopped cause (Some 0)) c.list_fault.ensures))
      (list_acted g.F.Fleet c.args.setting.now c.args.act.now c.requires.sweeps bytes c.all_names.ensures.listed c.in-Err.fault c.in-Err.ensures.cause c.in-Err.ensures.below);
}

pub returns-in-Err-sweep_name : goal.returns-in-Err-sweep_name
returns-in-Err-sweep_name g c = record {
  acted = λ bytes.
      let names : List (List ℕ) = c.in-Ok.names.items in
      let long : c.len-done-end.result ≡ length names = c.len-done-end.ensures ∙ c.in-Ok.names.ok.0 in
      let within : c.loop-done.done < length names = omega (arith, c.loop-done-test.true, long) in
      let next : slice_get names c.loop-done.done ≡ Some c.index.result.now = slice_get_read names (length names) c.loop-done.done c.index.result.now refl within c.index.ensures in
      subst (λ (answer : Reply). Acted g.F.Fleet (task_of c.args.setting.now c.args.act.now bytes) c.args.fleet.now c.sweep_name.new.fleet answer) {x = reply.Stopped c.in-Err-sweep_name.fault (Some c.loop-done.done)} (sym c.stopped-in-Err-sweep_name.ensures)
      (name_acted g.F.Fleet c.args.setting.now c.args.act.now c.requires.sweeps bytes names c.loop-done.done c.loop-done.count c.index.result.now next
      (next_is_new names c.loop-done.done c.index.result.now c.in-Ok.ensures.sorted next) (c.loop-done.invariant.so bytes) c.in-Ok.ensures.names c.in-Err-sweep_name.fault
      (c.in-Err-sweep_name.ensures.stopped bytes));
}

pub returns : goal.returns
returns g c = record {
  acted = λ bytes.
      let names : List (List ℕ) = c.in-Ok.names.items in
      let long : c.len.result ≡ length names = c.len.ensures ∙ c.in-Ok.names.ok.0 in
      let end : c.len-done-end.result ≡ length names = c.len-done-end.ensures ∙ c.in-Ok.names.ok.0 in
      let all : c.loop-done.done ≡ length names = omega (arith, c.loop-done-test.false, c.loop-done.auto.done-end, end) in
      let at : Sweeping g.F.Fleet c.args.setting.now c.args.act.now names (length names) c.loop-done.count c.args.fleet.now c.loop-done.fleet =
      subst (λ (k : ℕ). Sweeping g.F.Fleet c.args.setting.now c.args.act.now names k c.loop-done.count c.args.fleet.now c.loop-done.fleet) all c.loop-done.invariant in
      subst (λ (answer : Reply). Acted g.F.Fleet (task_of c.args.setting.now c.args.act.now bytes) c.args.fleet.now c.loop-done.fleet answer) {x = sweep_reply c.args.act.now (length names) c.loop-done.count}
      (sym (◌∙◌ {b = sweep_reply c.args.act.now c.len.result c.loop-done.count} c.done_with.ensures (ap (λ (k : ℕ). sweep_reply c.args.act.now k c.loop-done.count) long)))
      (all_acted g.F.Fleet c.args.setting.now c.args.act.now c.requires.sweeps bytes names c.loop-done.count c.requires.fits at.most (at.so bytes) c.in-Ok.ensures.names);
}
