use Rattle.std.proofs.Common.{ℕ, ◌≡◌, ◌<◌, ◌∙◌, length, subst, sym, ap}
use Rattle.nc_memory.specs.Memory.{log_of}
use Rattle.nc_memory.specs.Rounds.{round_place}
use Rattle.nc_memory.specs.Stops.{cut}
use Rattle.nc_memory.proofs.Cuts.{round_within}
use Rattle.nc_memory.proofs.Stopping.{leaves_stopped}
use Rattle.nc_memory.proofs.memory.MemFleet.stopped.Goals as goal

pub cut_log-requires : goal.cut_log-requires
cut_log-requires c =
    subst (λ (k : ℕ). k < length (log_of c.args.self.now)) (sym (c.find_round-at.ensures ∙ ap (λ es. round_place es c.args.round) c.deref.ensures.value))
    (round_within (log_of c.args.self.now) c.args.round c.requires)

pub returns-clause-leaves : goal.returns-clause-leaves
returns-clause-leaves c =
    let at : c.find_round-at.result ≡ round_place (log_of c.args.self.now) c.args.round = c.find_round-at.ensures ∙ ap (λ es. round_place es c.args.round) c.deref.ensures.value in
    leaves_stopped (round_place (log_of c.args.self.now) c.args.round) c.args.fates.now c.args.self.now _ c.args.self.now.log.whole (round_within (log_of c.args.self.now) c.args.round c.requires)
    (c.in_ok-log.ensures ∙ ap (λ k. cut k c.args.fates.now (log_of c.args.self.now)) at)
