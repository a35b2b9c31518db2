-- What a stop makes of a vault.
use Rattle.std.proofs.Common.{◌≡◌, ◌≤◌, ◌<◌, ℕ, Option, None, Some, List, ap, refl, subst, arith}
use Rattle.nc_cloud.specs.Contents.{nothing}
use Rattle.nc_state.specs.Vaults.{IsVault, Vault}
use Rattle.nc_memory.specs.declared.memory.MemFleet.{MemFleet}
use Rattle.nc_memory.specs.Memory.{contents_of, log_of, width_of}
use Rattle.nc_memory.specs.MomentLaws.{only_last}
use Rattle.nc_memory.specs.Moments.{image_of, now_of}
use Rattle.nc_memory.specs.Stops.{LeavesStopped}
use Rattle.nc_run.specs.Standing.{tasks_of}
use Rattle.nc_run.specs.Turns.{TakesAll, TakesNext, Turn}
use Rattle.nc_run.proofs.StandLaws.{stop_leads}
use Rattle.nc_history.specs.Histories.{StandsHappened}
use Rattle.nc_history.proofs.LossLaws.{run_leads}
use Rattle.nc_drive.specs.Fleets.{clouds}
use Rattle.nc_drive.specs.Outcomes.{acts}

-- the next act was under way when the fleet was stopped
pub stopped_leads : (old middle ended new : MemFleet) (done : List (Turn MemFleet)) (next : Option (Turn MemFleet)) (place : ℕ) (V : Vault)
    → V.contents ≡ contents_of old → IsVault (width_of old) V → TakesAll clouds old done middle → TakesNext clouds middle next ended → now_of middle ≤ place → place < now_of ended
    → LeavesStopped place ended new → StandsHappened (width_of old) (acts done next) V (contents_of new)
stopped_leads old middle ended new done None place V at stands all same before within leaves =
    let long : now_of ended ≡ now_of middle = ap now_of same in
    absurd (omega (arith, before, within, long))
stopped_leads old middle ended new done (Some t) place V at stands all takes before within leaves =
    let image : image_of t.after (now_of middle) (contents_of new) = subst (λ (s : MemFleet). image_of s (now_of middle) (contents_of new)) takes.1 (leaves.image (now_of middle) before) in
    run_leads (width_of old) (tasks_of done) (Some t.task) V (contents_of new)
    (stop_leads clouds tt (width_of old) old middle done t V (contents_of new) refl at stands all takes.0 (λ H is. only_last (log_of middle) nothing H is) image)
