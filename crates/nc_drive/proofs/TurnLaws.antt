-- How time goes on in the acts of a run.
use Rattle.std.proofs.Common.{◌≡◌, ◌∙◌, Option, None, Some, List, [], ◌∷◌, refl, sym, subst}
use Rattle.nc_cloud.specs.Stopping.{GoesOn}
use Rattle.nc_cloud.specs.declared.fleet.Fleet.{Ghosts as FleetGhosts}
use Rattle.nc_cloud.proofs.Time.{goes_none, goes_then}
use Rattle.nc_run.specs.Turns.{Takes, TakesAll, TakesNext, Turn}

-- the record of a fleet goes on, and its clouds stay as many
pub record Follows {A : Type 0} (F : FleetGhosts A) (old new : A) : Type 0 where
  pub time : GoesOn F old new
  pub clouds : F.clouds new ≡ F.clouds old

module _ {A : Type 0} (F : FleetGhosts A) where
  pub same_follows : (old new : A) → new ≡ old → Follows F old new
  same_follows old new same = subst (λ (s : A). Follows F old s) (sym same) (record { time = goes_none {F = F} old; clouds = refl })

  follows_then : (old mid new : A) → Follows F old mid → Follows F mid new → Follows F old new
  follows_then old mid new a b = record { time = goes_then {F = F} a.time b.time; clouds = b.clouds ∙ a.clouds }

  turn_follows : (old : A) (t : Turn A) → Takes F old t → Follows F old t.after
  turn_follows old t takes = subst (λ (s : A). Follows F s t.after) takes.from_here (record { time = takes.acted.time; clouds = takes.acted.clouds })

  pub all_follow : (old new : A) (ts : List (Turn A)) → TakesAll F old ts new → Follows F old new
  all_follow old new [] same = same_follows old new same
  all_follow old new (t ∷ ts) takes = follows_then old t.after new (turn_follows old t takes.0) (all_follow t.after new ts takes.2)

  pub next_follows : (old new : A) (next : Option (Turn A)) → TakesNext F old next new → Follows F old new
  next_follows old new None same = same_follows old new same
  next_follows old new (Some t) takes = subst (λ (s : A). Follows F old s) (sym takes.1) (turn_follows old t takes.0)

  pub run_follows : (old mid new : A) (ts : List (Turn A)) (next : Option (Turn A)) → TakesAll F old ts mid → TakesNext F mid next new → Follows F old new
  run_follows old mid new ts next all one = follows_then old mid new (all_follow old mid ts all) (next_follows mid new next one)
