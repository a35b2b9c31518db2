-- Settling, over the states of a fleet: at s before the look, at t after it, at u after the writes.
use Rattle.std.proofs.Common.{◌≡◌, ◌<◌, ◌≤◌, ℕ, Option, None, Some, List, sym, subst}
use Rattle.nc_name.specs.Names.{IsName}
use Rattle.nc_meta.specs.declared.meta.Meta.{Meta}
use Rattle.nc_cloud.specs.Contents.{Contents, Write}
use Rattle.nc_cloud.specs.Images.{Image, Written}
use Rattle.nc_cloud.specs.Stopping.{Keeps, Stops}
use Rattle.nc_cloud.specs.declared.fleet.Fleet.{Ghosts as FleetGhosts}
use Rattle.nc_cloud.proofs.Time.{keeps_by, keeps_look, keeps_then}
use Rattle.nc_state.specs.Clouds.{Clouds}
use Rattle.nc_state.specs.Versions.{meta_of}
use Rattle.nc_state.specs.Holding.{AllHold, HeldByAll, HeldByNone, HoldsIfAny, IsTop}
use Rattle.nc_state.specs.Weighing.{settled}
use Rattle.nc_state.specs.Standing.{Entries, Stands}
use Rattle.nc_state.specs.Commands.{RestsAt}
use Rattle.nc_state.specs.Rounds.{IsImage, WritesMissing}
use Rattle.nc_state.specs.Vaults.{ComesTo, ForEachVault, NothingMade, Vault}
use Rattle.nc_state.proofs.CommandLaws.{nothing_made_yet, nothing_to_settle, settling}
use Rattle.nc_state.proofs.TopLaws.{top_is_shown}
use Rattle.nc_settle.specs.Views.{Places}
use Rattle.nc_settle.specs.Looking.{HasWidth, Sees}
use Rattle.nc_settle.specs.Decisions.{SeesTop}
use Rattle.nc_settle.specs.Settling.{SeesOne, lacking_writes}
use Rattle.nc_settle.proofs.SettleWrites.{all_settled, seen_top, settles}

module _ {A : Type 0} (F : FleetGhosts A) (n : ℕ) (name : List ℕ) (valid : IsName name) {s t : A} (same : F.held t ≡ F.held s) (stops : Stops F s t (λ G. G ≡ F.held s)) where
  -- after the look nothing is made
  pub looked_begins : ForEachVault n (F.held s) (λ V. Keeps F s t (NothingMade n name V))
  looked_begins = record {
    each = λ S D stands. keeps_look (NothingMade n name (record { contents = F.held s; entries = S; damaged = D })) same stops (nothing_made_yet n (F.held s) S D name valid stands);
  }

  -- where no cloud holds a meta of the name, it is at rest
  pub none_comes : HeldByNone n (F.held s) name → ForEachVault n (F.held s) (λ V. ComesTo n name V (F.held t) None)
  none_comes none = record {
    each = λ S D stands.
        let of : meta_of (settled n (F.held s) name (S name)) ≡ None = (top_is_shown n (F.held s) S D name None valid stands none).meta in
        record {
          stands = stands;
          rests = subst (λ (H : Contents). RestsAt n H S D name (settled n (F.held s) name (S name))) (sym same) (nothing_to_settle n (F.held s) S D name valid stands of);
          is_top = of;
        };
  }

  -- the round of writes of m, the highest
  module _ {u : A} (m : Meta) (top : IsTop n (F.held s) name m) (ps : List Write) (settles : (G : Contents) → Image ps (F.held s) G → IsImage n (WritesMissing n (F.held s) name m) (F.held s) G)
      (round : Keeps F t u (Image ps (F.held t))) where
    of_top : (S : Entries) (D : Clouds) → Stands n (F.held s) S D → meta_of (settled n (F.held s) name (S name)) ≡ Some m
    of_top S D stands = (top_is_shown n (F.held s) S D name (Some m) valid stands top).meta

    settles_at : (G : Contents) → Image ps (F.held t) G → IsImage n (WritesMissing n (F.held s) name m) (F.held s) G
    settles_at G image = settles G (subst (λ (H : Contents). Image ps H G) same image)

    pub round_begins : ForEachVault n (F.held s) (λ V. Keeps F s u (NothingMade n name V))
    round_begins = record {
      each = λ S D stands.
          let V : Vault = record { contents = F.held s; entries = S; damaged = D } in
          keeps_then (looked_begins.each S D stands)
          (keeps_by (NothingMade n name V) round (λ G image. (settling n (F.held s) G S D name m None valid stands (of_top S D stands) tt (settles_at G image)).0));
    }

    all_held : (o : Option Meta) → o ≡ Some m → HeldByAll n (F.held u) name m → (c : ℕ) → c < n → HoldsIfAny n (F.held u) name c o
    all_held o is all c l = subst (HoldsIfAny n (F.held u) name c) (sym is) (all.each c l)

    pub round_comes : HeldByAll n (F.held u) name m → ForEachVault n (F.held s) (λ V. ComesTo n name V (F.held u) (Some m))
    round_comes all = record {
      each = λ S D stands.
          let of : meta_of (settled n (F.held s) name (S name)) ≡ Some m = of_top S D stands in
          let held : AllHold n (F.held u) name (settled n (F.held s) name (S name)) = all_held (meta_of (settled n (F.held s) name (S name))) of all in
          record {
            stands = stands;
            rests = (settling n (F.held s) (F.held u) S D name m None valid stands of tt (settles_at (F.held u) round.here)).1 held;
            is_top = of;
          };
    }

-- the same for what was seen and written
module _ {A : Type 0} (F : FleetGhosts A) (n : ℕ) (name : List ℕ) (wide : 4 ≤ n) (narrow : n ≤ 10) (valid : IsName name) {s t u : A} (same : F.held t ≡ F.held s) (stops : Stops F s t (λ G. G ≡ F.held s))
    (v : Places) (sees : Sees n name (F.held s) v) (width : HasWidth n v) (one : SeesOne v) (a : ℕ) (m : Meta) (top : SeesTop v a m)
    (k : ℕ) (k_is : k ≡ n) (keeps : Keeps F t u (Image (lacking_writes k name v m) (F.held t))) where
  is_top : IsTop n (F.held s) name m
  is_top = seen_top n name (F.held s) v wide narrow valid sees width one a m top

  all_settle : (G : Contents) → Image (lacking_writes n name v m) (F.held s) G → IsImage n (WritesMissing n (F.held s) name m) (F.held s) G
  all_settle G image = settles n name (F.held s) v wide narrow valid sees width one a m top G image

  round_keeps : Keeps F t u (Image (lacking_writes n name v m) (F.held t))
  round_keeps = subst (λ (w : ℕ). Keeps F t u (Image (lacking_writes w name v m) (F.held t))) k_is keeps

  pub spread_begins : ForEachVault n (F.held s) (λ V. Keeps F s u (NothingMade n name V))
  spread_begins = round_begins F n name valid same stops m is_top (lacking_writes n name v m) all_settle round_keeps

  pub spread_settled : Written (lacking_writes k name v m) (F.held t) (F.held u) → HeldByAll n (F.held u) name m
  spread_settled written =
      all_settled n name (F.held s) v wide narrow valid sees width one a m top (F.held u)
      (subst (λ (w : ℕ). Written (lacking_writes w name v m) (F.held s) (F.held u)) k_is (subst (λ (H : Contents). Written (lacking_writes k name v m) H (F.held u)) same written))
      (subst (λ (H : Contents). Image (lacking_writes n name v m) H (F.held u)) same round_keeps.here)

  pub spread_comes : Written (lacking_writes k name v m) (F.held t) (F.held u) → ForEachVault n (F.held s) (λ V. ComesTo n name V (F.held u) (Some m))
  spread_comes written = round_comes F n name valid same stops m is_top (lacking_writes n name v m) all_settle round_keeps (spread_settled written)
