-- The parts of recovery on one name: it settles and tidies it.
use Rattle.std.proofs.Common.{◌≡◌, ℕ, true, false, Option, None, List, inl, inr, refl, sym, subst}
use Rattle.nc_name.specs.Names.{IsName}
use Rattle.nc_meta.specs.declared.meta.Meta.{Meta}
use Rattle.nc_cloud.specs.Stopping.{Keeps}
use Rattle.nc_cloud.specs.declared.fleet.Fleet.{Ghosts as FleetGhosts}
use Rattle.nc_cloud.proofs.Time.{keeps_by, keeps_then}
use Rattle.nc_state.specs.Clouds.{Clouds}
use Rattle.nc_state.specs.Commands.{RestsAt}
use Rattle.nc_state.specs.Standing.{Entries, Stands}
use Rattle.nc_state.specs.Vaults.{BeginsMaking, ChangesOnlyName, ComesTo, IsVault, Vault, version_in}
use Rattle.nc_state.specs.Versions.{Version}
use Rattle.nc_state.proofs.Alone.{alone_then}
use Rattle.nc_state.proofs.CommandLaws.{rests_after}
use Rattle.nc_state.proofs.MisplacedLaw.{none_misplaced}
use Rattle.nc_state.proofs.TopLaws.{none_disputed}
use Rattle.nc_settle.specs.declared.settled.SettleFault.{SettleFault}
use Rattle.nc_settle.specs.declared.settled.SettleFault.TheVariants as settle
use Rattle.nc_settle.specs.Settling.{HasSettleCause, IsSeenFault, SettleRefuses}
use Rattle.nc_words.specs.declared.act.Act.{Act}
use Rattle.nc_words.specs.declared.act.Act.TheVariants as act
use Rattle.nc_words.specs.Acts.{Task}
use Rattle.nc_vault.specs.Makings.{BringsBy, Makes}
use Rattle.nc_vault.specs.Faults.{fault_of_settle}
use Rattle.nc_vault.specs.Parts.{BeginsPart, DoesPart, IsSeenCause, PartCounts, PartStops}
use Rattle.nc_vault.specs.Vaults.{fills}
use Rattle.nc_vault.specs.Writing.{IsSettled, Proceeds, Settles, Tidies}
use Rattle.nc_vault.proofs.NameParts.{made_nothing}
use Rattle.nc_vault.proofs.OneName.{proceeds_then, vault_of}

brings_same : (n : ℕ) (task : Task) (name : List ℕ) (x : Version) (a : Act) → a ≡ act.Recover → BringsBy n task a name x x
brings_same n task name x a is = subst (λ (b : Act). BringsBy n task b name x x) (sym is) refl

fills_none : (a : Act) (c : ℕ) → a ≡ act.Recover → fills a c ≡ true → ⊥
fills_none a c is fill = let e : fills act.Recover c ≡ true = subst (λ (b : Act). fills b c ≡ true) is fill in let f : false ≡ true = e in absurd cc

-- ---- a name that can't be settled

pub seen_fault : (f : SettleFault) → IsSeenCause (fault_of_settle f) → IsSeenFault f
seen_fault (settle.Cloud c) seen = seen
seen_fault (settle.Misplaced c a b) seen = seen
seen_fault (settle.Conflict g a b) seen = seen
seen_fault settle.Memory seen = seen

pub settle_counts : (exact : Type 0) (before now : ℕ → ℕ) (f : SettleFault) → HasSettleCause exact before now f → PartCounts exact before now (fault_of_settle f)
settle_counts exact before now (settle.Cloud c) cause = cause
settle_counts exact before now (settle.Misplaced c a b) cause = cause
settle_counts exact before now (settle.Conflict g a b) cause = cause
settle_counts exact before now settle.Memory cause = tt

-- on contents that stand nothing is misplaced or disputed
pub settle_stops : {A : Type 0} (F : FleetGhosts A) (task : Task) (name : List ℕ) {old : A} (new : A) (V : Vault) (f : SettleFault) → IsName name → IsVault (F.clouds old) V
    → SettleRefuses (F.clouds old) name V.contents f → PartStops F task name old new (fault_of_settle f) V
settle_stops F task name new V (settle.Cloud c) is stands refuses = tt
settle_stops F task name {old} new V (settle.Misplaced c a b) is stands refuses =
    let at = refuses.here in
    let other = at.is_of_elsewhere in
    let here = none_misplaced (F.clouds old) V.contents V.entries V.damaged name c refuses.slot a b at.bytes other.key other.payload is stands refuses.in_width at.stands other.is_sealed in
    elim other.elsewhere [
      | inl cloud ↦ cloud here.0
      | inr width ↦ width here.1
    ]
settle_stops F task name {old} new V (settle.Conflict g a b) is stands refuses = none_disputed (F.clouds old) V.contents V.entries V.damaged name g a b is stands refuses.1
settle_stops F task name new V settle.Memory is stands refuses = tt

-- ---- settled, and then tidied

module _ {A : Type 0} (F : FleetGhosts A) (task : Task) (name : List ℕ) {old mid : A} where
  -- stopped in settling, or once it is done
  pub settle_part : Settles F name old mid → F.tells → BeginsPart F task name old mid
  settle_part s told = record { each = λ S D stands. made_nothing F (F.clouds old) name (Makes (F.clouds old) task name) (vault_of (F.held old) S D) ((s.begins told).each S D stands) }

  -- settled on this metadata, and then tidied
  module _ {new : A} (is : IsName name) (top : Option Meta) (s : IsSettled F name old mid top) (t : Tidies F (F.clouds old) name top mid new) where
    rests_on : (told : F.tells) (S : Entries) (D : Clouds) → Stands (F.clouds old) (F.held old) S D
        → Keeps F mid new (λ G. RestsAt (F.clouds old) G S D name (version_in (F.clouds old) (vault_of (F.held old) S D) name))
    rests_on told S D stands =
        let x : Version = version_in (F.clouds old) (vault_of (F.held old) S D) name in
        let came : ComesTo (F.clouds old) name (vault_of (F.held old) S D) (F.held mid) top = (s.comes told).each S D stands in
        keeps_by (λ G. RestsAt (F.clouds old) G S D name x) (t.keeps told) (λ G leaves. leaves.rests S D x came.is_top came.rests)

    pub recover_begins : F.tells → BeginsPart F task name old new
    recover_begins told = record {
      each = λ S D stands.
          let V : Vault = vault_of (F.held old) S D in
          keeps_then ((settle_part s.settles told).each S D stands)
          (keeps_by (BeginsMaking (F.clouds old) name (Makes (F.clouds old) task name) V) (rests_on told S D stands)
          (λ G rests. record {
            made = None;
            makes_it = tt;
            stands = rests_after (F.clouds old) (F.held old) G S D name (version_in (F.clouds old) V name) None is stands rests tt (inl refl);
          }));
    }

    pub recover_does : task.act ≡ act.Recover → F.tells → DoesPart F task name old new
    recover_does act_is told = record {
      each = λ S D stands. record {
        version = version_in (F.clouds old) (vault_of (F.held old) S D) name;
        brought = brings_same (F.clouds old) task name (version_in (F.clouds old) (vault_of (F.held old) S D) name) task.act act_is;
        rests = (rests_on told S D stands).here;
        filled = λ c l fill. absurd (fills_none task.act c act_is fill);
      };
    }

    pub recover_alone : F.tells → Keeps F old new (ChangesOnlyName name (F.held old))
    recover_alone told = alone_then F name (s.settles.alone told) (t.alone told)

    pub recover_proceeds : Proceeds F old new
    recover_proceeds = proceeds_then s.settles.proceeds t.proceeds
