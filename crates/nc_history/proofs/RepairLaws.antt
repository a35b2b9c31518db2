-- What a repair that was done leaves.
use Rattle.std.proofs.Common.{◌≡◌, ◌∙◌, ◌==◌, ◌&&◌, ℕ, Bool, true, false, not, None, Some, List, Contains, inl, inr, refl, sym, ap, subst}
use Rattle.std.proofs.lemmas.Bool.Decides.{eqb_tells}
use Rattle.nc_name.specs.Names.{IsName}
use Rattle.nc_code.specs.Good.{IsGood}
use Rattle.nc_code.specs.Parts.{CodeParts}
use Rattle.nc_code.specs.declared.plan.Witnesses.{Witnesses}
use Rattle.nc_meta.specs.declared.meta.Live.{Live}
use Rattle.nc_nextloss.specs.GoodCodes.{GoodParts}
use Rattle.nc_cloud.specs.Contents.{Contents}
use Rattle.nc_state.specs.Clouds.{Clouds, without_cloud}
use Rattle.nc_state.specs.Entries.{Entry}
use Rattle.nc_state.specs.Entries.Entry.{Rest}
use Rattle.nc_state.specs.Standing.{AreNames}
use Rattle.nc_state.specs.Vaults.{Vault, version_in}
use Rattle.nc_state.specs.Versions.{Version, value_of}
use Rattle.nc_state.specs.Versions.Version.{Never, Removed, Stored}
use Rattle.nc_state.specs.Weighing.{settled}
use Rattle.nc_state.proofs.VaultLaws.{unlisted_rests}
use Rattle.nc_words.specs.declared.act.Act.{Act}
use Rattle.nc_words.specs.declared.act.Act.TheVariants as act
use Rattle.nc_words.specs.Acts.{Task}
use Rattle.nc_repair.specs.Mending.{mended_by, mended_meta}
use Rattle.nc_vault.specs.Makings.{BringsBy}
use Rattle.nc_vault.specs.Vaults.{IsDoneWith, IsUntouched, WorksOn, still_damaged}
use Rattle.nc_vault.proofs.Members.{take_past, take_whole}
use Rattle.nc_history.specs.Laws.{RepairKeepsFiles, RepairedIsGood, RepairedIsWhole}
use Rattle.nc_history.specs.Repairs.{DoesRepair, StoresWitnesses}
use Rattle.nc_history.proofs.ActLaws.{brought_value, in_or_out}

-- ---- the version that a repair brings a file to

-- metadata with this code and these witnesses stores them
stores_by : (m own : Live) (code : CodeParts) (w : Witnesses) → m ≡ own → own.code ≡ code → own.witnesses ≡ Some w → IsGood code w → StoresWitnesses m
stores_by m own code w is has_code has_witnesses good = record {
  witnesses = w;
  stored = ap (λ (l : Live). l.witnesses) is ∙ has_witnesses;
  good = subst (λ (k : CodeParts). IsGood k w) (sym (ap (λ (l : Live). l.code) is ∙ has_code)) good;
}

mended_stores : (n i : ℕ) (old : Live) (good : GoodParts) (v : List ℕ) (m : Live) → m ≡ mended_meta n i old good v → IsGood good.code good.witnesses → StoresWitnesses m
unfolding mended_by
mended_stores n i old good v m is is_good = stores_by m (mended_meta n i old good v) good.code good.witnesses is refl refl is_good

brought_stores : (n : ℕ) (task : Task) (i : ℕ) (name : List ℕ) (x z : Version) (m : Live) (v : List ℕ) → BringsBy n task (act.Repair i) name x z → z ≡ Stored m v → StoresWitnesses m
brought_stores n task i name (Stored old file) z m v made is =
    let now : Stored m v ≡ Stored (mended_meta n i made.made.old made.good made.made.file) made.made.file = sym is ∙ made.made.is in
    let meta : m ≡ mended_meta n i made.made.old made.good made.made.file = cc in
    mended_stores n i made.made.old made.good made.made.file m meta made.is_good
brought_stores n task i name Never z m v same is =
    let wrong : Stored m v ≡ Never = sym is ∙ same in
    absurd cc
brought_stores n task i name (Removed generation) z m v same is =
    let wrong : Stored m v ≡ Removed generation = sym is ∙ same in
    absurd cc

-- ---- each name

-- a name at rest has the value of its version
resting : (n : ℕ) (F : Contents) (name : List ℕ) (e : Entry) (x : Version) → e ≡ Rest x → value_of (settled n F name e) ≡ value_of x
resting n F name e x is = ap (λ (f : Entry). value_of (settled n F name f)) is

module _ (n i : ℕ) (task : Task) (V W : Vault) (d : DoesRepair n i task V W) where
  listed : AreNames n V.contents d.done.names
  listed = subst (λ (a : Act). WorksOn n V.contents a d.done.names) d.is_repair d.done.works_on

  done_with : (name : List ℕ) → Contains d.done.names name → IsDoneWith n task V W name
  done_with name among = d.done.reached.finished name (subst (λ (ns : List (List ℕ)). Contains ns name) (sym (take_whole d.done.names)) among)

  brought : (name : List ℕ) (done : IsDoneWith n task V W name) → BringsBy n task (act.Repair i) name (version_in n V name) done.version
  brought name done = subst (λ (a : Act). BringsBy n task a name (version_in n V name) done.version) d.is_repair done.brought

  -- a name that it didn't work on rested at Never, and still does
  untouched : (name : List ℕ) → (Contains d.done.names name → ⊥) → IsUntouched V W name
  untouched name out = d.done.reached.others name (λ among. out (subst (λ (ns : List (List ℕ)). Contains ns name) (take_past d.done.names) among))

  never_before : (name : List ℕ) → IsName name → (Contains d.done.names name → ⊥) → V.entries name ≡ Rest Never
  never_before name is out = unlisted_rests n V.contents V.entries V.damaged d.done.names name d.stood listed is out

  never_after : (name : List ℕ) → IsName name → (Contains d.done.names name → ⊥) → W.entries name ≡ Rest Never
  never_after name is out = (untouched name out).entry ∙ never_before name is out

  name_rests : (name : List ℕ) → IsName name → (x : Version) × (W.entries name ≡ Rest x)
  name_rests name is =
      elim (in_or_out d.done.names name) [
        | inl among ↦ ((done_with name among).version, (done_with name among).rests)
        | inr out ↦ (Never, never_after name is out)
      ]

  file_stores : (name v : List ℕ) (m : Live) → IsName name → W.entries name ≡ Rest (Stored m v) → StoresWitnesses m
  file_stores name v m is file =
      elim (in_or_out d.done.names name) [
        | inl among ↦
            let done : IsDoneWith n task V W name = done_with name among in
            let entry : Rest done.version ≡ Rest (Stored m v) = sym done.rests ∙ file in
            let version : done.version ≡ Stored m v = cc in
            brought_stores n task i name (version_in n V name) done.version m v (brought name done) version
        | inr out ↦
            let wrong : Rest (Stored m v) ≡ Rest Never = sym file ∙ never_after name is out in
            absurd cc
      ]

  same_value : (name : List ℕ) → IsName name → value_of (version_in n W name) ≡ value_of (version_in n V name)
  same_value name is =
      elim (in_or_out d.done.names name) [
        | inl among ↦
            let done : IsDoneWith n task V W name = done_with name among in
            let now : value_of (version_in n W name) ≡ value_of done.version = resting n W.contents name (W.entries name) done.version done.rests in
            elim (brought_value n task V.contents (act.Repair i) d.done.names name (version_in n V name) done.version listed among (brought name done)) [
              | inl same ↦ now ∙ same
              | inr gives ↦ absurd (let wrong : None ≡ Some (value_of done.version) = gives in cc)
            ]
        | inr out ↦
            resting n W.contents name (W.entries name) Never (never_after name is out) ∙ sym (resting n V.contents name (V.entries name) Never (never_before name is out))
      ]

pub repaired_is_good : RepairedIsGood
repaired_is_good n i task V W d = record { rests = name_rests n i task V W d; each = file_stores n i task V W d }

pub repair_keeps_files : RepairKeepsFiles
repair_keeps_files n i task V W name d is = same_value n i task V W d name is

-- ---- the cloud

not_itself : (D : Clouds) (i : ℕ) → without_cloud D i i ≡ false
not_itself D i =
    elim (eqb_tells i i) [
      | inl here ↦ out_of (D i) (i == i) here.0
      | inr other ↦ absurd (other.1 refl)
    ]
  where
    out_of : (there same : Bool) → same ≡ true → (there && not same) ≡ false
    out_of true true is = refl
    out_of false true is = refl
    out_of there false is = absurd cc

pub repaired_is_whole : RepairedIsWhole
repaired_is_whole n i task V W d =
    let others : W.damaged ≡ without_cloud V.damaged i = d.done.damaged ∙ ap (λ (a : Act). still_damaged a V.damaged) d.is_repair in
    record { here = ap (λ (D : Clouds). D i) others ∙ not_itself V.damaged i; others = others }
