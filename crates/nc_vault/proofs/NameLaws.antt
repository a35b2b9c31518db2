-- From the work on one name to that on all.
use Rattle.std.proofs.Common.{◌≡◌, ◌<◌, ◌+◌, ◌==◌, ◌||◌, ℕ, Bool, true, false, if◌then◌else◌, Option, Some, None, List, [], Contains, IfSome, length, take, slice_get, inl, inr, refl, sym, ap, ◌∙◌, subst, arith}
use Rattle.std.specs.Str.{bytes_eq}
use Rattle.std.proofs.lemmas.Bool.Decides.{eqb_tells}
use Rattle.std.proofs.lemmas.Slice.Eq.{bytes_eq-Decides}
use Rattle.nc_name.specs.declared.key.Key.{Key}
use Rattle.nc_name.specs.declared.key.Key.TheVariants as key
use Rattle.nc_name.specs.Keys.{name_of}
use Rattle.nc_name.specs.Names.{IsName}
use Rattle.nc_cloud.specs.Contents.{Contents}
use Rattle.nc_state.specs.Clouds.{Clouds, without_cloud}
use Rattle.nc_state.specs.ChunkLaws.{SameAt}
use Rattle.nc_state.specs.Entries.{Entry}
use Rattle.nc_state.specs.Entries.Entry.{Rest, Opened}
use Rattle.nc_state.specs.Holding.{AllHold}
use Rattle.nc_state.specs.Right.{IsRight, RightOn}
use Rattle.nc_state.specs.Standing.{AreNames, Entries, IsHealed, Stands, with_entry}
use Rattle.nc_state.specs.Vaults.{BeginsMaking, ChangesOnlyName, IsVault, Vault, version_in}
use Rattle.nc_state.specs.Versions.{Version}
use Rattle.nc_state.specs.Versions.Version.{Never}
use Rattle.nc_state.specs.Weighing.{after, settled, some_holds, weigh}
use Rattle.nc_state.proofs.Keeping.{names_name, untouched_stays}
use Rattle.nc_state.proofs.VaultLaws.{healed_stands, unlisted_rests}
use Rattle.nc_words.specs.declared.act.Act.{Act}
use Rattle.nc_words.specs.declared.act.Act.TheVariants as act
use Rattle.nc_words.specs.Acts.{FitsWidth, Task}
use Rattle.nc_vault.specs.Makings.{Brings, Makes}
use Rattle.nc_vault.specs.Vaults.{DoesName, HasReached, IsDoneWith, IsUnderWay, IsUntouched, StandsBegunAt, StandsDone, StandsFinished, WorksOn, fills, still_damaged}
use Rattle.nc_vault.specs.Vaults.Begins.{has_come}
use Rattle.nc_vault.proofs.Members.{among_or_not, in_none, more_cases, more_in, next_in, next_within, none_past, take_past, take_whole}

-- ---- entries with one of them changed

pub entry_here : (S : Entries) (name : List ℕ) (e : Entry) → with_entry S name e name ≡ e
entry_here S name e = ap (λ (b : Bool). if b then e else S name) ((bytes_eq-Decides name name).1 refl)

not_equal : (b : Bool) → (b ≡ true → ⊥) → (e s : Entry) → (if b then e else s) ≡ s
not_equal true wrong e s = absurd (wrong refl)
not_equal false wrong e s = refl

entry_there : (S : Entries) (name other : List ℕ) (e : Entry) → (other ≡ name → ⊥) → with_entry S name e other ≡ S other
entry_there S name other e differ = not_equal (bytes_eq other name) (λ is. differ ((bytes_eq-Decides other name).0 is)) e (S other)

-- ---- a name that wasn't touched

module _ (n : ℕ) (V W : Vault) (name : List ℕ) (same : IsUntouched V W name) where
  objects_same : SameAt n V.contents W.contents name
  objects_same c place within of = same.objects c place of

  version_same : version_in n W name ≡ version_in n V name
  version_same = (untouched_stays n V.contents W.contents name objects_same).2 (W.entries name) ∙ ap (settled n V.contents name) same.entry

  -- the entry after a command is the same, whether it came to the name at W or at V
  after_same : (G : Contents) (made : Option Version) → W.damaged ≡ V.damaged
      → after n W.contents G W.damaged name (W.entries name) made ≡ after n V.contents G V.damaged name (V.entries name) made
  after_same G None damaged =
      ap (λ (e : Entry). after n W.contents G W.damaged name e None) same.entry ∙ ap (λ (D : Clouds). after n W.contents G D name (V.entries name) None) damaged
  after_same G (Some y) damaged =
      ap (λ (x : Version). if some_holds n G name y then weigh n G W.damaged name (Opened x y) else weigh n G W.damaged name (W.entries name)) version_same
      ∙ ap (λ (e : Entry). if some_holds n G name y then weigh n G W.damaged name (Opened (version_in n V name) y) else weigh n G W.damaged name e) same.entry
      ∙ ap (λ (D : Clouds). after n V.contents G D name (V.entries name) (Some y)) damaged

-- ---- another name, while objects of this one change

right_kept : (n : ℕ) (F G : Contents) (other : List ℕ) (x : Version) (c : ℕ) → c < n → SameAt n F G other → RightOn n F other x c → RightOn n G other x c
right_kept n F G other x c within same right place has =
    let r : IsRight n F x c place = right place has in
    record { bytes = r.bytes; stands = same c place within (names_name other x c place has) ∙ r.stands; is_chunk = r.is_chunk }

-- the vault W with the name at this entry, once the clouds hold G
abbrev pub changed : Vault → List ℕ → Entry → Contents → Vault
changed W name e G = record { contents = G; entries = with_entry W.entries name e; damaged = W.damaged }

module _ (n : ℕ) (task : Task) (V W : Vault) (name : List ℕ) (e : Entry) (G : Contents) (only : ChangesOnlyName name W.contents G) (other : List ℕ) (differ : other ≡ name → ⊥) where
  same_there : (c : ℕ) (place : Key) → name_of place ≡ other → G c place ≡ W.contents c place
  same_there c place of = only.others c place (λ is. differ (sym of ∙ is))

  done_kept : IsDoneWith n task V W other → IsDoneWith n task V (changed W name e G) other
  done_kept d = record {
    version = d.version;
    brought = d.brought;
    rests = entry_there W.entries name other e differ ∙ d.rests;
    held = λ c l. (untouched_stays n W.contents G other (λ k place within of. same_there k place of)).1 c d.version l (d.held c l);
    filled = λ c l f. right_kept n W.contents G other d.version c l (λ k place within of. same_there k place of) (d.filled c l f);
  }

  untouched_kept : IsUntouched V W other → IsUntouched V (changed W name e G) other
  untouched_kept u = record {
    entry = entry_there W.entries name other e differ ∙ u.entry;
    objects = λ c place of. same_there c place of ∙ u.objects c place of;
  }

-- ---- one name after another

-- no name was worked on
abbrev pub names_begin : (n : ℕ) (task : Task) (V : Vault) (names : List (List ℕ)) → IsVault n V → StandsFinished n task V names 0 V.contents
names_begin n task V names stands = record {
  vault = V;
  contents = refl;
  stands = stands;
  damaged = refl;
  reached = record {
    among = omega arith;
    finished = λ name among. absurd (in_none name among);
    others = λ name out. record { entry = refl; objects = λ c place of. refl };
  };
}

-- the act is done with the first names, and comes to the next
module _ (n : ℕ) (task : Task) (V : Vault) (names : List (List ℕ)) (done : ℕ) (F : Contents) (name : List ℕ) (next : slice_get names done ≡ Some name)
    (new : Contains (take done names) name → ⊥) (at : StandsFinished n task V names done F) where
  abbrev here : Vault
  here = at.vault

  only_here : (G : Contents) → ChangesOnlyName name F G → ChangesOnlyName name here.contents G
  only_here G = subst (λ (C : Contents). ChangesOnlyName name C G) (sym at.contents)

  -- it is none of the first
  early_differs : (other : List ℕ) → Contains (take done names) other → other ≡ name → ⊥
  early_differs other among is = new (subst (Contains (take done names)) is among)

  -- nor one of the later
  late_differs : (other : List ℕ) → (Contains (take (done + 1) names) other → ⊥) → other ≡ name → ⊥
  late_differs other out is = out (subst (Contains (take (done + 1) names)) (sym is) (next_in names done name next))

  late_untouched : (other : List ℕ) → (Contains (take (done + 1) names) other → ⊥) → IsUntouched V here other
  late_untouched other out = at.reached.others other (λ among. out (more_in names done name next other among))

  pub name_untouched : IsUntouched V here name
  name_untouched = at.reached.others name new

  pub version_is : version_in n here name ≡ version_in n V name
  version_is = version_same n V here name name_untouched

  done_here : (G : Contents) (d : DoesName n task name here G) → IsDoneWith n task V (changed here name (Rest d.version) G) name
  done_here G d = record {
    version = d.version;
    brought = subst (λ (x : Version). Brings n task name x d.version) version_is d.brought;
    rests = entry_here here.entries name (Rest d.version);
    held = d.rests.held;
    filled = d.filled;
  }

  done_each : (G : Contents) (d : DoesName n task name here G) → ChangesOnlyName name F G → (other : List ℕ) → Contains (take (done + 1) names) other
      → IsDoneWith n task V (changed here name (Rest d.version) G) other
  done_each G d only other among =
      elim (more_cases names done name next other among) [
        | inl early ↦ done_kept n task V here name (Rest d.version) G (only_here G only) other (early_differs other early) (at.reached.finished other early)
        | inr is ↦ subst (IsDoneWith n task V (changed here name (Rest d.version) G)) is (done_here G d)
      ]

  -- the name is done: so is one more
  pub name_is_done : (G : Contents) → DoesName n task name here G → ChangesOnlyName name F G → StandsFinished n task V names (done + 1) G
  name_is_done G d only = record {
    vault = changed here name (Rest d.version) G;
    contents = refl;
    stands = d.rests.stands;
    damaged = at.damaged;
    reached = record {
      among = let within = next_within names done name next in omega (arith, within);
      finished = done_each G d only;
      others = λ other out. untouched_kept n task V here name (Rest d.version) G (only_here G only) other (late_differs other out) (late_untouched other out);
    };
  }

  under_way : (G : Contents) (b : BeginsMaking n name (Makes n task name) here G)
      → IsUnderWay n task V (changed here name (after n here.contents G here.damaged name (here.entries name) b.made) G) name
  under_way G b = record {
    made = b.made;
    makes = subst (λ (x : Version). IfSome b.made (Makes n task name x)) version_is b.makes_it;
    entry = entry_here here.entries name (after n here.contents G here.damaged name (here.entries name) b.made) ∙ after_same n V here name name_untouched G b.made at.damaged;
  }

  -- it is under way: so is the act
  pub name_is_begun : WorksOn n V.contents task.act names → (G : Contents) → BeginsMaking n name (Makes n task name) here G → ChangesOnlyName name F G → StandsBegunAt n task V done G
  name_is_begun works G b only =
      let e : Entry = after n here.contents G here.damaged name (here.entries name) b.made in
      record {
        left = record {
          vault = changed here name e G;
          contents = refl;
          stands = b.stands;
          done = done;
          begun = has_come (record {
            names = names;
            works_on = works;
            reached = record {
              among = at.reached.among;
              finished = λ other early. done_kept n task V here name e G (only_here G only) other (early_differs other early) (at.reached.finished other early);
              under_way = subst (λ (o : Option (List ℕ)). IfSome o (IsUnderWay n task V (changed here name e G))) (sym next) (under_way G b);
              others = λ other out. untouched_kept n task V here name e G (only_here G only) other (late_differs other out) (late_untouched other out);
            };
            damaged = at.damaged;
          });
        };
        tells = refl;
      }

-- ---- the clouds that are damaged no more

never_right : (n : ℕ) (F : Contents) (name : List ℕ) (c : ℕ) → RightOn n F name Never c
never_right n F name c (key.Meta other slot) has = absurd has
never_right n F name c (key.Chunk other slot row) has = absurd has

itself : (i : ℕ) → (i == i) ≡ true
itself i =
    elim (eqb_tells i i) [
      | inl is ↦ is.0
      | inr differ ↦ absurd (differ.1 refl)
    ]

or_second : (a b : Bool) → b ≡ true → (a || b) ≡ true
or_second true b is = refl
or_second false b is = is

-- what a name that is done with is on the clouds that the act fills
pub record FillsName (n : ℕ) (a : Act) (W : Vault) (name : List ℕ) : Type 0 where
  pub version : Version
  pub rests : W.entries name ≡ Rest version
  pub held : AllHold n W.contents name version
  pub filled : (c : ℕ) → c < n → fills a c ≡ true → RightOn n W.contents name version c

-- so is each name, where the act is done with all that stood at V
healed_name : (n i : ℕ) (a : Act) (V W : Vault) (names : List (List ℕ)) → i < n → fills a i ≡ true → AreNames n V.contents names → IsVault n V → ((name : List ℕ) → Contains names name → FillsName n a W name)
    → ((name : List ℕ) → (Contains names name → ⊥) → IsUntouched V W name) → (name : List ℕ) → IsName name → IsHealed n W.contents i name (W.entries name)
healed_name n i a V W names within on listed from done others name is =
    elim (among_or_not names name) [
      | inl among ↦
          let f : FillsName n a W name = done name among in
          subst (IsHealed n W.contents i name) (sym f.rests) (f.held i within, f.filled i within on)
      | inr out ↦
          let never : W.entries name ≡ Rest Never = (others name out).entry ∙ unlisted_rests n V.contents V.entries V.damaged names name from listed is out in
          subst (IsHealed n W.contents i name) (sym never) (tt, never_right n W.contents name i)
    ]

-- and the clouds that the act heals are damaged no more
still_stands : (n : ℕ) (a : Act) (V W : Vault) (names : List (List ℕ)) → FitsWidth n a → WorksOn n V.contents a names → IsVault n V → IsVault n W → W.damaged ≡ V.damaged
    → ((name : List ℕ) → Contains names name → FillsName n a W name) → ((name : List ℕ) → (Contains names name → ⊥) → IsUntouched V W name)
    → Stands n W.contents W.entries (still_damaged a V.damaged)
still_stands n (act.Repair i) V W names fits works from stands same done others =
    subst (λ (D : Clouds). Stands n W.contents W.entries (without_cloud D i)) same
    (healed_stands n i W.contents W.entries W.damaged stands (healed_name n i (act.Repair i) V W names fits (itself i) works from done others))
still_stands n (act.Restore first None) V W names fits works from stands same done others =
    subst (λ (D : Clouds). Stands n W.contents W.entries (without_cloud D first)) same
    (healed_stands n first W.contents W.entries W.damaged stands (healed_name n first (act.Restore first None) V W names fits (itself first) works from done others))
still_stands n (act.Restore first (Some second)) V W names fits works from stands same done others =
    let a : Act = act.Restore first (Some second) in
    subst (λ (D : Clouds). Stands n W.contents W.entries (without_cloud (without_cloud D first) second)) same
    (healed_stands n second W.contents W.entries (without_cloud W.damaged first)
    (healed_stands n first W.contents W.entries W.damaged stands
    (healed_name n first a V W names fits.0 (ap (λ (b : Bool). b || (first == second)) (itself first)) works from done others))
    (healed_name n second a V W names fits.1 (or_second (second == first) (second == second) (itself second)) works from done others))
still_stands n other V W names fits works from stands same done others = subst (Stands n W.contents W.entries) same stands

-- ---- all names are done

module _ (n : ℕ) (task : Task) (V : Vault) (names : List (List ℕ)) (G : Contents) (works : WorksOn n V.contents task.act names) (all : StandsFinished n task V names (length names) G) where
  -- the vault that was left, but for the clouds that are damaged
  abbrev left : Clouds → Vault
  left D = record { contents = all.vault.contents; entries = all.vault.entries; damaged = D }

  none_else : (name : List ℕ) → (Contains names name → ⊥) → IsUntouched V all.vault name
  none_else name out = all.reached.others name (λ among. out (subst (λ (ns : List (List ℕ)). Contains ns name) (take_whole names) among))

  done_all : (name : List ℕ) → Contains names name → FillsName n task.act all.vault name
  done_all name among =
      let d : IsDoneWith n task V all.vault name = all.reached.finished name (subst (λ (ns : List (List ℕ)). Contains ns name) (sym (take_whole names)) among) in
      record { version = d.version; rests = d.rests; held = d.held; filled = d.filled }

  all_reached : (D : Clouds) → HasReached n task V (left D) names (length names)
  all_reached D = record {
    among = omega arith;
    finished = λ name among.
        let d : IsDoneWith n task V all.vault name = all.reached.finished name among in
        record { version = d.version; brought = d.brought; rests = d.rests; held = d.held; filled = d.filled };
    under_way = subst (λ (o : Option (List ℕ)). IfSome o (IsUnderWay n task V (left D))) (sym (none_past names)) tt;
    others = λ name out.
        let u : IsUntouched V all.vault name = none_else name (λ among. out (subst (λ (ns : List (List ℕ)). Contains ns name) (sym (take_past names)) among)) in
        record { entry = u.entry; objects = u.objects };
  }

  -- the act is done: the clouds that it heals are damaged no more
  pub names_end : IsVault n V → FitsWidth n task.act → StandsDone n task V G
  names_end from fits =
      let D : Clouds = still_damaged task.act V.damaged in
      record {
        vault = left D;
        contents = all.contents;
        stands = still_stands n task.act V all.vault names fits works from all.stands all.damaged done_all none_else;
        done = record { names = names; works_on = works; reached = all_reached D; damaged = refl };
      }

  -- done with all names it is begun too
  pub all_begun : StandsBegunAt n task V (length names) G
  all_begun = record {
    left = record {
      vault = all.vault;
      contents = all.contents;
      stands = all.stands;
      done = length names;
      begun = has_come (record { names = names; works_on = works; reached = all_reached all.vault.damaged; damaged = all.damaged });
    };
    tells = refl;
  }

-- an act with no names to work on is done at once
pub nothing_to_do : (n : ℕ) (task : Task) (V : Vault) → WorksOn n V.contents task.act [] → IsVault n V → FitsWidth n task.act → StandsDone n task V V.contents
nothing_to_do n task V works stands fits = names_end n task V [] V.contents works (names_begin n task V [] stands) stands fits
