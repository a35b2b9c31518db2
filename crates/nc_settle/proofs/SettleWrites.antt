-- What settling writes, by what was seen.
use Rattle.std.proofs.Common.{◌≡◌, ◌<◌, ◌≤◌, ◌+◌, ◌%◌, ℕ, length, set, length-set, Bool, true, false, not, nat_eq, if◌then◌else◌, None, Some, List, eq-eqb, inl, inr, refl, sym, ap, ◌∙◌, subst, arith}
use Rattle.std.proofs.lemmas.Bool.{cases_lt}
use Rattle.std.proofs.lemmas.Bool.Decides.{eqb_tells}
use Rattle.std.proofs.lemmas.List.{get_or-set_other, get_or-set_same}
use Rattle.nc_name.specs.Names.{IsName}
use Rattle.nc_meta.specs.declared.meta.Meta.{Meta}
use Rattle.nc_meta.specs.Metas.{generation_of}
use Rattle.nc_cloud.specs.Contents.{Contents, Store, Write}
use Rattle.nc_cloud.specs.declared.fleet.Job.{Job}
use Rattle.nc_cloud.specs.Fleet.{write, writes}
use Rattle.nc_cloud.specs.Deciding.{AreAscending}
use Rattle.nc_cloud.specs.Images.{Image, Written, WrittenCloud, write_at}
use Rattle.nc_cloud.specs.Rounds.{some_row}
use Rattle.nc_cloud.proofs.SomeRows.{ascend_some, some_in, some_same, some_written_in}
use Rattle.nc_state.specs.Holding.{HeldByAll, Holds, IsTop, meta_key}
use Rattle.nc_state.specs.Rounds.{IsImage, WritesMissing}
use Rattle.nc_state.proofs.Images.{round_image}
use Rattle.nc_state.proofs.MetaWrites.{held_or_written}
use Rattle.nc_settle.specs.declared.place.Place.{Place}
use Rattle.nc_settle.specs.declared.place.Place.TheVariants as place
use Rattle.nc_settle.specs.Views.{Places, place_at}
use Rattle.nc_settle.specs.Looking.{HasWidth, Sees}
use Rattle.nc_settle.specs.Decisions.{HasSealed, SeesTop}
use Rattle.nc_settle.specs.MetaWrites.{meta_write, meta_write_on, named}
use Rattle.nc_settle.specs.Settling.{AreLacking, SeesOne, has_generation, lacking_writes, lacks}
use Rattle.nc_settle.proofs.MetaJobs.{on_cloud, on_is}
use Rattle.nc_settle.proofs.Seen.{parity_low, seen_at, seen_held, top_is_highest}

-- one cloud more in the table
pub lacking_more : (v : Places) (m : Meta) (k : ℕ) (table : List Bool) (b : Bool) → AreLacking v m k table → k < 10 → b ≡ lacks v m k → AreLacking v m (k + 1) (set table k b)
lacking_more v m k table b are low is =
    let within : k < length table = omega (arith, are.long) in
    record {
      long = length-set table k b ∙ are.long;
      each = λ c l.
          elim (cases_lt c k) [
            | inl before ↦ get_or-set_other table k c b false (λ e. absurd (omega arith)) ∙ are.each c before
            | inr after ↦ let here : k ≡ c = omega arith in subst (λ (d : ℕ). named (set table k b) d ≡ lacks v m d) here (get_or-set_same table k b false within ∙ is)
          ];
    }

-- the table names the clouds that are written to
pub lacking_row : (n : ℕ) (name : List ℕ) (v : Places) (m : Meta) (k : ℕ) (table : List Bool) → n ≤ k → AreLacking v m k table
    → some_row (meta_write_on n name m (named table)) 0 n ≡ lacking_writes n name v m
lacking_row n name v m k table low are =
    some_same (meta_write_on n name m (named table)) (meta_write_on n name m (lacks v m)) 0 n
    (λ c a b. ap (λ (on : Bool). if on then Some (meta_write n name m c) else None) (are.each c (omega arith)))

pub jobs_row : (n k w : ℕ) (name : List ℕ) (v : Places) (m : Meta) (table : List Bool) (jobs : List Job) → writes jobs ≡ some_row (meta_write_on k name m (named table)) 0 k → k ≡ n → AreLacking v m w table → w ≡ n
    → writes jobs ≡ lacking_writes n name v m
jobs_row n k w name v m table jobs all k_is are w_is =
    subst (λ (j : ℕ). writes jobs ≡ some_row (meta_write_on j name m (named table)) 0 j) k_is all ∙ lacking_row n name v m w table (omega (arith, w_is)) are

-- they are in ascending order
pub jobs_ascend : (n : ℕ) (name : List ℕ) (v : Places) (m : Meta) (jobs : List Job) → writes jobs ≡ lacking_writes n name v m → AreAscending (λ j. j.cloud) n jobs
jobs_ascend n name v m jobs all = ascend_some (λ (p : Write). p.cloud) (meta_write_on n name m (lacks v m)) (on_cloud n name m (lacks v m)) write n jobs all

module _ (n : ℕ) (name : List ℕ) (F : Contents) (v : Places) (wide : 4 ≤ n) (narrow : n ≤ 10) (valid : IsName name) (sees : Sees n name F v) (width : HasWidth n v)
    (one : SeesOne v) (a : ℕ) (m : Meta) (top : SeesTop v a m) where
  pub seen_top : IsTop n F name m
  seen_top = top_is_highest n name F v wide narrow valid sees width.first one.answered a m top

  -- a cloud with a meta of this generation holds it
  holding_by : (c : ℕ) (p : Place) → c < n → place_at v c (generation_of m % 2) ≡ p → not (has_generation p (generation_of m)) ≡ false → Holds n F name c m
  holding_by c (place.Sealed o) l at e =
      elim (eqb_tells (generation_of o) (generation_of m)) [
        | inl same ↦
            let has : HasSealed v c o = record { slot = generation_of m % 2; in_pair = parity_low (generation_of m); sealed = at } in
            let is : o ≡ m = one.no_conflict a c m top (omega (arith, width.first)) o has same.1 in
            subst (Holds n F name c) is (seen_held n name F v wide narrow valid sees c o l has)
        | inr other ↦ let no : nat_eq (generation_of o) (generation_of m) ≡ false = other.0 in absurd cc
      ]
  holding_by c place.Absent l at e = absurd cc
  holding_by c place.Broken l at e = absurd cc
  holding_by c (place.Misplaced x y) l at e = absurd cc
  holding_by c place.Failed l at e = absurd cc

  holding : (c : ℕ) → c < n → lacks v m c ≡ false → Holds n F name c m
  holding c l e = holding_by c (place_at v c (generation_of m % 2)) l refl e

  -- and one without doesn't
  lacking : (c : ℕ) → c < n → lacks v m c ≡ true → Holds n F name c m → ⊥
  lacking c l e held =
      let at : place_at v c (generation_of m % 2) ≡ place.Sealed m = seen_at n name F v wide narrow valid sees width.first one.answered c m l held in
      let has : lacks v m c ≡ not (nat_eq (generation_of m) (generation_of m)) = ap (λ (p : Place). not (has_generation p (generation_of m))) at in
      let same : nat_eq (generation_of m) (generation_of m) ≡ true = eq-eqb (generation_of m) (generation_of m) refl in
      let wrong : true ≡ false = sym e ∙ has ∙ ap not same in
      cc

  written_missing : (c : ℕ) (p : Write) → c < n → write_at (lacking_writes n name v m) c ≡ Some p → WritesMissing n F name m c p.key p.new
  written_missing c p l found =
      let on = on_is n name m (lacks v m) c p (sym (some_in (meta_write_on n name m (lacks v m)) (on_cloud n name m (lacks v m)) 0 n c (omega arith) (omega arith)) ∙ found) in
      record {
        write = record { at = sym (ap (λ (q : Write). q.key) on.0); writes = sym (ap (λ (q : Write). q.new) on.0) };
        lacks = lacking c l on.1;
      }

  -- each image of the round is one of settling
  pub settles : (G : Contents) → Image (lacking_writes n name v m) F G → IsImage n (WritesMissing n F name m) F G
  settles G image = round_image (lacking_writes n name v m) written_missing image

  held_by : (b : Bool) (c : ℕ) (G : Contents) → (b ≡ false → Holds n F name c m) → WrittenCloud (if b then Some (meta_write n name m c) else None) (F c) (G c) → Holds n G name c m
  held_by true c G had w = record { is_meta = seen_top.held.is_meta; stands = w.there }
  held_by false c G had w = record { is_meta = seen_top.held.is_meta; stands = ap (λ (s : Store). s (meta_key name m)) w ∙ (had refl).stands }

  all_hold : (G : Contents) → Written (lacking_writes n name v m) F G → (c : ℕ) → c < n → Holds n G name c m
  all_hold G written c l =
      held_by (lacks v m c) c G (holding c l)
      (some_written_in (meta_write_on n name m (lacks v m)) (on_cloud n name m (lacks v m)) n (lacking_writes n name v m) refl F G written c l)

  -- once all is written, all clouds hold the highest meta
  pub all_settled : (G : Contents) → Written (lacking_writes n name v m) F G → Image (lacking_writes n name v m) F G → HeldByAll n G name m
  all_settled G written image = record {
    each = all_hold G written;
    highest = λ c k l h.
        elim (held_or_written n wide narrow name valid m seen_top.held.is_meta F G (WritesMissing n F name m) (settles G image) (λ d place new t. t.write) c k l h) [
          | inl was ↦ seen_top.highest c k l was
          | inr e ↦ let same : generation_of k ≡ generation_of m = ap generation_of e in omega (arith, same)
        ];
  }
