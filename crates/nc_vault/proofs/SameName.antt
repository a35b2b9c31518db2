-- What clouds hold of a name whose objects are the same.
use Rattle.std.proofs.Common.{◌≡◌, ℕ, Option, None, Some, List, IfSome, refl, sym, ◌∙◌}
use Rattle.nc_name.specs.declared.key.Key.{Key}
use Rattle.nc_name.specs.declared.key.Key.TheVariants as key
use Rattle.nc_name.specs.Keys.{name_of}
use Rattle.nc_meta.specs.declared.meta.Meta.{Meta}
use Rattle.nc_meta.specs.declared.meta.Meta.TheVariants as meta
use Rattle.nc_cloud.specs.Contents.{Contents}
use Rattle.nc_state.specs.Holding.{Holds, IsDisputed, IsSettledOn, IsTop, IsTopOrNone, Undisputed, meta_key}
use Rattle.nc_state.specs.Tidy.{IsTidy}
use Rattle.nc_repair.specs.Mending.{mended_by}
use Rattle.nc_settle.specs.Elsewhere.{IsMisplacedAt, LeastMisplaced, NothingMisplaced}
use Rattle.nc_words.specs.declared.setting.Setting.{Setting}
use Rattle.nc_vault.specs.declared.fault.Fault.{Fault}
use Rattle.nc_vault.specs.declared.fault.Fault.TheVariants as fault
use Rattle.nc_vault.specs.Acting.{IsTidied}
use Rattle.nc_vault.specs.Saying.{DrawsRepair, IsAgreedTop, IsSettledFrom, RepairRefuses, RepairsName, WriteRefuses}
use Rattle.nc_vault.specs.Saying.RepairsName.{mends, passes}

-- all objects of the name are as they were, on whichever cloud
abbrev pub SameObjects : Contents → Contents → List ℕ → Type 0
SameObjects F G name = (c : ℕ) (place : Key) → name_of place ≡ name → G c place ≡ F c place

module _ (n : ℕ) (F G : Contents) (name : List ℕ) (same : SameObjects F G name) where
  holds_there : (c : ℕ) (m : Meta) → Holds n F name c m → Holds n G name c m
  holds_there c m h = record { is_meta = h.is_meta; stands = same c (meta_key name m) refl ∙ h.stands }

  holds_back : (c : ℕ) (m : Meta) → Holds n G name c m → Holds n F name c m
  holds_back c m h = record { is_meta = h.is_meta; stands = sym (same c (meta_key name m) refl) ∙ h.stands }

  misplaced_there : (c slot a b : ℕ) → IsMisplacedAt n name F c slot a b → IsMisplacedAt n name G c slot a b
  misplaced_there c slot a b at = record { bytes = at.bytes; stands = same c (key.Meta name slot) refl ∙ at.stands; short = at.short; is_of_elsewhere = at.is_of_elsewhere }

  misplaced_back : (c slot a b : ℕ) → IsMisplacedAt n name G c slot a b → IsMisplacedAt n name F c slot a b
  misplaced_back c slot a b at = record { bytes = at.bytes; stands = sym (same c (key.Meta name slot) refl) ∙ at.stands; short = at.short; is_of_elsewhere = at.is_of_elsewhere }

  pub nothing_misplaced_there : NothingMisplaced n name F → NothingMisplaced n name G
  nothing_misplaced_there is = record { none = λ c slot a b l pair at. is.none c slot a b l pair (misplaced_back c slot a b at) }

  pub least_misplaced_there : (c a b : ℕ) → LeastMisplaced n name F c a b → LeastMisplaced n name G c a b
  least_misplaced_there c a b is = record {
    in_width = is.in_width;
    slot = is.slot;
    in_pair = is.in_pair;
    here = misplaced_there c is.slot a b is.here;
    first_slot = λ s x y l at. is.first_slot s x y l (misplaced_back c s x y at);
    before = λ d s x y l pair at. is.before d s x y l pair (misplaced_back d s x y at);
  }

  highest_there : (m : Meta) → IsTop n F name m → IsTop n G name m
  highest_there m is = record { cloud = is.cloud; in_width = is.in_width; held = holds_there is.cloud m is.held; highest = λ c k l h. is.highest c k l (holds_back c k h) }

  pub top_there : (top : Option Meta) → IsTopOrNone n F name top → IsTopOrNone n G name top
  top_there None is = record { none = λ c m l h. is.none c m l (holds_back c m h) }
  top_there (Some m) is = highest_there m is

  undisputed_there : (top : Option Meta) → IfSome top (Undisputed n F name) → IfSome top (Undisputed n G name)
  undisputed_there None is = tt
  undisputed_there (Some m) is = record { same = λ c o l h. is.same c o l (holds_back c o h) }

  pub agreed_there : (top : Option Meta) → IsAgreedTop n name F top → IsAgreedTop n name G top
  agreed_there top is = record { nothing_misplaced = nothing_misplaced_there is.nothing_misplaced; is_top = top_there top is.is_top; undisputed = undisputed_there top is.undisputed }

  pub settled_there : (top : Option Meta) → IsSettledOn n F name top → IsSettledOn n G name top
  settled_there None is = record { none = λ c m l h. is.none c m l (holds_back c m h) }
  settled_there (Some m) is = record { each = λ c l. holds_there c m (is.each c l); highest = λ c k l h. is.highest c k l (holds_back c k h) }

  pub disputed_there : (generation a b : ℕ) → IsDisputed n F name generation a b → IsDisputed n G name generation a b
  disputed_there generation a b is = record {
    meta = is.meta;
    other = is.other;
    is_generation = is.is_generation;
    same_generation = is.same_generation;
    differ = is.differ;
    a_in_width = is.a_in_width;
    b_in_width = is.b_in_width;
    a_holds = holds_there a is.meta is.a_holds;
    b_holds = holds_there b is.other is.b_holds;
    highest = λ c o l h. is.highest c o l (holds_back c o h);
    before_a = λ c o l h. is.before_a c o l (holds_back c o h);
    before_b = λ c o l h. is.before_b c o l (holds_back c o h);
  }

  pub tidy_there : (top : Option Meta) → IsTidy n F name top → IsTidy n G name top
  tidy_there top is = record { all = λ c place bytes l of slots at. is.all c place bytes l of slots (sym (same c place of) ∙ at) }

  pub tidied_there : IsTidied n F name → IsTidied n G name
  tidied_there is = record { top = is.top; settled = settled_there is.top is.settled; tidy = tidy_there is.top is.tidy }

  -- ---- an act that came to the name at F, or to the same objects at G

  pub write_refuses_there : (s : Setting) (f : Fault) → WriteRefuses n s name F f → WriteRefuses n s name G f
  write_refuses_there s fault.NoFile is = record { top = is.top; agreed = agreed_there is.top is.agreed; not_live = is.not_live }
  write_refuses_there s (fault.Cloud c) is = tt
  write_refuses_there s (fault.Damaged c r how) is = is
  write_refuses_there s (fault.Short bads) is = is
  write_refuses_there s (fault.Conflict g a b) is = (nothing_misplaced_there is.0, disputed_there g a b is.1)
  write_refuses_there s (fault.Misplaced c a b) is = least_misplaced_there c a b is
  write_refuses_there s (fault.Unsound a b) is = is
  write_refuses_there s fault.Worn is = record { meta = is.meta; top = highest_there is.meta is.top; last = is.last }
  write_refuses_there s (fault.Spent tried) is = record { all = is.all; top = is.top; is_top = top_there is.top is.is_top; has_next = is.has_next; none = is.none }
  write_refuses_there s fault.Memory is = tt

  -- what was drawn for a repair
  abbrev draws_there : (s : Setting) (i : ℕ) → DrawsRepair n s i name F → DrawsRepair n s i name G
  draws_there s i d = record {
    old = d.old;
    agreed = agreed_there (Some (meta.Live d.old)) d.agreed;
    index = d.index;
    plan = d.plan;
    good = d.good;
    drawn = d.drawn;
  }

  module _ (s : Setting) (i : ℕ) (H : Contents) where
    pub repair_refuses_there : (f : Fault) → RepairRefuses n s i name F H f → RepairRefuses n s i name G H f
    repair_refuses_there fault.NoFile is = is
    repair_refuses_there (fault.Cloud c) is = tt
    repair_refuses_there (fault.Damaged c r how) is = record { draws = draws_there s i is.draws; here = is.here }
    repair_refuses_there (fault.Short bads) is = is
    repair_refuses_there (fault.Conflict g a b) is = (nothing_misplaced_there is.0, disputed_there g a b is.1)
    repair_refuses_there (fault.Misplaced c a b) is = least_misplaced_there c a b is
    repair_refuses_there (fault.Unsound a b) is = is
    repair_refuses_there fault.Worn is = record { old = is.old; top = highest_there (meta.Live is.old) is.top; last = is.last }
    repair_refuses_there (fault.Spent tried) is = record { all = is.all; old = is.old; top = highest_there (meta.Live is.old) is.top; has_next = is.has_next; none = is.none }
    repair_refuses_there fault.Memory is = tt

    pub repairs_from : RepairsName n s i name F H → RepairsName n s i name G H
    repairs_from (mends is) = mends (record { draws = draws_there s i is.draws; is_good = is.is_good; zero = is.zero; one = is.one; held = is.held })
    repairs_from (passes is) = passes (record { top = is.top; agreed = agreed_there is.top is.agreed; not_live = is.not_live; settled = is.settled })

    -- the same, where F and G are what it left
    pub repairs_to : RepairsName n s i name H F → RepairsName n s i name H G
    repairs_to (mends is) = mends (record {
      draws = is.draws;
      is_good = is.is_good;
      zero = is.zero;
      one = is.one;
      held = λ c l. holds_there c (meta.Live (mended_by i is.draws.old is.draws.good is.zero is.one)) (is.held c l);
    })
    repairs_to (passes is) = passes (record { top = is.top; agreed = is.agreed; not_live = is.not_live; settled = settled_there is.top is.settled })

  module _ (H : Contents) where
    pub settles_from : IsSettledFrom n name F H → IsSettledFrom n name G H
    settles_from is = record { top = is.top; agreed = agreed_there is.top is.agreed; settled = is.settled }

    pub settles_to : IsSettledFrom n name H F → IsSettledFrom n name H G
    settles_to is = record { top = is.top; agreed = is.agreed; settled = settled_there is.top is.settled }
