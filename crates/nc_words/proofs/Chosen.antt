-- What options that don't fit leave to choose, and what a getter reads by the rows.
use Rattle.std.proofs.Common.{◌≡◌, ◌∙◌, List, ℕ, Option, Some, None, IfSome, IfNone, sym, refl}
use Rattle.std.specs.Borrow.{Bor}
use Rattle.std.specs.Prelude.{codes, option_map}
use Rattle.clap.specs.Walk.{Row}
use Rattle.nc_words.specs.Options.{Chooses, ChoosesNothing, GivesNoNumber, GivesNoSeed}

-- a text that is looked up is the one that the rows give
pub some_text : (found : Option (Bor (List ℕ))) (given : Option (List ℕ)) → option_map (λ s. s.now) found ≡ given
    → IfSome found (λ text. given ≡ Some text.now)
some_text None given is = tt
some_text (Some text) given is = sym is

pub no_text : (found : Option (Bor (List ℕ))) (given : Option (List ℕ)) → option_map (λ s. s.now) found ≡ given
    → IfNone found (given ≡ None)
no_text None given is = sym is
no_text (Some text) given is = tt

-- at any result, since it holds anyway
pub if_none : {A : Type 0} (r : Option A) {P : Type 0} → P → IfNone r P
if_none None holds = holds
if_none (Some x) holds = tt

pub without_seed : (rows : List Row) → GivesNoSeed rows → ChoosesNothing rows
without_seed rows lacks = record { none = λ setting chosen. lacks.none setting.seed chosen.seed }

pub without_budget : (rows : List Row) → GivesNoNumber (codes "budget") 1 4096 rows → ChoosesNothing rows
without_budget rows lacks = record { none = λ setting chosen. lacks.none setting.budget chosen.budget }

pub without_workers : (rows : List Row) → GivesNoNumber (codes "workers") 1 16 rows → ChoosesNothing rows
without_workers rows lacks = record { none = λ setting chosen. lacks.none setting.workers chosen.workers }
