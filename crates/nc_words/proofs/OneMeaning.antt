-- Words mean one command, and a bad name has one cause.
use Rattle.std.proofs.Common.{◌≡◌, ◌<◌, ℕ, List, [], ◌∷◌, Option, Some, None, Ok, IfSome, codes, if◌then◌else◌, ◌==◌, slice_index, arith, ap, refl, sym, ◌∙◌, subst, true, false}
use Rattle.std.specs.Str.Parse.{digits_value}
use Rattle.clap.specs.Walk.{Row, first_of}
use Rattle.hex.specs.Hex.{decode_of}
use Rattle.nc_name.specs.Names.{IsFirstControl, IsName, RefusesName, is_control}
use Rattle.nc_name.specs.declared.name.NameFault.{NameFault}
use Rattle.nc_name.specs.declared.name.NameFault.TheVariants.{Empty, Long, Control}
use Rattle.nc_words.specs.declared.act.Act.{Act}
use Rattle.nc_words.specs.declared.act.Act.TheVariants as act
use Rattle.nc_words.specs.declared.act.Command.{Command}
use Rattle.nc_words.specs.declared.act.Command.TheVariants as command
use Rattle.nc_words.specs.Acts.{subject}
use Rattle.nc_words.specs.declared.act.Request.{Request}
use Rattle.nc_words.specs.declared.setting.Setting.{Setting}
use Rattle.nc_words.specs.declared.words.WordFault.{WordFault}
use Rattle.nc_words.specs.declared.words.WordFault.TheVariants.{Usage, Name, Memory}
use Rattle.nc_words.specs.LineParts.{MeansNoAct}
use Rattle.nc_words.specs.Matched.{matched}
use Rattle.nc_words.specs.Options.{Chooses, GivesNumber, GivesSeed}
use Rattle.nc_words.specs.Words.{BadNameHasOne, Means, MeansNothing, NamesBadly, RefusesArguments, WordsMeanOne, arguments, target}

-- words about a text that is no name
pub bad_name : (n : ℕ) (words : List (List ℕ)) (text : List ℕ) (a : Act) (cause : NameFault) → subject a ≡ Some text
    → Means n words (command.Act a) → RefusesName text cause → NamesBadly n words cause
bad_name n words text a cause names means refuses = record { command = command.Act a; means = means; text = text; names = names; refuses = refuses }

-- ---- words mean one command

-- the command that a word with this first letter is, where it is one
read_one : ℕ → Option Command
read_one letter =
    if letter == 108 then Some (command.Act act.List) else if letter == 115 then Some (command.Act act.Scrub)
    else if letter == 98 then Some command.Batch else Some (command.Act act.Recover)

-- the command that a word with these first three letters and a text are, where they are one
read_two : ℕ → ℕ → ℕ → List ℕ → Option Command
read_two letter next third text =
    if letter == 112 then Some (command.Act (act.Put text)) else if letter == 103 then Some (command.Act (act.Get text))
    else if letter == 115 then Some (command.Act (act.Stat text)) else if letter == 109 then Some (command.Mill (digits_value 10 text))
    else if next == 109 then Some (command.Act (act.Remove text))
    else if third == 112 then Some (command.Act (act.Repair (digits_value 10 text)))
    else Some (command.Act (act.Restore (digits_value 10 text) None))

-- the command that three words with these last two are, where they are one
read_three : List ℕ → List ℕ → Option Command
read_three text other = Some (command.Act (act.Restore (digits_value 10 text) (Some (digits_value 10 other))))

read_as : List (List ℕ) → Option Command
read_as [] = None
read_as (word ∷ []) = read_one (slice_index word 0)
read_as (word ∷ text ∷ []) = read_two (slice_index word 0) (slice_index word 1) (slice_index word 2) text
read_as (word ∷ text ∷ other ∷ words) = read_three text other

means_read : (n : ℕ) (words : List (List ℕ)) (c : Command) → Means n words c → read_as words ≡ Some c
unfolding read_as read_three read_two read_one
means_read n words (command.Act (act.Put name)) is = ap read_as is
means_read n words (command.Act (act.Get name)) is = ap read_as is
means_read n words (command.Act (act.Remove name)) is = ap read_as is
means_read n words (command.Act (act.Stat name)) is = ap read_as is
means_read n words (command.Act act.List) is = ap read_as is
means_read n words (command.Act (act.Repair cloud)) asks =
    let repair : ℕ → Option Command = λ c. Some (command.Act (act.Repair c)) in
    ap read_as asks.words_are ∙ ap repair (sym asks.number.number.value_is)
means_read n words (command.Act (act.Restore first None)) asks =
    let restore : ℕ → Option Command = λ c. Some (command.Act (act.Restore c None)) in
    ap read_as asks.words_are ∙ ap restore (sym asks.number.number.value_is)
means_read n words (command.Act (act.Restore first (Some second))) asks =
    let restore : ℕ → ℕ → Option Command = λ c d. Some (command.Act (act.Restore c (Some d))) in
    let value : ℕ = digits_value 10 asks.other in
    let one : restore (digits_value 10 asks.text) value ≡ restore first value = ap (λ c. restore c value) (sym asks.number.number.value_is) in
    ap read_as asks.words_are ∙ one ∙ ap (restore first) (sym asks.other_number.number.value_is)
means_read n words (command.Act act.Scrub) is = ap read_as is
means_read n words (command.Act act.Recover) is = ap read_as is
means_read n words command.Batch is = ap read_as is
means_read n words (command.Mill number) asks =
    let mill : ℕ → Option Command = λ c. Some (command.Mill c) in
    ap read_as asks.words_are ∙ ap mill (sym asks.is_number.value_is)

nothing_read : (c : Command) → read_as [] ≡ Some c → ⊥
unfolding read_as
nothing_read c read = let bad : None ≡ Some c = read in absurd cc

-- no arguments are no command
pub nothing_given : (n : ℕ) → MeansNothing n []
nothing_given n = record { none = λ c means. nothing_read c (means_read n [] c means) }

pub one_command : (n : ℕ) (words : List (List ℕ)) (one two : Command) → Means n words one → Means n words two → one ≡ two
one_command n words one two first second =
    let same : Some one ≡ Some two = sym (means_read n words one first) ∙ means_read n words two second in
    cc

-- ---- a bad name has one cause

not_before : (text : List ℕ) (a b : ℕ) → IsFirstControl text a → IsFirstControl text b → a < b → ⊥
not_before text a b first second less =
    let plain : is_control (slice_index text a) ≡ false = second.before a less in
    let control : is_control (slice_index text a) ≡ true = first.here in
    absurd cc

only_first : (text : List ℕ) (a b : ℕ) → IsFirstControl text a → IsFirstControl text b → a ≡ b
only_first text a b first second =
    let not_less : a < b → ⊥ = not_before text a b first second in
    let not_more : b < a → ⊥ = not_before text b a second first in
    omega (arith, not_less, not_more)

one_cause : (text : List ℕ) (one two : NameFault) → RefusesName text one → RefusesName text two → one ≡ two
one_cause text Empty Empty first second = refl
one_cause text Empty (Long len) first second = absurd (omega (arith, first, second.1))
one_cause text Empty (Control at) first second = absurd (omega (arith, first, second.0))
one_cause text (Long len) Empty first second = absurd (omega (arith, second, first.1))
one_cause text (Long len) (Long other) first second = ap Long (first.0 ∙ sym second.0)
one_cause text (Long len) (Control at) first second = absurd (omega (arith, second.1, first.1))
one_cause text (Control at) Empty first second = absurd (omega (arith, second, first.0))
one_cause text (Control at) (Long len) first second = absurd (omega (arith, first.1, second.1))
one_cause text (Control at) (Control other) first second = ap Control (only_first text at other first.2 second.2)

-- what has a cause isn't a name
pub no_name : (text : List ℕ) (cause : NameFault) → RefusesName text cause → IsName text → ⊥
no_name text Empty refuses is = omega (arith, refuses, is.not_empty)
no_name text (Long len) refuses is = omega (arith, refuses.1, is.short)
no_name text (Control at) refuses is =
    let plain : is_control (slice_index text at) ≡ false = is.plain at refuses.2.within in
    let control : is_control (slice_index text at) ≡ true = refuses.2.here in
    absurd cc

no_target : (o : Option (List ℕ)) (text : List ℕ) (cause : NameFault) → o ≡ Some text → RefusesName text cause → IfSome o IsName → ⊥
no_target None text cause names refuses is = let none : None ≡ Some text = names in absurd cc
no_target (Some other) text cause names refuses is =
    let same : other ≡ text = let some : Some other ≡ Some text = names in cc in
    no_name text cause refuses (subst IsName same is)

-- refused arguments ask for no act
pub no_act : (n : ℕ) (words : List (List ℕ)) (f : WordFault) → RefusesArguments n words f → MeansNoAct n words
no_act n words Usage refuses = record { none = λ a is. refuses.none (command.Act a) is.means }
no_act n words (Name cause) refuses =
    record {
      none = λ a is.
          let same : refuses.command ≡ command.Act a = one_command n words refuses.command (command.Act a) refuses.means is.means in
          no_target (target (command.Act a)) refuses.text cause (sym (ap target same) ∙ refuses.names) refuses.refuses is.name;
    }
no_act n words Memory refuses = absurd refuses

-- ---- options choose one setting

one_some : {A : Type 0} (given : Option A) (x y : A) → given ≡ Some x → given ≡ Some y → x ≡ y
one_some given x y first second = cc

one_ok : (text : List ℕ) (one two : List ℕ) → decode_of text ≡ Ok one → decode_of text ≡ Ok two → one ≡ two
one_ok text one two first second = cc

one_seed : (rows : List Row) (one two : List ℕ) → GivesSeed rows one → GivesSeed rows two → one ≡ two
one_seed rows one two first second =
    let text : first.text ≡ second.text = one_some (first_of (codes "seed") rows) first.text second.text first.given second.given in
    one_ok second.text one two (subst (λ (t : List ℕ). decode_of t ≡ Ok one) text first.is_seed.digits) second.is_seed.digits

one_number : (option : List ℕ) (low high : ℕ) (rows : List Row) (one two : ℕ) → GivesNumber option low high rows one
    → GivesNumber option low high rows two → one ≡ two
one_number option low high rows one two first second =
    let text : first.text ≡ second.text = one_some (first_of option rows) first.text second.text first.given second.given in
    first.in_range.number.value_is ∙ ap (digits_value 10) text ∙ sym second.in_range.number.value_is

one_setting : (rows : List Row) (one two : Setting) → Chooses rows one → Chooses rows two → one ≡ two
one_setting rows one two first second =
    let seeds : one.seed ≡ two.seed = one_seed rows one.seed two.seed first.seed second.seed in
    let budgets : one.budget ≡ two.budget = one_number _ 1 4096 rows one.budget two.budget first.budget second.budget in
    let counts : one.workers ≡ two.workers = one_number _ 1 16 rows one.workers two.workers first.workers second.workers in
    λ i. record { seed = seeds i; budget = budgets i; workers = counts i }

pub one_request : WordsMeanOne
one_request n words one two first second =
    let settings : one.setting ≡ two.setting = one_setting (matched words) one.setting two.setting first.setting second.setting in
    let commands : one.command ≡ two.command = one_command n (arguments words) one.command two.command first.means second.means in
    λ i. record { setting = settings i; command = commands i }

pub one_bad : BadNameHasOne
one_bad n words one two first second =
    let same : first.request ≡ second.request = one_request n words first.request second.request first.says second.says in
    let targets : target first.request.command ≡ target second.request.command = ap (λ (r : Request). target r.command) same in
    let text : first.text ≡ second.text = one_some (target second.request.command) first.text second.text (sym targets ∙ first.names) second.names in
    one_cause second.text one two (subst (λ (t : List ℕ). RefusesName t one) text first.refuses) second.refuses
