-- What words ask for, by what `clap` reads in them.
use Rattle.std.proofs.Common.{◌≡◌, ◌⊎◌, inl, inr, ℕ, List, [], refl, subst, sym}
use Rattle.clap.specs.Kinds.{HasKind, IsAmong}
use Rattle.clap.specs.Values.{kind_of}
use Rattle.clap.specs.Walk.{Row}
use Rattle.clap.specs.declared.error.Error.{Error}
use Rattle.clap.specs.declared.error.kind.ErrorKind.{ErrorKind}
use Rattle.clap.specs.declared.error.kind.ErrorKind.TheVariants as kind
use Rattle.nc_words.specs.declared.act.Command.{Command}
use Rattle.nc_words.specs.declared.act.Request.{Request}
use Rattle.nc_words.specs.declared.setting.Setting.{Setting}
use Rattle.nc_words.specs.declared.words.WordFault.{WordFault}
use Rattle.nc_words.specs.declared.words.WordFault.TheVariants.{Usage, Name, Memory}
use Rattle.nc_words.specs.Matched.{IsTaken, faults, matched}
use Rattle.nc_words.specs.Options.{Chooses, ChoosesNothing}
use Rattle.nc_words.specs.Words.{Asks, AsksNothing, Declines, IsCommand, RefusesArguments, RefusesWords, arguments_in, told_as}

-- ---- an error of `clap`

told : (k : ErrorKind) → (k ≡ kind.OutOfMemory) ⊎ (told_as k ≡ Usage)
told kind.InvalidValue = inr refl
told kind.UnknownArgument = inr refl
told kind.InvalidSubcommand = inr refl
told kind.NoEquals = inr refl
told kind.ValueValidation = inr refl
told kind.TooManyValues = inr refl
told kind.TooFewValues = inr refl
told kind.WrongNumberOfValues = inr refl
told kind.ArgumentConflict = inr refl
told kind.MissingRequiredArgument = inr refl
told kind.MissingSubcommand = inr refl
told kind.DisplayHelp = inr refl
told kind.DisplayHelpOnMissingArgumentOrSubcommand = inr refl
told kind.DisplayVersion = inr refl
told kind.Io = inr refl
told kind.Format = inr refl
told kind.OutOfMemory = inl refl

told_memory : (words : List (List ℕ)) (k : ErrorKind) → k ≡ kind.OutOfMemory → Declines words (told_as k)
told_memory words k is = subst (λ (other : ErrorKind). Declines words (told_as other)) (sym is) tt

told_usage : (words : List (List ℕ)) (k : ErrorKind) → IsAmong k (faults words) → told_as k ≡ Usage → Declines words (told_as k)
told_usage words k among is = subst (Declines words) (sym is) (λ taken. subst (IsAmong k) taken.no_fault among)

declines : (words : List (List ℕ)) (k : ErrorKind) → (k ≡ kind.OutOfMemory) ⊎ IsAmong k (faults words) → Declines words (told_as k)
declines words k (inl is) = told_memory words k is
declines words k (inr among) = elim (told k) [ inl is ↦ told_memory words k is | inr is ↦ told_usage words k among is ]

pub declined : (words : List (List ℕ)) (e : Error) (f : WordFault) → f ≡ told_as (kind_of e) → HasKind (faults words) e → Declines words f
declined words e f is has = subst (Declines words) (sym is) (declines words (kind_of e) has)

-- ---- what is asked for, or refused

pub refused : (n : ℕ) (words : List (List ℕ)) (f : WordFault) → Declines words f → RefusesWords n words f
refused n words Usage declined = record { none = λ request says. declined says.taken }
refused n words (Name cause) declined = absurd declined
refused n words Memory declined = tt

pub unchosen : (n : ℕ) (words : List (List ℕ)) (rows : List Row) → rows ≡ matched words → ChoosesNothing rows → AsksNothing n words
unchosen n words rows are lacks =
    record { none = λ request says. lacks.none request.setting (subst (λ (given : List Row). Chooses given request.setting) (sym are) says.setting) }

pub refused_arguments : (n : ℕ) (words : List (List ℕ)) (rows : List Row) (setting : Setting) (f : WordFault) → rows ≡ matched words
    → IsTaken words → Chooses rows setting → RefusesArguments n (arguments_in rows) f → RefusesWords n words f
refused_arguments n words rows setting Usage are taken chosen refuses =
    let whole = subst (λ (given : List Row). RefusesArguments n (arguments_in given) Usage) are refuses in
    record { none = λ request says. whole.none request.command says.means }
refused_arguments n words rows setting (Name cause) are taken chosen refuses =
    let whole = subst (λ (given : List Row). RefusesArguments n (arguments_in given) (Name cause)) are refuses in
    let holds = subst (λ (given : List Row). Chooses given setting) are chosen in
    record {
      request = record { setting = setting; command = whole.command };
      says = record { taken = taken; setting = holds; means = whole.means };
      text = whole.text;
      names = whole.names;
      refuses = whole.refuses;
    }
refused_arguments n words rows setting Memory are taken chosen refuses = tt

pub asked : (n : ℕ) (words : List (List ℕ)) (rows : List Row) (setting : Setting) (command : Command) → rows ≡ matched words
    → IsTaken words → Chooses rows setting → IsCommand n (arguments_in rows) command
    → Asks n words (record { setting = setting; command = command })
asked n words rows setting command are taken chosen is =
    record {
      taken = taken;
      setting = subst (λ (given : List Row). Chooses given setting) are chosen;
      command = subst (λ (given : List Row). IsCommand n (arguments_in given) command) are is;
    }
