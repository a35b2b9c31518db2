-- A line of a batch by the words that a command line has for it.
use Rattle.std.proofs.Common.{◌≡◌, ◌≢◌, ◌∙◌, ℕ, Bool, true, false, List, [], ◌∷◌, ◌++◌, Option, Some, None, Result, Ok, Err, IfOk, IfErr, bytes_eq, codes, ap, refl, subst, sym, if◌then◌else◌}
use Rattle.std.proofs.lemmas.Bool.{false_from_ne_true}
use Rattle.std.proofs.lemmas.Slice.Eq.{bytes_eq-Decides}
use Rattle.nc_words.specs.declared.act.Act.{Act}
use Rattle.nc_words.specs.declared.act.Act.TheVariants as act
use Rattle.nc_words.specs.declared.act.Command.TheVariants as command
use Rattle.nc_words.specs.declared.lines.Line.{Line}
use Rattle.nc_words.specs.declared.lines.LineFault.{LineFault}
use Rattle.nc_words.specs.declared.lines.LineFault.TheVariants.{Outside, Memory}
use Rattle.nc_words.specs.LineParts.{HasNoSpace, IsPlainAct, RefusesAct, SplitsAtFirst}
use Rattle.nc_words.specs.Lines.{LineAsks, LineMeans, RefusesLine}
use Rattle.nc_words.specs.Words.{Means}
use Rattle.nc_words.proofs.LineTexts.{digits_no_space}
use Rattle.nc_words.proofs.Spaces.{cut, cut_at, cut_none}

-- ---- the words of a line

-- what follows `restore `, by its first space
abbrev pub restored : List ℕ → Option (List ℕ × List ℕ) → List (List ℕ)
restored tail None = codes "restore" ∷ tail ∷ []
restored tail (Some parts) = codes "restore" ∷ parts.0 ∷ parts.1 ∷ []

-- a word and what follows it
abbrev pub worded : Bool → List ℕ → List ℕ → List (List ℕ)
worded restores word tail = if restores then restored tail (cut tail) else word ∷ tail ∷ []

-- a line, by its first space
abbrev pub spelt : List ℕ → Option (List ℕ × List ℕ) → List (List ℕ)
spelt line None = line ∷ []
spelt line (Some parts) = worded (bytes_eq parts.0 (codes "restore")) parts.0 parts.1

abbrev pub line_words : List ℕ → List (List ℕ)
line_words line = spelt line (cut line)

-- words with a space between each two
abbrev pub joined : List (List ℕ) → List ℕ
joined [] = []
joined (word ∷ []) = word
joined (word ∷ next ∷ words) = word ++ codes " " ++ joined (next ∷ words)

-- The words are those of the line, which is no put.
pub record IsSpelt (line : List ℕ) (words : List (List ℕ)) : Type 0 where
  pub line_is : line ≡ joined words
  pub words_are : line_words line ≡ words
  pub not_put : (tail : List ℕ) → words ≡ codes "put" ∷ tail ∷ [] → ⊥

-- ---- what a line means, its words mean

pub means_words : (n : ℕ) (line : List ℕ) (a : Act) (bytes : List ℕ) → LineMeans n line a bytes
    → ((name : List ℕ) → a ≡ act.Put name → ⊥) → Means n (line_words line) (command.Act a)
means_words n line (act.Put name) bytes means not_put = absurd (not_put name refl)
means_words n line (act.Get name) bytes means not_put = ap line_words means.0
means_words n line (act.Remove name) bytes means not_put = ap line_words means.0
means_words n line (act.Stat name) bytes means not_put = ap line_words means.0
means_words n line act.List bytes means not_put = ap line_words means.0
means_words n line (act.Repair cloud) bytes means not_put =
    record { text = means.0.text; words_are = ap line_words means.0.line_is; number = means.0.number }
means_words n line (act.Restore first None) bytes means not_put =
    let text : List ℕ = means.0.text in
    let whole : cut text ≡ None = cut_none text (digits_no_space text means.0.number.number.digits) in
    record { text = text; words_are = ap line_words means.0.line_is ∙ ap (restored text) whole; number = means.0.number }
means_words n line (act.Restore first (Some second)) bytes means not_put =
    let text : List ℕ = means.0.text in
    let other : List ℕ = means.0.other in
    let parts : cut (text ++ codes " " ++ other) ≡ Some (text, other) = cut_at text other (digits_no_space text means.0.number.number.digits) in
    record {
      text = text;
      other = other;
      words_are = ap line_words means.0.line_is ∙ ap (restored (text ++ codes " " ++ other)) parts;
      number = means.0.number;
      other_number = means.0.other_number;
      differ = means.0.differ;
    }
means_words n line act.Scrub bytes means not_put = ap line_words means.0
means_words n line act.Recover bytes means not_put = ap line_words means.0

-- ---- and what its words mean, a line means

means_line : (n : ℕ) (line : List ℕ) (words : List (List ℕ)) (a : Act) → IsSpelt line words → Means n words (command.Act a) → LineMeans n line a []
means_line n line words (act.Put name) spelt is = absurd (spelt.not_put name is)
means_line n line words (act.Get name) spelt is = (spelt.line_is ∙ ap joined is, refl)
means_line n line words (act.Remove name) spelt is = (spelt.line_is ∙ ap joined is, refl)
means_line n line words (act.Stat name) spelt is = (spelt.line_is ∙ ap joined is, refl)
means_line n line words act.List spelt is = (spelt.line_is ∙ ap joined is, refl)
means_line n line words (act.Repair cloud) spelt asks =
    (record { text = asks.text; line_is = spelt.line_is ∙ ap joined asks.words_are; number = asks.number }, refl)
means_line n line words (act.Restore first None) spelt asks =
    (record { text = asks.text; line_is = spelt.line_is ∙ ap joined asks.words_are; number = asks.number }, refl)
means_line n line words (act.Restore first (Some second)) spelt asks = (
  record {
    text = asks.text;
    other = asks.other;
    line_is = spelt.line_is ∙ ap joined asks.words_are;
    number = asks.number;
    other_number = asks.other_number;
    differ = asks.differ;
  },
  refl,
)
means_line n line words act.Scrub spelt is = (spelt.line_is ∙ ap joined is, refl)
means_line n line words act.Recover spelt is = (spelt.line_is ∙ ap joined is, refl)

asks_line : (n : ℕ) (line : List ℕ) (words : List (List ℕ)) (a : Act) (bytes : List ℕ) → IsSpelt line words → IsPlainAct n words a bytes
    → LineAsks n line a bytes
asks_line n line words a bytes spelt plain =
    record {
      means = subst (LineMeans n line a) (sym plain.no_bytes) (means_line n line words a spelt plain.command.means);
      name = plain.command.name;
    }

-- a put has a word of its own
pub put_words : (n : ℕ) (line name bytes : List ℕ) → LineMeans n line (act.Put name) bytes → (tail : List ℕ) × (line_words line ≡ codes "put" ∷ tail ∷ [])
put_words n line name bytes puts = (name ++ codes " " ++ puts.text, ap line_words puts.line_is)

asks_words : (n : ℕ) (line : List ℕ) (words : List (List ℕ)) (a : Act) (bytes : List ℕ) → IsSpelt line words → LineAsks n line a bytes
    → Means n words (command.Act a)
asks_words n line words a bytes spelt asks =
    let not_put : (name : List ℕ) → a ≡ act.Put name → ⊥ =
    λ name is.
    let put = put_words n line name bytes (subst (λ (b : Act). LineMeans n line b bytes) is asks.means) in
    spelt.not_put put.0 (sym spelt.words_are ∙ put.1) in
    subst (λ (given : List (List ℕ)). Means n given (command.Act a)) spelt.words_are (means_words n line a bytes asks.means not_put)

-- ---- over results

pub line_asks : (n : ℕ) (line : List ℕ) (words : List (List ℕ)) (r : Result Line LineFault) → IsSpelt line words
    → IfOk r (λ read. IsPlainAct n words read.act read.bytes) → IfOk r (λ read. LineAsks n line read.act read.bytes)
line_asks n line words (Ok read) spelt plain = asks_line n line words read.act read.bytes spelt plain
line_asks n line words (Err fault) spelt plain = tt

refuses : (n : ℕ) (line : List ℕ) (words : List (List ℕ)) (f : LineFault) → IsSpelt line words → RefusesAct n words f → RefusesLine n line f
refuses n line words Outside spelt none =
    record { none = λ a bytes asks. none.none a (record { means = asks_words n line words a bytes spelt asks; name = asks.name }) }
refuses n line words Memory spelt none = tt

pub line_refuses : (n : ℕ) (line : List ℕ) (words : List (List ℕ)) (r : Result Line LineFault) → IsSpelt line words
    → IfErr r (RefusesAct n words) → IfErr r (RefusesLine n line)
line_refuses n line words (Ok read) spelt fault = tt
line_refuses n line words (Err f) spelt fault = refuses n line words f spelt fault

-- ---- how lines are spelt

pub spelt_alone : (line : List ℕ) → HasNoSpace line → IsSpelt line (line ∷ [])
spelt_alone line whole = record { line_is = refl; words_are = ap (spelt line) (cut_none line whole); not_put = λ tail is. absurd cc }

pub spelt_by_two : (line word tail : List ℕ) → SplitsAtFirst line word tail → word ≢ codes "put" → word ≢ codes "restore"
    → IsSpelt line (word ∷ tail ∷ [])
spelt_by_two line word tail split not_put not_restore =
    let other : bytes_eq word (codes "restore") ≡ false =
    false_from_ne_true (bytes_eq word (codes "restore")) (λ is. not_restore ((bytes_eq-Decides word (codes "restore")).0 is)) in
    record {
      line_is = split.text_is;
      words_are = ap line_words split.text_is ∙ ap (spelt (word ++ codes " " ++ tail)) (cut_at word tail split.first)
          ∙ ap (λ (restores : Bool). worded restores word tail) other;
      not_put = λ t is. not_put (let same : word ∷ tail ∷ [] ≡ codes "put" ∷ t ∷ [] = is in cc);
    }

pub spelt_restore : (tail : List ℕ) → HasNoSpace tail → IsSpelt (codes "restore " ++ tail) (codes "restore" ∷ tail ∷ [])
spelt_restore tail whole = record { line_is = refl; words_are = ap (restored tail) (cut_none tail whole); not_put = λ t is. absurd cc }

pub spelt_restores : (tail first second : List ℕ) → SplitsAtFirst tail first second
    → IsSpelt (codes "restore " ++ tail) (codes "restore" ∷ first ∷ second ∷ [])
spelt_restores tail first second split =
    record {
      line_is = ap (λ (t : List ℕ). codes "restore " ++ t) split.text_is;
      words_are = ap (λ (t : List ℕ). restored t (cut t)) split.text_is
          ∙ ap (restored (first ++ codes " " ++ second)) (cut_at first second split.first);
      not_put = λ t is. absurd cc;
    }
