-- A line asks for one act with one list of bytes; it is a text, and not shorter than its bytes.
use Rattle.std.proofs.Common.{◌≡◌, ◌∙◌, ◌≤◌, inl, inr, ℕ, List, [], ◌∷◌, ◌++◌, ◌+◌, Some, None, IfOk, IsUtf8, Result, Ok, Err, codes, length, length-append, arith, ap, refl, subst, sym}
use Rattle.std.proofs.lemmas.Str.{IsUtf8-append}
use Rattle.nc_words.specs.declared.act.Act.{Act}
use Rattle.nc_words.specs.declared.act.Act.TheVariants as act
use Rattle.nc_words.specs.declared.act.Command.TheVariants as command
use Rattle.nc_words.specs.declared.lines.Line.{Line}
use Rattle.nc_words.specs.declared.lines.LineFault.{LineFault}
use Rattle.nc_words.specs.Lines.{IsOutside, LineAsks, LineMeans, LineMeansOne, NumbersCloud, PutsIn}
use Rattle.nc_words.proofs.LinePuts.{asks_put, one_put, put_or_not}
use Rattle.nc_words.proofs.LineTexts.{data_short, data_text, digits_text, letters_text}
use Rattle.nc_words.proofs.OneMeaning.{one_command}
use Rattle.nc_words.proofs.Spelling.{line_words, means_words, put_words}

-- ---- bytes

-- no other act than a put has bytes
no_bytes : (n : ℕ) (line : List ℕ) (a : Act) (bytes : List ℕ) → LineMeans n line a bytes → ((name : List ℕ) → a ≡ act.Put name → ⊥) → bytes ≡ []
no_bytes n line (act.Put name) bytes means other = absurd (other name refl)
no_bytes n line (act.Get name) bytes means other = means.1
no_bytes n line (act.Remove name) bytes means other = means.1
no_bytes n line (act.Stat name) bytes means other = means.1
no_bytes n line act.List bytes means other = means.1
no_bytes n line (act.Repair cloud) bytes means other = means.1
no_bytes n line (act.Restore first None) bytes means other = means.1
no_bytes n line (act.Restore first (Some second)) bytes means other = means.1
no_bytes n line act.Scrub bytes means other = means.1
no_bytes n line act.Recover bytes means other = means.1

put_short : (line name bytes : List ℕ) → PutsIn line name bytes → length bytes ≤ length line
put_short line name bytes puts =
    let few = data_short puts.text bytes puts.is_data in
    let whole : length line ≡ length (codes "put " ++ name ++ codes " ") + length puts.text =
    ap length puts.line_is ∙ length-append (codes "put " ++ name ++ codes " ") puts.text in
    omega (arith, few, whole)

short : (n : ℕ) (line : List ℕ) (a : Act) (bytes : List ℕ) → LineMeans n line a bytes → length bytes ≤ length line
short n line a bytes means =
    elim (put_or_not a) [
      | inl put ↦ put_short line put.0 bytes (subst (λ (b : Act). LineMeans n line b bytes) put.1 means)
      | inr other ↦ let none : length bytes ≡ 0 = ap length (no_bytes n line a bytes means other) in omega (arith, none)
    ]

pub line_short : (n : ℕ) (line : List ℕ) (r : Result Line LineFault) → IfOk r (λ read. LineAsks n line read.act read.bytes)
    → IfOk r (λ read. length read.bytes ≤ length line)
line_short n line (Ok read) asks = short n line read.act read.bytes asks.means
line_short n line (Err fault) asks = tt

-- ---- one meaning

both_puts : (n : ℕ) (line one : List ℕ) (b : Act) (x y : List ℕ) → LineMeans n line (act.Put one) x → LineMeans n line b y
    → (act.Put one ≡ b) × (x ≡ y)
both_puts n line one b x y first second =
    let words = put_words n line one x first in
    let put = asks_put n line words.0 b y words.1 second in
    let same = one_put line one put.0 x y first (subst (λ (c : Act). LineMeans n line c y) put.1 second) in
    (ap act.Put same.0 ∙ sym put.1, same.1)

both_plain : (n : ℕ) (line : List ℕ) (a b : Act) (x y : List ℕ) → LineMeans n line a x → LineMeans n line b y
    → ((name : List ℕ) → a ≡ act.Put name → ⊥) → ((name : List ℕ) → b ≡ act.Put name → ⊥) → (a ≡ b) × (x ≡ y)
both_plain n line a b x y first second one two =
    let same : command.Act a ≡ command.Act b =
    one_command n (line_words line) (command.Act a) (command.Act b) (means_words n line a x first one) (means_words n line b y second two) in
    (cc, no_bytes n line a x first one ∙ sym (no_bytes n line b y second two))

one_meaning : (n : ℕ) (line : List ℕ) (a b : Act) (x y : List ℕ) → LineMeans n line a x → LineMeans n line b y → (a ≡ b) × (x ≡ y)
one_meaning n line a b x y first second =
    elim (put_or_not a) [
      | inl put ↦
          let same = both_puts n line put.0 b x y (subst (λ (c : Act). LineMeans n line c x) put.1 first) second in
          (put.1 ∙ same.0, same.1)
      | inr one ↦
          elim (put_or_not b) [
            | inl put ↦
                let same = both_puts n line put.0 a y x (subst (λ (c : Act). LineMeans n line c y) put.1 second) first in
                (sym same.0 ∙ sym put.1, sym same.1)
            | inr two ↦ both_plain n line a b x y first second one two
          ]
    ]

pub one_line : LineMeansOne
one_line n line a b x y first second = one_meaning n line a b x y first.means second.means

-- ---- text

after_word : (word line rest : List ℕ) → IsUtf8 word → line ≡ word ++ rest → IsUtf8 rest → IsUtf8 line
after_word word line rest is_text is more = subst IsUtf8 (sym is) (IsUtf8-append word rest is_text more)

spaced : (text : List ℕ) → IsUtf8 text → IsUtf8 (text ++ codes " ")
spaced text is = IsUtf8-append text (codes " ") is (letters_text (codes " ") refl)

number_text : (n : ℕ) (word line : List ℕ) (cloud : ℕ) → IsUtf8 word → NumbersCloud n word line cloud → IsUtf8 line
number_text n word line cloud is_text numbers =
    after_word (word ++ codes " ") line numbers.text (spaced word is_text) numbers.line_is (digits_text numbers.text numbers.number.number.digits)

asks_text : (n : ℕ) (line : List ℕ) (a : Act) (bytes : List ℕ) → LineAsks n line a bytes → IsUtf8 line
asks_text n line (act.Put name) bytes asks =
    let puts : PutsIn line name bytes = asks.means in
    after_word (codes "put " ++ name ++ codes " ") line puts.text
    (spaced (codes "put " ++ name) (IsUtf8-append (codes "put ") name (letters_text (codes "put ") refl) asks.name.text)) puts.line_is
    (data_text puts.text bytes puts.is_data)
asks_text n line (act.Get name) bytes asks = after_word (codes "get ") line name (letters_text (codes "get ") refl) asks.means.0 asks.name.text
asks_text n line (act.Remove name) bytes asks = after_word (codes "rm ") line name (letters_text (codes "rm ") refl) asks.means.0 asks.name.text
asks_text n line (act.Stat name) bytes asks = after_word (codes "stat ") line name (letters_text (codes "stat ") refl) asks.means.0 asks.name.text
asks_text n line act.List bytes asks = subst IsUtf8 (sym asks.means.0) (letters_text (codes "ls") refl)
asks_text n line (act.Repair cloud) bytes asks = number_text n (codes "repair") line cloud (letters_text (codes "repair") refl) asks.means.0
asks_text n line (act.Restore first None) bytes asks =
    number_text n (codes "restore") line first (letters_text (codes "restore") refl) asks.means.0
asks_text n line (act.Restore first (Some second)) bytes asks =
    let numbers = asks.means.0 in
    after_word (codes "restore " ++ numbers.text ++ codes " ") line numbers.other
    (spaced (codes "restore " ++ numbers.text)
    (IsUtf8-append (codes "restore ") numbers.text (letters_text (codes "restore ") refl) (digits_text numbers.text numbers.number.number.digits)))
    numbers.line_is (digits_text numbers.other numbers.other_number.number.digits)
asks_text n line act.Scrub bytes asks = subst IsUtf8 (sym asks.means.0) (letters_text (codes "scrub") refl)
asks_text n line act.Recover bytes asks = subst IsUtf8 (sym asks.means.0) (letters_text (codes "recover") refl)

pub no_text : (n : ℕ) (line : List ℕ) → (IsUtf8 line → ⊥) → IsOutside n line
no_text n line other = record { none = λ a bytes asks. other (asks_text n line a bytes asks) }
