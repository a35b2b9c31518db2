-- A line that puts, by its last space.
use Rattle.std.proofs.Common.{◌≡◌, ◌∙◌, ⊎_elim, ◌⊎◌, inl, inr, ℕ, List, [], ◌∷◌, ◌++◌, Option, Some, None, IfOk, IfErr, IfSome, Result, Ok, Err, codes, drop, ap, refl, subst, sym}
use Rattle.nc_name.specs.Names.{IsName, RefusesName}
use Rattle.nc_name.specs.declared.name.NameFault.{NameFault}
use Rattle.nc_words.specs.declared.act.Act.{Act}
use Rattle.nc_words.specs.declared.act.Act.TheVariants as act
use Rattle.nc_words.specs.declared.act.Command.{Command}
use Rattle.nc_words.specs.declared.act.Command.TheVariants as command
use Rattle.nc_words.specs.declared.lines.Line.{Line}
use Rattle.nc_words.specs.declared.lines.LineFault.{LineFault}
use Rattle.nc_words.specs.declared.lines.LineFault.TheVariants.{Outside, Memory}
use Rattle.nc_words.specs.Acts.{FitsWidth, subject}
use Rattle.nc_words.specs.LineParts.{HasNoSpace, IsNoPut, IsPut, RefusesData, RefusesPut, SplitsAtLast}
use Rattle.nc_words.specs.Lines.{IsData, LineAsks, LineMeans, PutsIn, RefusesLine}
use Rattle.nc_words.proofs.LineTexts.{data_no_space, one_data}
use Rattle.nc_words.proofs.OneMeaning.{no_name, one_command}
use Rattle.nc_words.proofs.Spaces.{cut_last, cut_last_at, cut_last_none}
use Rattle.nc_words.proofs.Spelling.{line_words, means_words}

pub put_or_not : (a : Act) → ((name : List ℕ) × (a ≡ act.Put name)) ⊎ ((name : List ℕ) → a ≡ act.Put name → ⊥)
put_or_not (act.Put name) = inl (name, refl)
put_or_not (act.Get name) = inr (λ other is. cc)
put_or_not (act.Remove name) = inr (λ other is. cc)
put_or_not (act.Stat name) = inr (λ other is. cc)
put_or_not act.List = inr (λ other is. cc)
put_or_not (act.Repair cloud) = inr (λ other is. cc)
put_or_not (act.Restore first second) = inr (λ other is. cc)
put_or_not act.Scrub = inr (λ other is. cc)
put_or_not act.Recover = inr (λ other is. cc)

-- a line whose first word is that of a put asks for one
pub asks_put : (n : ℕ) (line tail : List ℕ) (a : Act) (bytes : List ℕ) → line_words line ≡ codes "put" ∷ tail ∷ [] → LineMeans n line a bytes
    → (name : List ℕ) × (a ≡ act.Put name)
asks_put n line tail a bytes words means =
    elim (put_or_not a) [
      | inl put ↦ put
      | inr other ↦
          let same : command.Act a ≡ command.Act (act.Put tail) =
          one_command n (line_words line) (command.Act a) (command.Act (act.Put tail)) (means_words n line a bytes means other) words in
          (tail, cc)
    ]

-- ---- its parts

abbrev front_in : Option (List ℕ × List ℕ) → List ℕ
front_in None = []
front_in (Some parts) = parts.0

abbrev back_in : Option (List ℕ × List ℕ) → List ℕ
back_in None = []
back_in (Some parts) = parts.1

same_parts : (o : Option (List ℕ × List ℕ)) (a b x y : List ℕ) → o ≡ Some (a, x) → o ≡ Some (b, y) → (a ≡ b) × (x ≡ y)
same_parts o a b x y first second = (sym (ap front_in first) ∙ ap front_in second, sym (ap back_in first) ∙ ap back_in second)

-- what stands around the last space of a tail with bytes behind it
parts_of : (tail name text bytes : List ℕ) → tail ≡ name ++ codes " " ++ text → IsData text bytes → cut_last tail ≡ Some (name, text)
parts_of tail name text bytes is is_data = ap cut_last is ∙ cut_last_at name text (data_no_space text bytes is_data)

tail_is : (line name bytes : List ℕ) (puts : PutsIn line name bytes) → drop 4 line ≡ name ++ codes " " ++ puts.text
tail_is line name bytes puts = ap (drop 4) puts.line_is

pub one_put : (line one two x y : List ℕ) → PutsIn line one x → PutsIn line two y → (one ≡ two) × (x ≡ y)
one_put line one two x y first second =
    let same = same_parts (cut_last (drop 4 line)) one two first.text second.text
    (parts_of (drop 4 line) one first.text x (tail_is line one x first) first.is_data)
    (parts_of (drop 4 line) two second.text y (tail_is line two y second) second.is_data) in
    (same.0, one_data second.text x y (subst (λ (t : List ℕ). IsData t x) same.1 first.is_data) second.is_data)

-- ---- reading one

put_split : (tail front back : List ℕ) (a : Act) (bytes : List ℕ) → SplitsAtLast tail front back → (put : IsPut tail a bytes)
    → (put.name ≡ front) × (put.text ≡ back)
put_split tail front back a bytes split put =
    same_parts (cut_last tail) put.name front put.text back (parts_of tail put.name put.text bytes put.tail_is put.is_data)
    (ap cut_last split.text_is ∙ cut_last_at front back split.last)

pub no_space_no_put : (tail : List ℕ) → HasNoSpace tail → IsNoPut tail
no_space_no_put tail whole =
    record {
      none = λ a bytes put.
          let both : None ≡ Some (put.name, put.text) =
          sym (cut_last_none tail whole) ∙ parts_of tail put.name put.text bytes put.tail_is put.is_data in
          cc;
    }

pub no_name_no_put : (tail front back : List ℕ) (cause : NameFault) → SplitsAtLast tail front back → RefusesName front cause → IsNoPut tail
no_name_no_put tail front back cause split refuses =
    record { none = λ a bytes put. no_name front cause refuses (subst IsName (put_split tail front back a bytes split put).0 put.is_name) }

pub no_data_no_put : (tail front back : List ℕ) (f : LineFault) → SplitsAtLast tail front back → RefusesData back f → RefusesPut tail f
no_data_no_put tail front back Outside split none =
    record {
      none = λ a bytes put.
          none.none bytes (subst (λ (t : List ℕ). IsData t bytes) (put_split tail front back a bytes split put).1 put.is_data);
    }
no_data_no_put tail front back Memory split none = tt

-- ---- the line of what was read

put_asks : (n : ℕ) (line tail : List ℕ) (a : Act) (bytes : List ℕ) → line ≡ codes "put " ++ tail → IsPut tail a bytes → LineAsks n line a bytes
put_asks n line tail a bytes line_is put =
    let puts : PutsIn line put.name bytes =
    record { text = put.text; line_is = line_is ∙ ap (λ (t : List ℕ). codes "put " ++ t) put.tail_is; is_data = put.is_data } in
    record {
      means = subst (λ (b : Act). LineMeans n line b bytes) (sym put.act_is) puts;
      name = subst (λ (b : Act). IfSome (subject b) IsName) (sym put.act_is) put.is_name;
    }

asks_put_of : (n : ℕ) (line tail : List ℕ) (a : Act) (bytes : List ℕ) → line ≡ codes "put " ++ tail → LineAsks n line a bytes → IsPut tail a bytes
asks_put_of n line tail a bytes line_is asks =
    let put = asks_put n line tail a bytes (ap line_words line_is) asks.means in
    let puts : PutsIn line put.0 bytes = subst (λ (b : Act). LineMeans n line b bytes) put.1 asks.means in
    record {
      name = put.0;
      text = puts.text;
      tail_is = sym (ap (drop 4) line_is) ∙ tail_is line put.0 bytes puts;
      act_is = put.1;
      is_data = puts.is_data;
      is_name = subst (λ (b : Act). IfSome (subject b) IsName) put.1 asks.name;
    }

pub put_line : (n : ℕ) (line tail : List ℕ) (r : Result Line LineFault) → line ≡ codes "put " ++ tail
    → IfOk r (λ read. IsPut tail read.act read.bytes) → IfOk r (λ read. LineAsks n line read.act read.bytes)
put_line n line tail (Ok read) is put = put_asks n line tail read.act read.bytes is put
put_line n line tail (Err fault) is put = tt

pub put_fits : (n : ℕ) (tail : List ℕ) (r : Result Line LineFault) → IfOk r (λ read. IsPut tail read.act read.bytes)
    → IfOk r (λ read. FitsWidth n read.act)
put_fits n tail (Ok read) put = subst (FitsWidth n) (sym put.act_is) tt
put_fits n tail (Err fault) put = tt

refuses : (n : ℕ) (line tail : List ℕ) (f : LineFault) → line ≡ codes "put " ++ tail → RefusesPut tail f → RefusesLine n line f
refuses n line tail Outside is none = record { none = λ a bytes asks. none.none a bytes (asks_put_of n line tail a bytes is asks) }
refuses n line tail Memory is none = tt

pub put_refuses : (n : ℕ) (line tail : List ℕ) (r : Result Line LineFault) → line ≡ codes "put " ++ tail
    → IfErr r (RefusesPut tail) → IfErr r (RefusesLine n line)
put_refuses n line tail (Ok read) is fault = tt
put_refuses n line tail (Err f) is fault = refuses n line tail f is fault
