-- What `clap` reads in words without options, and in words after `--`.
use Rattle.std.proofs.Common.{◌≡◌, ◌∙◌, ◌<◌, ◌≤◌, ◌^◌, ◌==◌, ◌&&◌, ◌||◌, ℕ, Bool, true, false, true≢false, not, List, [], ◌∷◌, ◌++◌, Option, Some, None, Ok, is_some, codes, length, nat_lt, arith, ap, refl, subst, sym, append-nil, append_assoc, le-ltb, if◌then◌else◌}
use Rattle.std.specs.List.{fold, list_all}
use Rattle.std.specs.Option.{option_map_or}
use Rattle.std.specs.Prelude.{option_and_then, replicate, unwrap_or}
use Rattle.std.specs.Str.{bytes_eq}
use Rattle.clap.specs.Faults.{bundle_fault, check_fault, defaults_fault, entered_fault, flag_word_fault, other_fault, settle_fault, step_fault, turn_fault, values_fault, walk_fault}
use Rattle.clap.specs.Kinds.{Kinds, or_else, range_kinds}
use Rattle.clap.specs.Lexer.{long_of, long_of_rest, short_of, short_of_rest, strip_byte, usize_max}
use Rattle.clap.specs.Simple.{Shape, built, entered, new_rule}
use Rattle.clap.specs.Walk.{Held, Row, Rule, Step, Waiting, Walk, after_step, arg_by_id, finished, first_of, idle, long_or_other, nothing_held, plain_word, positional, settled, settled_rows, short_or_plain, subcommand_or_other, trailing, walk, walk_from, walked}
use Rattle.clap.specs.declared.error.kind.ErrorKind.TheVariants as kind
use Rattle.hex.proofs.OnLiterals.{hex_on_literals}
use Rattle.hex.specs.Hex.{decode_of}
use Rattle.nc_words.specs.CommandLine.{nccloud}
use Rattle.nc_words.specs.Matched.{faults, matched}
use Rattle.nc_words.specs.Numbers.{IsNumber}
use Rattle.nc_words.specs.Options.{Chooses, GivesSeed}
use Rattle.nc_words.specs.Plain.{DashesMeanThemselves, MeanArguments, PlainMeanThemselves, is_plain}
use Rattle.nc_words.specs.Settings.{standard}
use Rattle.nc_words.specs.Words.{arguments_in}

abbrev shape : Shape
shape = (built nccloud).top

abbrev rules : List Rule
rules = shape.rules

-- ---- where the walk stands

-- after the command's word; t: after `--` too
abbrev at_first : Bool → List ℕ → Walk
at_first t command = record {
  held = record { rows = []; pending = Some (codes "command", command ∷ []); skip = 0 };
  waiting = idle;
  position = 2;
  is_trailing = t;
  stopped = None;
}

-- what is held of the command's word
abbrev first_rows : List ℕ → List Row
first_rows command = settled_rows rules (Some (codes "command", command ∷ [])) []

-- after these further words
abbrev gathering : Bool → List ℕ → List (List ℕ) → Walk
gathering t command vs = record {
  held = record { rows = first_rows command; pending = Some (codes "rest", vs); skip = 0 };
  waiting = positional;
  position = 2;
  is_trailing = t;
  stopped = None;
}

abbrev end_of : Bool → List ℕ → List (List ℕ) → Walk
end_of t command [] = at_first t command
end_of t command (w ∷ ws) = gathering t command (w ∷ ws)

-- ---- one word

both : (a b : Bool) → (a && b) ≡ true → (a ≡ true) × (b ≡ true)
both true b e = (refl, e)
both false b e = absurd (true≢false (sym e))

plain_by : (xs : List ℕ) (b : Bool) → not (is_some (if b then Some xs else None)) ≡ true → b ≡ false
plain_by xs true e = absurd (true≢false (sym e))
plain_by xs false e = refl

-- the word is no option and isn't `--`
record IsOther (word : List ℕ) : Type 0 where
  pub dashes : bytes_eq word (45 ∷ 45 ∷ []) ≡ false
  pub long : long_of word ≡ None
  pub short : short_of word ≡ None

other : (word : List ℕ) → is_plain word ≡ true → IsOther word
other [] plain = record { dashes = refl; long = refl; short = refl }
other (x ∷ xs) plain =
    let not_dash : (x == 45) ≡ false = plain_by xs (x == 45) plain in
    record {
      dashes = ap (λ (b : Bool). b && bytes_eq xs (45 ∷ [])) not_dash;
      long = ap (λ (b : Bool). option_and_then long_of_rest (option_and_then (strip_byte 45) (if b then Some xs else None))) not_dash;
      short = ap (λ (b : Bool). option_and_then short_of_rest (if b then Some xs else None)) not_dash;
    }

abbrev met : Waiting → ℕ → List ℕ → Held → Held × Step
met waiting position word h = subcommand_or_other rules None waiting position word h

-- it is a value
value_met : (waiting : Waiting) (position : ℕ) (word : List ℕ) (h : Held) → IsOther word
    → met waiting position word h ≡ plain_word rules waiting word h
value_met waiting position word h o =
    ap (λ (d : Bool). if d then (h, trailing position) else long_or_other rules waiting word (long_of word) h) o.dashes
    ∙ ap (λ (l : Option (List ℕ × Option (List ℕ))). long_or_other rules waiting word l h) o.long
    ∙ ap (λ (s : Option (List ℕ)). short_or_plain rules waiting word s h) o.short

flags_none : (word : List ℕ) (h : Held) → IsOther word → other_fault shape None word h ≡ []
flags_none word h o =
    ap (λ (d : Bool). if d then [] else flag_word_fault rules shape.args_override_self (long_of word) word h) o.dashes
    ∙ ap (λ (l : Option (List ℕ × Option (List ℕ))). flag_word_fault rules shape.args_override_self l word h) o.long
    ∙ ap (λ (s : Option (List ℕ)). option_map_or (λ flags. bundle_fault rules shape.args_override_self flags h) s []) o.short

turn_by : (waiting : Waiting) (position : ℕ) (word : List ℕ) (h : Held) → IsOther word
    → step_fault shape position (plain_word rules waiting word h).0 (plain_word rules waiting word h).1 ≡ []
    → or_else (other_fault shape None word h) (step_fault shape position (met waiting position word h).0 (met waiting position word h).1) ≡ []
turn_by waiting position word h o ends =
    ap (λ (k : Kinds). or_else k (step_fault shape position (met waiting position word h).0 (met waiting position word h).1)) (flags_none word h o)
    ∙ ap (λ (m : Held × Step). step_fault shape position m.0 m.1) (value_met waiting position word h o) ∙ ends

first_step : (command : List ℕ) → is_plain command ≡ true → walked rules [] (walk_from nothing_held) command ≡ at_first false command
unfolding walked
first_step command plain =
    ap (λ (m : Held × Step). after_step rules command (walk_from nothing_held) m.0 m.1) (value_met idle 1 command nothing_held (other command plain))

first_turn : (command : List ℕ) → is_plain command ≡ true → turn_fault shape [] (walk_from nothing_held) command ≡ []
first_turn command plain = turn_by idle 1 command nothing_held (other command plain) refl

dash_step : (command : List ℕ) → walked rules [] (at_first false command) (codes "--") ≡ at_first true command
unfolding walked
dash_step command = refl

dash_turn : (command : List ℕ) → turn_fault shape [] (at_first false command) (codes "--") ≡ []
dash_turn command = refl

second_step : (t : Bool) (command word : List ℕ) → (t || is_plain word) ≡ true → walked rules [] (at_first t command) word ≡ gathering t command (word ∷ [])
unfolding walked
second_step true command word plain = refl
second_step false command word plain =
    ap (λ (m : Held × Step). after_step rules word (at_first false command) m.0 m.1) (value_met idle 2 word (at_first false command).held (other word plain))

second_turn : (t : Bool) (command word : List ℕ) → (t || is_plain word) ≡ true → turn_fault shape [] (at_first t command) word ≡ []
second_turn true command word plain = refl
second_turn false command word plain = turn_by idle 2 word (at_first false command).held (other word plain) refl

more_step : (t : Bool) (command : List ℕ) (vs : List (List ℕ)) (word : List ℕ) → (t || is_plain word) ≡ true
    → walked rules [] (gathering t command vs) word ≡ gathering t command (vs ++ word ∷ [])
unfolding walked
more_step true command vs word plain = refl
more_step false command vs word plain =
    ap (λ (m : Held × Step). after_step rules word (gathering false command vs) m.0 m.1)
    (value_met positional 2 word (gathering false command vs).held (other word plain))

more_turn : (t : Bool) (command : List ℕ) (vs : List (List ℕ)) (word : List ℕ) → (t || is_plain word) ≡ true
    → turn_fault shape [] (gathering t command vs) word ≡ []
more_turn true command vs word plain = refl
more_turn false command vs word plain = turn_by positional 2 word (gathering false command vs).held (other word plain) refl

-- ---- all words

abbrev passes : Bool → List (List ℕ) → Bool
passes t words = list_all (λ word. t || is_plain word) words

any_pass : (words : List (List ℕ)) → passes true words ≡ true
any_pass [] = refl
any_pass (w ∷ ws) = any_pass ws

gathered : (t : Bool) (command : List ℕ) (vs words : List (List ℕ)) → passes t words ≡ true
    → fold (walked rules []) (gathering t command vs) words ≡ gathering t command (vs ++ words)
gathered t command vs [] all = ap (gathering t command) (sym (append-nil vs))
gathered t command vs (w ∷ ws) all =
    let each = both (t || is_plain w) (passes t ws) all in
    ap (λ (s : Walk). fold (walked rules []) s ws) (more_step t command vs w each.0)
    ∙ gathered t command (vs ++ w ∷ []) ws each.1 ∙ ap (gathering t command) (append_assoc vs (w ∷ []) ws)

after_first : (t : Bool) (command : List ℕ) (words : List (List ℕ)) → passes t words ≡ true
    → fold (walked rules []) (at_first t command) words ≡ end_of t command words
after_first t command [] all = refl
after_first t command (w ∷ ws) all =
    let each = both (t || is_plain w) (passes t ws) all in
    ap (λ (s : Walk). fold (walked rules []) s ws) (second_step t command w each.0) ∙ gathered t command (w ∷ []) ws each.1

one_more : (start after : Walk) (word : List ℕ) (words : List (List ℕ)) → turn_fault shape [] start word ≡ []
    → walked rules [] start word ≡ after → walk_fault shape [] after words ≡ [] → walk_fault shape [] start (word ∷ words) ≡ []
unfolding walk_fault
one_more start after word words turn step rest =
    ap (λ (k : Kinds). or_else k (walk_fault shape [] (walked rules [] start word) words)) turn
    ∙ ap (λ (s : Walk). walk_fault shape [] s words) step ∙ rest

no_words : (start : Walk) → walk_fault shape [] start [] ≡ []
unfolding walk_fault
no_words start = refl

gathering_fault : (t : Bool) (command : List ℕ) (vs words : List (List ℕ)) → passes t words ≡ true
    → walk_fault shape [] (gathering t command vs) words ≡ []
gathering_fault t command vs [] all = no_words (gathering t command vs)
gathering_fault t command vs (w ∷ ws) all =
    let each = both (t || is_plain w) (passes t ws) all in
    one_more (gathering t command vs) (gathering t command (vs ++ w ∷ [])) w ws (more_turn t command vs w each.0) (more_step t command vs w each.0)
    (gathering_fault t command (vs ++ w ∷ []) ws each.1)

fault_after : (t : Bool) (command : List ℕ) (words : List (List ℕ)) → passes t words ≡ true → walk_fault shape [] (at_first t command) words ≡ []
fault_after t command [] all = no_words (at_first t command)
fault_after t command (w ∷ ws) all =
    let each = both (t || is_plain w) (passes t ws) all in
    one_more (at_first t command) (gathering t command (w ∷ [])) w ws (second_turn t command w each.0) (second_step t command w each.0)
    (gathering_fault t command (w ∷ []) ws each.1)

-- ---- after the words

abbrev end_fault : Walk → Kinds
end_fault s = or_else (entered_fault (built nccloud) s.stopped) (or_else (settle_fault rules shape.args_override_self s.held)
    (or_else (defaults_fault (settled rules s.held).rows rules) (check_fault shape (finished rules s.held) (is_some (entered (built nccloud) s.stopped)))))

first_end : (t : Bool) (command : List ℕ) → end_fault (at_first t command) ≡ []
unfolding defaults_fault
first_end t command = refl

abbrev rest_rule : Rule
rest_rule = unwrap_or (arg_by_id rules (codes "rest")) (new_rule [])

rest_values : (vs : List (List ℕ)) → values_fault rest_rule vs ≡ []
rest_values [] = refl
rest_values (v ∷ vs) = rest_values vs

range_fine : (n : ℕ) → n ≤ usize_max → range_kinds 0 usize_max n ≡ []
range_fine n few =
    let low : nat_lt n 0 ≡ false = le-ltb n 0 (omega arith) in
    let most : nat_lt usize_max n ≡ false = le-ltb usize_max n few in
    ap (λ (b : Bool). if b then kind.TooFewValues ∷ [] else (if nat_lt usize_max n then kind.TooManyValues ∷ [] else [])) low
    ∙ ap (λ (b : Bool). if b then kind.TooManyValues ∷ [] else []) most

settle_end : (t : Bool) (command w : List ℕ) (ws : List (List ℕ)) → length (w ∷ ws) ≤ usize_max
    → settle_fault rules shape.args_override_self (gathering t command (w ∷ ws)).held ≡ []
settle_end t command w ws few =
    ap (λ (k : Kinds). or_else k (values_fault rest_rule (w ∷ ws))) (range_fine (length (w ∷ ws)) few) ∙ rest_values (w ∷ ws)

later_end : (t : Bool) (command w : List ℕ) (ws : List (List ℕ))
    → or_else (defaults_fault (settled rules (gathering t command (w ∷ ws)).held).rows rules)
    (check_fault shape (finished rules (gathering t command (w ∷ ws)).held) false) ≡ []
unfolding defaults_fault
later_end t command w ws = refl

more_end : (t : Bool) (command w : List ℕ) (ws : List (List ℕ)) → length (w ∷ ws) ≤ usize_max → end_fault (gathering t command (w ∷ ws)) ≡ []
more_end t command w ws few =
    ap (λ (k : Kinds). or_else k (or_else (defaults_fault (settled rules (gathering t command (w ∷ ws)).held).rows rules)
    (check_fault shape (finished rules (gathering t command (w ∷ ws)).held) false))) (settle_end t command w ws few) ∙ later_end t command w ws

end_passes : (t : Bool) (command : List ℕ) (rest : List (List ℕ)) → length rest < 2 ^ 64 → end_fault (end_of t command rest) ≡ []
end_passes t command [] few = first_end t command
end_passes t command (w ∷ ws) few = more_end t command w ws (omega (arith, few))

-- ---- what is given

end_arguments : (t : Bool) (command : List ℕ) (rest : List (List ℕ)) → arguments_in (finished rules (end_of t command rest).held) ≡ command ∷ rest
end_arguments t command [] = refl
end_arguments t command (w ∷ ws) = refl

zeros : decode_of (codes "0000000000000000000000000000000000000000000000000000000000000000") ≡ Ok (replicate 32 0)
unfolding hex_on_literals
zeros = refl

standard_seed : (rows : List Row) → first_of (codes "seed") rows ≡ Some (codes "0000000000000000000000000000000000000000000000000000000000000000")
    → GivesSeed rows standard.seed
standard_seed rows given = record { text = _; given = given; is_seed = record { long = refl; digits = zeros } }

sixty_four : IsNumber (codes "64") 64
sixty_four = record { some = omega arith; few = omega arith; digits = (omega arith, (omega arith, tt)); value_is = refl }

one : IsNumber (codes "1") 1
one = record { some = omega arith; few = omega arith; digits = (omega arith, tt); value_is = refl }

standard_chosen : (rows : List Row)
    → first_of (codes "seed") rows ≡ Some (codes "0000000000000000000000000000000000000000000000000000000000000000")
    → first_of (codes "budget") rows ≡ Some (codes "64") → first_of (codes "workers") rows ≡ Some (codes "1") → Chooses rows standard
standard_chosen rows seed budget workers = record {
  seed = standard_seed rows seed;
  budget = record { text = codes "64"; given = budget; in_range = record { number = sixty_four; least = omega arith; most = omega arith } };
  workers = record { text = codes "1"; given = workers; in_range = record { number = one; least = omega arith; most = omega arith } };
}

end_setting : (t : Bool) (command : List ℕ) (rest : List (List ℕ)) → Chooses (finished rules (end_of t command rest).held) standard
end_setting t command [] = standard_chosen (finished rules (at_first t command).held) refl refl refl
end_setting t command (w ∷ ws) = standard_chosen (finished rules (gathering t command (w ∷ ws)).held) refl refl refl

matched_at : (words : List (List ℕ)) (end : Walk) → walk rules [] nothing_held words ≡ end → matched words ≡ finished rules end.held
unfolding matched
matched_at words end is = ap (λ (s : Walk). finished rules s.held) is

faults_at : (words : List (List ℕ)) (end : Walk) → walk rules [] nothing_held words ≡ end → walk_fault shape [] (walk_from nothing_held) words ≡ []
    → end_fault end ≡ [] → faults words ≡ []
unfolding faults
faults_at words end is none ends =
    ap (λ (k : Kinds). or_else k (end_fault (walk rules [] nothing_held words))) none ∙ ap end_fault is ∙ ends

meant : (t : Bool) (command : List ℕ) (rest words : List (List ℕ)) → length rest < 2 ^ 64
    → walk rules [] nothing_held words ≡ end_of t command rest → walk_fault shape [] (walk_from nothing_held) words ≡ []
    → MeanArguments words (command ∷ rest)
meant t command rest words few is none =
    let rows : matched words ≡ finished rules (end_of t command rest).held = matched_at words (end_of t command rest) is in
    record {
      taken = record { no_fault = faults_at words (end_of t command rest) is none (end_passes t command rest few) };
      arguments_are = ap arguments_in rows ∙ end_arguments t command rest;
      setting = subst (λ (given : List Row). Chooses given standard) (sym rows) (end_setting t command rest);
    }

pub plain_themselves : PlainMeanThemselves
plain_themselves command rest plain all few =
    meant false command rest (command ∷ rest) few
    (ap (λ (s : Walk). fold (walked rules []) s rest) (first_step command plain) ∙ after_first false command rest all)
    (one_more (walk_from nothing_held) (at_first false command) command rest (first_turn command plain) (first_step command plain) (fault_after false command rest all))

dashed_walk : (command : List ℕ) (rest : List (List ℕ)) → is_plain command ≡ true
    → walk rules [] nothing_held (command ∷ codes "--" ∷ rest) ≡ end_of true command rest
dashed_walk command rest plain =
    ap (λ (s : Walk). fold (walked rules []) s (codes "--" ∷ rest)) (first_step command plain)
    ∙ ap (λ (s : Walk). fold (walked rules []) s rest) (dash_step command) ∙ after_first true command rest (any_pass rest)

pub dashes_themselves : DashesMeanThemselves
dashes_themselves command rest plain few =
    meant true command rest (command ∷ codes "--" ∷ rest) few (dashed_walk command rest plain)
    (one_more (walk_from nothing_held) (at_first false command) command (codes "--" ∷ rest) (first_turn command plain) (first_step command plain)
    (one_more (at_first false command) (at_first true command) (codes "--") rest (dash_turn command) (dash_step command)
    (fault_after true command rest (any_pass rest))))
