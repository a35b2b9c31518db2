-- What the record of a memory fleet says after a round.
use Rattle.std.proofs.Common.{◌≡◌, ◌≢◌, ℕ, zero, suc, ◌+◌, ◌<◌, ◌≤◌, Bool, true, false, ◌&&◌, Option, None, Some, List, [], ◌∷◌, ◌++◌, map, length, get_or, refl, sym, ap, ap₂, ◌∙◌, arith, All, nat_eq, if◌then◌else◌, inl, inr, ◌⊎◌, append-nil, nat_le}
use Rattle.std.proofs.lemmas.Bool.Decides.{leb_tells}
use Rattle.std.proofs.lemmas.Bool.{eq-eqb, eqb-true}
use Rattle.std.proofs.lemmas.Simd.{map-map}
use Rattle.std.proofs.lemmas.List.Elements.{All-map}
use Rattle.nc_name.specs.declared.key.Key.{Key}
use Rattle.nc_cloud.specs.declared.fleet.Ask.{Ask}
use Rattle.nc_cloud.specs.declared.fleet.Answer.{Answer}
use Rattle.nc_cloud.specs.declared.fleet.Answer.TheVariants.{Waiting, Bytes, Absent, Long, Failed, Memory}
use Rattle.nc_memory.specs.declared.record.Torn.{Torn}
use Rattle.nc_memory.specs.declared.record.Refusal.{Refusal}
use Rattle.nc_memory.specs.declared.record.Look.{Look}
use Rattle.nc_memory.specs.declared.record.Step.{Step}
use Rattle.nc_memory.specs.declared.record.Event.{Event}
use Rattle.nc_memory.specs.declared.record.Event.TheVariants.{Gets, Writes, Listed, Planted}
use Rattle.nc_cloud.proofs.Entries.{tally_none}
use Rattle.nc_cloud.proofs.Keys.{key_eq-Decides}
use Rattle.nc_cloud.specs.Contents.{key_eq, nothing}
use Rattle.nc_cloud.specs.Fleet.{asked, Answers, Shows, is_bytes, is_chunk, chunks_got, got_count}
use Rattle.nc_memory.specs.Record.{answer_of, answered_ask, answered_asks, contents_after, counted, numbered, over, refused_at, starved_ask, value, value_after}
use Rattle.nc_memory.specs.Memory.{gets_event, writes_event}
use Rattle.nc_memory.specs.Shelf.{after_steps}
use Rattle.nc_memory.proofs.Counting.{over-append}
use Rattle.nc_memory.proofs.Fates.{stays}
use Rattle.nc_memory.proofs.Numbered.{map-numbered}

-- ---- what is held

-- an event more
pub value-more : (es : List Event) (e : Event) (c : ℕ) (key : Key) (old : Option (List ℕ)) → value (es ++ e ∷ []) c key old ≡ value_after e c key (value es c key old)
value-more [] e c key old = refl
value-more (f ∷ es) e c key old = value-more es e c key (value_after f c key old)

-- gets change nothing
pub held_after_gets : (log : List Event) (looks : List Look) → contents_after (log ++ gets_event looks) nothing ≡ contents_after log nothing
held_after_gets log [] = ap (λ es. contents_after es nothing) (append-nil log)
held_after_gets log (look ∷ looks) = λ i c key. value-more log (Gets (look ∷ looks)) c key None i

-- nor does a list
pub held_after_list : (log : List Event) (cloud : ℕ) (failed : Bool) → contents_after (log ++ Listed cloud failed ∷ []) nothing ≡ contents_after log nothing
held_after_list log cloud failed = λ i c key. value-more log (Listed cloud failed) c key None i

-- writes change what their steps say
pub held_after_writes : (log : List Event) (steps : List Step) → contents_after (log ++ writes_event steps) nothing ≡ after_steps steps (contents_after log nothing)
held_after_writes log [] = ap (λ es. contents_after es nothing) (append-nil log)
held_after_writes log (step ∷ steps) = λ i c key. value-more log (Writes (step ∷ steps)) c key None i

-- ---- chunks that were given

pub got_more : (before more : ℕ) → counted (before + more) ≡ got_count (counted before) more
got_more before more = omega arith

pub and_none : (a b : Bool) → (a && (b && false)) ≡ false
and_none true true = refl
and_none true false = refl
and_none false b = refl

pub starved_given : (asks : List Ask) (c : ℕ) → chunks_got c (map starved_ask asks) ≡ 0
starved_given asks c =
    tally_none _ (map starved_ask asks)
    (All-map (λ a. (nat_eq a.cloud c && (is_chunk a.key && is_bytes a.answer)) ≡ false) starved_ask asks (λ k d l. and_none (nat_eq (get_or asks k d).cloud c) (is_chunk (get_or asks k d).key)))

-- ---- answers

pub all_numbered : {A B : Type 0} (P : B → Type 0) (g : ℕ → A → B) → ((k : ℕ) (x : A) → P (g k x)) → (n : ℕ) (xs : List A) → All P (numbered g n xs)
all_numbered P g each n [] k d l = absurd (omega arith)
all_numbered P g each n (x ∷ xs) zero d l = each (n + 1) x
all_numbered P g each n (x ∷ xs) (suc k) d l = all_numbered P g each (n + 1) xs k d (omega arith)

sized : (most : ℕ) (bytes : List ℕ) (b : Bool) → ((b ≡ true) × (length bytes ≤ most)) ⊎ ((b ≡ false) × (most < length bytes)) → Shows (if b then Bytes bytes else Long) most (Some bytes)
sized most bytes true (inl p) = (refl, p.1)
sized most bytes true (inr p) = cc
sized most bytes false (inl p) = cc
sized most bytes false (inr p) = (bytes, refl, p.1)

shows : (refused : Option Torn) (most : ℕ) (held : Option (List ℕ)) → Shows (answer_of refused most held) most held
shows (Some outcome) most held = tt
shows None most None = refl
shows None most (Some bytes) = sized most bytes (nat_le (length bytes) most) (leb_tells (length bytes) most)

shown_answered : (a : Answer) (most : ℕ) (held : Option (List ℕ)) → Shows a most held → a ≢ Waiting
shown_answered (Bytes bytes) most held s e = cc
shown_answered Absent most held s e = cc
shown_answered Long most held s e = cc
shown_answered Failed most held s e = cc
shown_answered Memory most held s e = cc
shown_answered Waiting most held s e = s

-- a round of gets that was served
module _ (refusals : List Refusal) (n : ℕ) (log : List Event) (asks : List Ask) where
  pub asked_same : map asked (answered_asks refusals n log asks) ≡ map asked asks
  asked_same = map-numbered (answered_ask refusals log) asked asked (λ k a. refl) n asks

  pub asks_told : All (λ a. Answers a (contents_after log nothing a.cloud a.key)) (answered_asks refusals n log asks)
  asks_told = all_numbered (λ x. Answers x (contents_after log nothing x.cloud x.key)) (answered_ask refusals log) (λ k a. shows (refused_at refusals k) a.most (value log a.cloud a.key None)) n asks

  pub asks_answered : All (λ a. a.answer ≢ Waiting) (answered_asks refusals n log asks)
  asks_answered = all_numbered (λ x. x.answer ≢ Waiting) (answered_ask refusals log) (λ k a. shown_answered _ _ _ (shows (refused_at refusals k) a.most (value log a.cloud a.key None))) n asks

-- ---- no memory

-- the entry that an ask was
no_answer : ℕ × Key × ℕ → Ask
no_answer p = record { cloud = p.0; key = p.1; most = p.2; answer = Memory }

pub starved_same : (xs ys : List Ask) → map asked xs ≡ map asked ys → map starved_ask xs ≡ map starved_ask ys
unfolding no_answer
starved_same xs ys e = sym (map-map no_answer asked xs) ∙ ap (map no_answer) e ∙ map-map no_answer asked ys

pub starved_asked : (asks : List Ask) → map asked (map starved_ask asks) ≡ map asked asks
starved_asked asks = map-map asked starved_ask asks

-- ---- one object changes

both : (a b : Bool) → (a && b) ≡ true → (a ≡ true → b ≡ true → ⊥) → ⊥
both true true e none = none refl refl
both true false e none = cc
both false b e none = cc

pub in_place : (cloud : ℕ) (key : Key) (old new : Option (List ℕ)) → (if nat_eq cloud cloud && key_eq key key then new else old) ≡ new
in_place cloud key old new = ap₂ (λ a b. if a && b then new else old) (eq-eqb cloud cloud refl) ((key_eq-Decides key key).1 refl)

pub elsewhere : (cloud : ℕ) (key : Key) (old new : Option (List ℕ)) (c : ℕ) (q : Key) → (c ≡ cloud → q ≢ key) → (if nat_eq cloud c && key_eq key q then new else old) ≡ old
elsewhere cloud key old new c q other =
    stays (nat_eq cloud c && key_eq key q) old new
    (λ e. both (nat_eq cloud c) (key_eq key q) e (λ x y. other (sym (eqb-true cloud c x)) (sym ((key_eq-Decides key q).0 y))))

module _ (log : List Event) (cloud : ℕ) (key : Key) (bytes : List ℕ) where
  pub planted_there : contents_after (log ++ Planted cloud key bytes ∷ []) nothing cloud key ≡ Some bytes
  planted_there = value-more log (Planted cloud key bytes) cloud key None ∙ in_place cloud key (value log cloud key None) (Some bytes)

  pub planted_others : (c : ℕ) (q : Key) → (c ≡ cloud → q ≢ key) → contents_after (log ++ Planted cloud key bytes ∷ []) nothing c q ≡ contents_after log nothing c q
  planted_others c q other = value-more log (Planted cloud key bytes) c q None ∙ elsewhere cloud key (value log c q None) (Some bytes) c q other

-- ---- what isn't counted

-- a count over a record, which stays at its end
abbrev pub count_over : (Event → ℕ → ℕ) → List Event → ℕ → ℕ
count_over count log c = counted (over count log c)

-- a count stays at an event that it passes over
pub uncounted : (count : Event → ℕ → ℕ) (old : List Event) {new : List Event} (e : Event) → ((c : ℕ) → count e c ≡ 0) → new ≡ old ++ e ∷ [] → count_over count new ≡ count_over count old
uncounted count old {new} e none is = λ i c. counted (passed c i)
  where
    passed : (c : ℕ) → over count new c ≡ over count old c
    passed c =
        let same : over count new c ≡ over count (old ++ e ∷ []) c = ap (λ es. over count es c) is in
        let more : over count (old ++ e ∷ []) c ≡ over count old c + over count (e ∷ []) c = over-append count old (e ∷ []) c in
        omega (arith, same, more, none c)
