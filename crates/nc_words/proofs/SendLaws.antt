-- What is written in parts.
use Rattle.std.proofs.Common.{◌≡◌, ◌++◌, ◌<◌, ◌≤◌, ◌+◌, ◌∙◌, Option, List, [], ◌∷◌, ℕ, Ok, Err, length, take, drop, IsErr, map, get_or, refl, sym, ap, subst, arith, append_assoc, append-nil, Result}
use Rattle.std.proofs.KnownBytes.{Appends-trans, Appends-nil}
use Rattle.std.specs.Io.KnownBytes.{Appends}
use Rattle.std.specs.List.{concat}
use Rattle.std.proofs.lemmas.List.{map-append, take-append-drop, take_all, take_more}
use Rattle.std.proofs.lemmas.List.Folds.{concat-append}
use Rattle.nc_stream.specs.Output.{AppendsSome}
use Rattle.nc_stream.specs.declared.sink.Sink.{Ghosts as SinkGhosts}
use Rattle.nc_words.specs.Sending.{Sends}

-- nothing is a beginning of everything
some_none : (a : Option (List ℕ)) (bytes : List ℕ) → AppendsSome a a bytes
some_none a bytes = record { front = []; rest = bytes; parts = refl; appends = Appends-nil a }

-- a beginning of the first part is one of both
some_first : (a b : Option (List ℕ)) (x y : List ℕ) → AppendsSome a b x → AppendsSome a b (x ++ y)
some_first a b x y s = record {
  front = s.front;
  rest = s.rest ++ y;
  parts = sym (append_assoc s.front s.rest y) ∙ ap (λ (l : List ℕ). l ++ y) s.parts;
  appends = s.appends;
}

-- and so is a beginning of the second after the first
some_then : (a b c : Option (List ℕ)) (x y : List ℕ) → Appends a b x → AppendsSome b c y → AppendsSome a c (x ++ y)
some_then a b c x y first s = record {
  front = x ++ s.front;
  rest = s.rest;
  parts = append_assoc x s.front s.rest ∙ ap (λ (l : List ℕ). x ++ l) s.parts;
  appends = Appends-trans a b c x s.front first s.appends;
}

-- a part more
concat_next : {X : Type 0} (f : X → List ℕ) (xs : List X) (i : ℕ) (d : X) → i < length xs
    → concat (map f (take (i + 1) xs)) ≡ concat (map f (take i xs)) ++ f (get_or xs i d)
concat_next {X} f xs i d within =
    ap (λ (l : List X). concat (map f l)) (take_more xs i d within) ∙ ap concat (map-append f (take i xs) (get_or xs i d ∷ []))
    ∙ concat-append (map f (take i xs)) (f (get_or xs i d) ∷ [])
    ∙ ap (λ (l : List ℕ). concat (map f (take i xs)) ++ l) (append-nil (f (get_or xs i d)))

-- the parts so far and those that are left
concat_both : {X : Type 0} (f : X → List ℕ) (xs : List X) (i : ℕ) → concat (map f (take i xs)) ++ concat (map f (drop i xs)) ≡ concat (map f xs)
concat_both {X} f xs i =
    sym (concat-append (map f (take i xs)) (map f (drop i xs))) ∙ sym (ap concat (map-append f (take i xs) (drop i xs)))
    ∙ ap (λ (l : List X). concat (map f l)) (take-append-drop i xs)

module _ {B : Type 0} (K : SinkGhosts B) where
  -- all of it was written
  abbrev pub Sent : List ℕ → B → B → Type 0
  Sent bytes old new = Sends {T = Unit {0}} {E = Unit {0}} K bytes old new (Ok tt)

  -- nothing was written
  pub sends_none : {T E : Type 0} (start : B) (x : T) → Sends {T = T} {E = E} K [] start start (Ok x)
  sends_none start x = record {
    all = Appends-nil (K.written start);
    some = some_none (K.written start) [];
    counts = record { later = omega arith; failed = tt; same = λ exact. refl };
  }

  -- a part more
  pub sends_more : {T E S D : Type 0} (a b : List ℕ) (start mid end : B) (x : S) (result : Result T E)
      → Sends {T = S} {E = D} K a start mid (Ok x) → Sends K b mid end result → Sends K (a ++ b) start end result
  sends_more a b start mid end x (Ok y) first second = record {
    all = Appends-trans (K.written start) (K.written mid) (K.written end) a b first.all second.all;
    some = some_then (K.written start) (K.written mid) (K.written end) a b first.all second.some;
    counts = record {
      later = omega (arith, first.counts.later, second.counts.later);
      failed = tt;
      same = λ exact. second.counts.same exact ∙ first.counts.same exact;
    };
  }
  sends_more a b start mid end x (Err fault) first second = record {
    all = tt;
    some = some_then (K.written start) (K.written mid) (K.written end) a b first.all second.some;
    counts = record {
      later = omega (arith, first.counts.later, second.counts.later);
      failed = omega (arith, first.counts.later, second.counts.failed);
      same = λ exact. tt;
    };
  }

  -- what is answered beside makes no difference
  pub sent_as : {T E S D : Type 0} {bytes : List ℕ} {start end : B} {x : T} (y : S)
      → Sends {T = T} {E = E} K bytes start end (Ok x) → Sends {T = S} {E = D} K bytes start end (Ok y)
  sent_as y s = record { all = s.all; some = s.some; counts = record { later = s.counts.later; failed = tt; same = s.counts.same } }

  -- where a write failed, more isn't written
  pub sends_failed : {T S E D : Type 0} (a b : List ℕ) (start end : B) (fault : E) (told : D)
      → Sends {T = S} K a start end (Err fault) → Sends {T = T} K (a ++ b) start end (Err told)
  sends_failed a b start end fault told s = record {
    all = tt;
    some = some_first (K.written start) (K.written end) a b s.some;
    counts = record { later = s.counts.later; failed = s.counts.failed; same = λ exact. tt };
  }

  -- ---- the parts of a list, one after the other

  module _ {X : Type 0} (f : X → List ℕ) (xs : List X) (i : ℕ) (d : X) {part : List ℕ} (is : part ≡ f (get_or xs i d)) (within : i < length xs) where
    -- one part more
    grown : concat (map f (take i xs)) ++ part ≡ concat (map f (take (i + 1) xs))
    grown = ap (λ (l : List ℕ). concat (map f (take i xs)) ++ l) is ∙ sym (concat_next f xs i d within)

    pub next_part : {start mid end : B} {T E : Type 0} → Sent (concat (map f (take i xs))) start mid
        → (x : T) → Sends {T = T} {E = E} K part mid end (Ok x) → Sent (concat (map f (take (i + 1) xs))) start end
    next_part {start} {mid} {end} {T} {E} before x more =
        subst (λ (bytes : List ℕ). Sent bytes start end) grown
        (sent_as tt (sends_more (concat (map f (take i xs))) part start mid end tt (Ok x) before more))

    pub failed_part : {start mid end : B} {T S E D : Type 0} → Sent (concat (map f (take i xs))) start mid
        → (result : Result T D) → IsErr result → (fault : E) → Sends {T = S} K part mid end (Err fault) → Sends K (concat (map f xs)) start end result
    failed_part before (Ok x) failed fault more = absurd cc
    failed_part {start} {mid} {end} {T} {S} {E} {D} before (Err told) failed fault more =
        let first : List ℕ = concat (map f (take (i + 1) xs)) in
        let so_far : Sends {T = S} {E = E} K first start end (Err fault) =
        subst (λ (bytes : List ℕ). Sends {T = S} {E = E} K bytes start end (Err fault)) grown
        (sends_more (concat (map f (take i xs))) part start mid end tt (Err fault) before more) in
        subst (λ (bytes : List ℕ). Sends {T = T} {E = D} K bytes start end (Err told)) (concat_both f xs (i + 1))
        (sends_failed first (concat (map f (drop (i + 1) xs))) start end fault told so_far)

  -- no part is left
  pub all_parts : {X : Type 0} (f : X → List ℕ) (xs : List X) (i : ℕ) {start end : B} {T E : Type 0} (x : T) → length xs ≤ i
      → Sent (concat (map f (take i xs))) start end → Sends {T = T} {E = E} K (concat (map f xs)) start end (Ok x)
  all_parts {X} f xs i {start} {end} x over before =
      sent_as x (subst (λ (l : List X). Sent (concat (map f l)) start end) (take_all i xs over) before)
