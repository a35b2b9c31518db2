-- Rounds of writes that keep a property of contents, and which clouds they blame.
use Rattle.std.proofs.Common.{◌≡◌, ◌<◌, ◌∷◌, ℕ, true, List, [], All, length, get_or, Result, Ok, Err, sym, ap, ◌∙◌, subst, arith}
use Rattle.std.proofs.lemmas.List.{length-map, get_or-map}
use Rattle.nc_cloud.specs.declared.fleet.Job.{Job}
use Rattle.nc_cloud.specs.declared.deciding.RoundFault.{RoundFault}
use Rattle.nc_cloud.specs.declared.deciding.RoundFault.TheVariants as round
use Rattle.nc_cloud.specs.declared.fleet.Fleet.{Ghosts as FleetGhosts}
use Rattle.nc_cloud.specs.Contents.{Contents, Write}
use Rattle.nc_cloud.specs.Deciding.{Wrote}
use Rattle.nc_cloud.specs.Fleet.{write, writes}
use Rattle.nc_cloud.specs.Images.{Image}
use Rattle.nc_cloud.specs.Stopping.{Keeps}
use Rattle.nc_cloud.proofs.Time.{keeps_by, keeps_none, keeps_then}
use Rattle.nc_state.specs.Clouds.{Clouds}
use Rattle.nc_write.specs.InTurn.{AfterRound, WroteInTurn}
use Rattle.nc_write.proofs.InTurnLaws.{one_round}

-- each image of each round keeps it
abbrev pub AllKeep : (Contents → Type 0) → List (List Write) → Type 0
AllKeep Q [] = Unit {0}
AllKeep Q (ps ∷ rounds) = ((H G : Contents) → Q H → Image ps H G → Q G) × AllKeep Q rounds

-- all entries of all rounds are of clouds of P
abbrev pub AllAmong : Clouds → List (List Write) → Type 0
AllAmong P [] = Unit {0}
AllAmong P (ps ∷ rounds) = All (λ p. P p.cloud ≡ true) ps × AllAmong P rounds

module _ {A : Type 0} (F : FleetGhosts A) where
  keeps_first : (Q : Contents → Type 0) {old mid new : A} (rest : Type 0) (result answer : Result (Unit {0}) RoundFault) → Keeps F old mid Q → AfterRound answer rest mid new result → (rest → Keeps F mid new Q) → Keeps F old new Q
  keeps_first Q rest result (Ok done) first after rests = keeps_then first (rests after)
  keeps_first Q {old} rest result (Err fault) first after rests = subst (λ (e : A). Keeps F old e Q) (sym after.0) first

  pub turn_keeps : (Q : Contents → Type 0) → F.tells → (rounds : List (List Write)) (old new : A) (result : Result (Unit {0}) RoundFault) → AllKeep Q rounds → Q (F.held old) → WroteInTurn F rounds old new result → Keeps F old new Q
  turn_keeps Q told [] old new result each q turn = subst (λ (e : A). Keeps F old e Q) (sym turn.0) (keeps_none old Q q)
  turn_keeps Q told (ps ∷ rounds) old new result each q turn =
      let first : Keeps F old turn.mid Q = keeps_by Q (turn.wrote.keeps told) (λ G image. each.0 (F.held old) G q image) in
      keeps_first Q (WroteInTurn F rounds turn.mid new result) result turn.answer first turn.then (λ rest. turn_keeps Q told rounds turn.mid new result each.1 first.here rest)

  -- ---- which cloud failed

  some_job : (xs : List Job) (k : ℕ) → k < length xs → Job
  some_job [] k l = absurd (omega (arith, l))
  some_job (a ∷ xs) k l = a

  round_blames : (P : Clouds) (ps : List Write) (ended : List Job) (old mid : A) (c : ℕ) → All (λ p. P p.cloud ≡ true) ps → Wrote F ps ended old mid (Err (round.Cloud c)) → P c ≡ true
  round_blames P ps ended old mid c all wrote =
      let least = wrote.decides.err in
      let d : Job = some_job ended least.at least.within in
      let low : least.at < length ps = let long : length (writes ended) ≡ length ps = ap length wrote.entries in omega (arith, long, length-map ended write, least.within) in
      let there : get_or ps least.at (write d) ≡ write (get_or ended least.at d) = ap (λ xs. get_or xs least.at (write d)) (sym wrote.entries) ∙ get_or-map write ended least.at d (write d) least.within in
      ap P (least.here d).1 ∙ subst (λ (p : Write). P p.cloud ≡ true) there (all least.at (write d) low)

  blames_first : (P : Clouds) (ps : List Write) (ended : List Job) (old mid new : A) (c : ℕ) (rest : Type 0) (answer : Result (Unit {0}) RoundFault) → All (λ p. P p.cloud ≡ true) ps → Wrote F ps ended old mid answer
      → AfterRound answer rest mid new (Err (round.Cloud c)) → (rest → P c ≡ true) → P c ≡ true
  blames_first P ps ended old mid new c rest (Ok done) all wrote after rests = rests after
  blames_first P ps ended old mid new c rest (Err why) all wrote after rests =
      let same : Err (round.Cloud c) ≡ Err why = after.1 in
      round_blames P ps ended old mid c all (subst (λ (r : Result (Unit {0}) RoundFault). Wrote F ps ended old mid r) (sym same) wrote)

  pub turn_blames : (P : Clouds) (rounds : List (List Write)) (old new : A) (c : ℕ) → AllAmong P rounds → WroteInTurn F rounds old new (Err (round.Cloud c)) → P c ≡ true
  turn_blames P [] old new c all turn = let no : Err (round.Cloud c) ≡ Ok tt = turn.1 in absurd cc
  turn_blames P (ps ∷ rounds) old new c all turn =
      blames_first P ps turn.ended old turn.mid new c (WroteInTurn F rounds turn.mid new (Err (round.Cloud c))) turn.answer all.0 turn.wrote turn.then (λ rest. turn_blames P rounds turn.mid new c all.1 rest)

  -- ---- two rounds that were both Ok

  pub record BothWrote (ps qs : List Write) (old new : A) : Type 0 where
    pub mid : A
    pub ended_0 : List Job
    pub ended_1 : List Job
    pub first : Wrote F ps ended_0 old mid (Ok tt)
    pub second : Wrote F qs ended_1 mid new (Ok tt)

  both_after : (ps qs : List Write) (ended : List Job) (old mid new : A) (answer : Result (Unit {0}) RoundFault) → Wrote F ps ended old mid answer → AfterRound answer (WroteInTurn F (qs ∷ []) mid new (Ok tt)) mid new (Ok tt) → BothWrote ps qs old new
  both_after ps qs ended old mid new (Ok done) wrote after = let last = one_round qs mid new (Ok tt) after in record { mid = mid; ended_0 = ended; ended_1 = last.0; first = wrote; second = last.1 }
  both_after ps qs ended old mid new (Err why) wrote after = let no : Ok tt ≡ Err why = after.1 in absurd cc

  pub both_wrote : (ps qs : List Write) (old new : A) → WroteInTurn F (ps ∷ qs ∷ []) old new (Ok tt) → BothWrote ps qs old new
  both_wrote ps qs old new turn = both_after ps qs turn.ended old turn.mid new turn.answer turn.wrote turn.then
