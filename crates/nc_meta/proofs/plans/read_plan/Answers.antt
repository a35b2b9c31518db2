use Rattle.std.proofs.Common.{arith, ℕ, List, ◌≡◌, [], ◌∷◌, ◌∙◌, sym, ap, ap₂, subst}
use Rattle.nc_code.specs.Parts.{PlanParts, IsPlan}
use Rattle.nc_meta.specs.Parts.{spread}
use Rattle.nc_meta.specs.Metas.{SpellsPlan}
use Rattle.nc_meta.proofs.Padding.{below_within, spread_below}
use Rattle.nc_meta.proofs.PlanParts.{plan_read, spells_read}
use Rattle.nc_meta.proofs.plans.read_plan.Goals as goal

pub new-requires : goal.new-requires
new-requires c =
    let bits = below_within 2 _ (omega arith) (c.are_bits.ensures.0 c.if-not-are_bits.false) in
    rw c.spread.ensures (spread_below 2 _ _ (omega arith) bits)

pub returns-clause-some : goal.returns-clause-some
returns-clause-some c =
    let choice = c.spread.ensures ∙ ap (spread c.args.lost) c.part_of-choice.ensures in
    let first = c.spread-first.ensures ∙ ap (spread c.args.lost) c.part_of.ensures in
    let second = c.spread-second.ensures ∙ ap (spread c.args.lost) c.part_of-2.ensures in
    let coefs = ap₂ (λ (a b : List ℕ). a ∷ b ∷ []) first second in
    let same : c.new.result ≡ plan_read c.args.n c.args.lost c.args.bytes.now =
    c.new.ensures.parts ∙ ap₂ (λ (a : List ℕ) (b : List (List ℕ)). record { choice = a; coefs = b }) choice coefs in
    let P : PlanParts → Type 0 = SpellsPlan c.args.n c.args.lost c.args.bytes.now in
    subst P (sym same) (spells_read _ _ _ c.requires.lost c.requires.long (subst IsPlan same c.new.ensures.kept))
