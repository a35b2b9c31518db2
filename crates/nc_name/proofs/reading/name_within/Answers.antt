use Rattle.std.proofs.Common.{arith, ◌≡◌, ◌*◌, ◌/◌, ap, ◌∙◌, length, take, Some}
use Rattle.hex.specs.Hex.{lower_digits}
use Rattle.hex.proofs.HexLemmas.{length-encode_with}
use Rattle.nc_name.proofs.KeyTexts.{length_within, middle}
use Rattle.nc_name.proofs.reading.name_within.Goals as goal

pub returns-then-text-end-clause-is : goal.returns-then-text-end-clause-is
returns-then-text-end-clause-is c = λ front name back f b is e. absurd (omega (arith, length_within _ front name back e))

pub returns-then-digits-gt200-clause-is : goal.returns-then-digits-gt200-clause-is
returns-then-digits-gt200-clause-is c = λ front name back f b is e.
    let digits = c.part_of-digits.ensures ∙ middle _ front _ back _ f b e in
    absurd (omega (arith, ap length digits, length-encode_with lower_digits name))

pub returns-clause-is : goal.returns-clause-is
returns-clause-is c = λ front name back f b is e.
    let digits = c.part_of-digits.ensures ∙ middle _ front _ back _ f b e in
    let twice : length c.part_of-digits.result.now ≡ 2 * length name = ap length digits ∙ length-encode_with lower_digits name in
    let count : length c.part_of-digits.result.now / 2 ≡ length name = omega arith in
    let same = c.part_of.ensures ∙ ap (λ n. take n c.decoded-bytes.result) count ∙ c.decoded-bytes.ensures name is.are_bytes digits in
    c.name_of.ensures.is (rw same is) ∙ ap Some same
