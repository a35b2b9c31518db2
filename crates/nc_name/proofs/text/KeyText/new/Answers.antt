use Rattle.std.proofs.Common.{arith}
use Rattle.nc_name.proofs.TextParts.{three_parts, around_digits}
use Rattle.nc_name.proofs.text.KeyText.new.Goals as goal

pub invariant_of-result : goal.invariant_of-result
invariant_of-result c = record {
  whole = omega arith;
  fits = omega arith;
  ascii = rw (three_parts _ _ _ _ _ _ _ _ c.put.ensures c.put_hex.ensures c.put-2.ensures) (around_digits _ _ _ c.requires.letter c.requires.ascii);
}

pub returns : goal.returns
returns c = three_parts _ _ _ _ _ _ _ _ c.put.ensures c.put_hex.ensures c.put-2.ensures
