-- How a name stands in its fixed array.
use Rattle.std.proofs.Common.{arith, sym}
use Rattle.std.proofs.lemmas.Grind.{common_steps}
use Rattle.std.specs.Prelude.{ℕ, ◌≡◌, ◌≤◌, ◌-◌, List, ◌++◌, length, take, replicate}
use Rattle.nc_name.specs.declared.name.Name.TheInside.{Inside}
use Rattle.nc_name.specs.Names.{IsName}

-- the name's bytes, and zeros after them
pub record IsStored (a : Inside) : Type 0 where
  pub whole : length a.bytes ≡ 100
  pub fits : a.len ≤ 100
  pub padded : a.bytes ≡ take a.len a.bytes ++ replicate (100 - a.len) 0
  pub name : IsName (take a.len a.bytes)

abbrev pub fields_of : List ℕ → Inside
fields_of xs = record { bytes = xs ++ replicate (100 - length xs) 0; len = length xs }

len_is : (a : Inside) → IsStored a → length (take a.len a.bytes) ≡ a.len
len_is a s = let fits : a.len ≤ length a.bytes = rw s.whole s.fits in grind (arith, common_steps)

pub fields_back : (a : Inside) → IsStored a → fields_of (take a.len a.bytes) ≡ a
fields_back a s =
    let same : take a.len a.bytes ++ replicate (100 - length (take a.len a.bytes)) 0 ≡ a.bytes = rw len_is (sym s.padded) in
    λ i. record { bytes = same i; len = len_is a s i }
