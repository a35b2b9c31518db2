-- How the text of a key stands in its fixed array.
use Rattle.std.specs.Prelude.{◌≡◌, ◌≤◌, length, take}
use Rattle.std.specs.Str.{IsAscii}
use Rattle.nc_name.specs.declared.text.KeyText.TheInside.{Inside}

-- text of ASCII, which fits
pub record IsText (a : Inside) : Type 0 where
  pub whole : length a.bytes ≡ 206
  pub fits : a.len ≤ 206
  pub ascii : IsAscii (take a.len a.bytes)
