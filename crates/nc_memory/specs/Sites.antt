-- The order of sites.
use Rattle.std.specs.Prelude.{ℕ, List, ◌∷◌}
use Rattle.std.specs.Cmp.Lexicographic.{slice_cmp}
use Rattle.std.specs.declared.cmp.Ordering.{Ordering}
use Rattle.std.specs.Ordering.{nat_cmp, on}
use Rattle.nc_name.specs.declared.key.Key.{Key}
use Rattle.nc_name.specs.declared.key.Key.TheVariants.{Meta, Chunk}
use Rattle.nc_memory.specs.declared.site.Site.{Site}

-- numbers that tell a key
abbrev pub key_numbers : Key → List ℕ
key_numbers (Meta name slot) = 0 ∷ slot ∷ name
key_numbers (Chunk name slot row) = 1 ∷ slot ∷ row ∷ name

abbrev pub site_numbers : Site → List ℕ
site_numbers s = s.cloud ∷ key_numbers s.key

-- sites in the order of these numbers
abbrev pub site_cmp : Site → Site → Ordering
site_cmp = on site_numbers (slice_cmp nat_cmp)
