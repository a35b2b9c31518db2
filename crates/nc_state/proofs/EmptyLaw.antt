-- Clouds without objects.
use Rattle.std.proofs.Common.{◌≡◌, ℕ, zero, suc, List, refl, arith}
use Rattle.nc_name.specs.declared.key.Key.{Key}
use Rattle.nc_name.specs.declared.key.Key.TheVariants as key
use Rattle.nc_state.specs.Right.{HasChunkAt}
use Rattle.nc_state.specs.Versions.Version.{Never}
use Rattle.nc_state.specs.Clouds.{count_of, no_cloud}
use Rattle.nc_state.specs.Laws.{EmptyStands}

count_none : (n : ℕ) → count_of n no_cloud ≡ 0
count_none zero = refl
count_none (suc n) = omega (arith, count_none n)

names_never : (name : List ℕ) (c : ℕ) (place : Key) → HasChunkAt name Never c place → ⊥
names_never name c (key.Meta other slot) names = names
names_never name c (key.Chunk other slot row) names = names

pub empty_stands : EmptyStands
empty_stands n wide narrow = record {
  wide = wide;
  narrow = narrow;
  few = omega (arith, count_none n);
  entries = λ name is. record {
    none_above = λ c m l h. absurd (let e = h.stands in cc);
    one_meta = λ c m l h e. absurd (let f = h.stands in cc);
    held = λ c l out. tt;
    valid = tt;
    places = record { sound = λ c place bytes l names is. absurd cc; right = λ c place l out names. absurd (names_never name c place names) };
  };
  metas = λ c slot name bytes l is whole. absurd cc;
  objects = λ c place bytes l is. absurd cc;
}
