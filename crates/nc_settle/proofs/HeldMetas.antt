-- Metas that stand sealed, and metas that are held.
use Rattle.std.proofs.Common.{◌≡◌, ◌<◌, ◌≤◌, ◌%◌, ℕ, Some, List, refl}
use Rattle.nc_name.specs.declared.key.Key.TheVariants as key
use Rattle.nc_name.specs.Names.{IsName}
use Rattle.nc_meta.specs.declared.meta.Meta.{Meta}
use Rattle.nc_meta.specs.Metas.{generation_of}
use Rattle.nc_cloud.specs.Contents.{Contents}
use Rattle.nc_state.specs.Holding.{Holds}
use Rattle.nc_state.proofs.Held.{held_is_sealed}
use Rattle.nc_settle.specs.Judging.{SealedMeta}

-- the bytes of a meta that a cloud holds
pub record StandsSealed (n : ℕ) (F : Contents) (name : List ℕ) (c : ℕ) (m : Meta) : Type 0 where
  pub bytes : List ℕ
  pub stands : F c (key.Meta name (generation_of m % 2)) ≡ Some bytes
  pub is_sealed : SealedMeta n name c (generation_of m % 2) bytes m

module _ (n : ℕ) (F : Contents) (name : List ℕ) (wide : 4 ≤ n) (narrow : n ≤ 10) (is : IsName name) (c : ℕ) (m : Meta) (l : c < n) where
  pub meta_held : StandsSealed n F name c m → Holds n F name c m
  meta_held s =
      (held_is_sealed n F name c m wide narrow is l).1
      (record { bytes = s.bytes; payload = s.is_sealed.payload; stands = s.stands; is_sealed = s.is_sealed.is_sealed; spells = s.is_sealed.spells })

  pub stands_sealed : Holds n F name c m → StandsSealed n F name c m
  stands_sealed h =
      let s = (held_is_sealed n F name c m wide narrow is l).0 h in
      record { bytes = s.bytes; stands = s.stands; is_sealed = record { payload = s.payload; is_sealed = s.is_sealed; spells = s.spells; parity = refl } }
