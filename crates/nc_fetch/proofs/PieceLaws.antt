-- The pieces of the clouds that serve.
use Rattle.std.proofs.Common.{◌≡◌, ◌<◌, ◌+◌, ◌-◌, ℕ, Bool, true, false, if◌then◌else◌, Option, None, Some, List, length, get_or, All, AllPairs, inl, inr, sym, ap, ◌∙◌, subst, arith}
use Rattle.std.proofs.lemmas.List.{length-map, get_or-map}
use Rattle.nc_bytes.specs.Bytes.{AreBytes}
use Rattle.nc_native.specs.Native.{chunk_size, combination}
use Rattle.nc_code.specs.Codes.{code_row}
use Rattle.nc_cloud.specs.Deciding.{AreAscending}
use Rattle.nc_cloud.specs.declared.fleet.Fleet.{Ghosts as FleetGhosts}
use Rattle.nc_cloud.proofs.SomeRows.{ascend_some}
use Rattle.nc_meta.specs.declared.meta.Live.{Live}
use Rattle.nc_mix.specs.declared.pieces.Piece.{Piece}
use Rattle.nc_mix.specs.Decoding.{IsBefore, IsLong, IsPieceOf}
use Rattle.nc_download.specs.declared.short.Why.{Why}
use Rattle.nc_download.specs.Chunks.{wanted_of}
use Rattle.nc_download.specs.Clouds.{AreGoodRows, HoldsChunksOf}
use Rattle.nc_fetch.specs.Reading.{ComesFromUnmarked, TooFewUnmarked}
use Rattle.nc_fetch.specs.Trying.{HasTriedAll, TriedBetween}
use Rattle.nc_fetch.specs.Whys.{free, free_at, is_fine, why_at}
use Rattle.nc_download.proofs.ChunkLaws.{same_payload}

free_cloud : (c x : ℕ) (b : Bool) → (if b then Some c else None) ≡ Some x → x ≡ c
free_cloud c x true e = cc
free_cloud c x false e = absurd cc

module _ {A : Type 0} (F : FleetGhosts A) (name : List ℕ) (m : Live) (old new : A) (before whys : List (Option Why)) (pieces : List Piece) (tried : HasTriedAll F name m old new before whys pieces) (width : m.code.width ≡ F.clouds old) where
  ascend : AreAscending (λ p. p.cloud) (tried.up_to - 0) pieces
  ascend = ascend_some (λ x. x) (free_at whys) (λ c x e. free_cloud c x (is_fine (why_at whys c)) e) (λ (p : Piece). p.cloud) (tried.up_to - 0) pieces tried.has.serve.of_clouds

  pub pieces_ascend : AllPairs IsBefore pieces
  pieces_ascend = ascend.rising

  pub pieces_within : All (λ p. p.cloud < m.code.width) pieces
  pieces_within = λ k d l. omega (arith, ascend.below k d l, tried.has.within, width)

  pub pieces_long : All (IsLong (chunk_size m.len m.code.width)) pieces
  pieces_long = subst (λ (n : ℕ). All (IsLong (chunk_size m.len n)) pieces) (sym width) tried.has.serve.long

  length_is : length pieces ≡ length (free whys 0 tried.up_to)
  length_is = sym (length-map pieces (λ (p : Piece). p.cloud)) ∙ ap length tried.has.serve.of_clouds

  pieces_are : F.tells → (v : List ℕ) → All (HoldsChunksOf (F.clouds old) name m v (F.held old)) (free whys 0 tried.up_to) → All (IsPieceOf m.code v) pieces
  pieces_are told v holds k d l =
      let p : Piece = get_or pieces k d in
      let n : ℕ = F.clouds old in
      let good : AreGoodRows (F.clouds old) name m (F.held old) p.cloud p.zero p.one = tried.has.serve.good told k d l in
      let within : k < length (free whys 0 tried.up_to) = omega (arith, l, length_is) in
      let at : get_or (free whys 0 tried.up_to) k p.cloud ≡ p.cloud = sym (ap (λ cs. get_or cs k p.cloud) tried.has.serve.of_clouds) ∙ get_or-map (λ (q : Piece). q.cloud) pieces k d p.cloud l in
      let chunks : HoldsChunksOf (F.clouds old) name m v (F.held old) p.cloud = subst (HoldsChunksOf (F.clouds old) name m v (F.held old)) at (holds k p.cloud within) in
      record {
        zero = same_payload (wanted_of (F.clouds old) name m 0 p.cloud) _ _ _ good.first.holds (chunks.row 0 (omega arith)) ∙ ap (combination (code_row m.code p.cloud 0) v) (sym width);
        one = same_payload (wanted_of (F.clouds old) name m 1 p.cloud) _ _ _ good.second.holds (chunks.row 1 (omega arith)) ∙ ap (combination (code_row m.code p.cloud 1) v) (sym width);
      }

  pub comes_unmarked : (file : List ℕ) → length pieces + 2 ≡ F.clouds old → length file ≡ m.len → ((v : List ℕ) → AreBytes v → length v ≡ m.len → All (IsPieceOf m.code v) pieces → file ≡ v)
      → ComesFromUnmarked F name m old new before whys file
  comes_unmarked file enough long is = record {
    up_to = tried.up_to;
    within = tried.has.within;
    tried = tried.has.tried;
    alone = tried.has.alone;
    enough = omega (arith, enough, length_is);
    needed = tried.has.needed;
    long = long;
    is_file = λ told v bytes len holds. is v bytes len (pieces_are told v holds);
  }

  ended_all : length pieces + 2 < F.clouds old → tried.up_to ≡ F.clouds old
  ended_all few = elim tried.ended [
    | inl all ↦ all
    | inr enough ↦ absurd (omega (arith, few, enough))
  ]

  pub too_few_unmarked : length pieces + 2 < F.clouds old → TooFewUnmarked F name m old new before whys
  too_few_unmarked few = record {
    tried = subst (λ (b : ℕ). TriedBetween F name m old new 0 b before whys) (ended_all few) tried.has.tried;
    alone = tried.has.alone;
    few = let all = ended_all few in let same : length (free whys 0 (F.clouds old)) ≡ length (free whys 0 tried.up_to) = ap (λ b. length (free whys 0 b)) (sym all) in omega (arith, same, few, length_is);
  }
