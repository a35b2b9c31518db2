use Rattle.std.proofs.Common.{rules, ◌≡◌, ◌+◌, ◌<◌, ◌++◌, ◌∷◌, [], sym, subst}
use Rattle.std.specs.List.{All, AllPairs}
use Rattle.std.proofs.lemmas.List.Elements.{All-push}
use Rattle.nc_mix.specs.declared.pieces.Piece.{Piece}
use Rattle.nc_mix.specs.Decoding.{IsBefore, IsLong}
use Rattle.nc_bench.proofs.Ascending.{all_below, still_ascending}
use Rattle.nc_bench.proofs.mixing.last_pieces.Goals as goal

pub loop-cloud-preserved : goal.loop-cloud-preserved
loop-cloud-preserved c =
    let added : c.push.new.self.items ≡ c.loop-cloud.pieces.items ++ c.in_ok-piece.field-0 ∷ [] =
    c.in_ok-push.ensures.items in (
      search rules,
      subst (AllPairs IsBefore) (sym added)
          (still_ascending _ _ _ c.in_ok-piece.ensures.cloud c.loop-cloud.invariant.2 c.loop-cloud.invariant.1),
      subst (All (λ (p : Piece). p.cloud < c.loop-cloud.cloud + 1)) (sym added)
          (all_below _ _ _ c.in_ok-piece.ensures.cloud c.loop-cloud.invariant.2),
      subst (All (IsLong c.chunk_size-size.result)) (sym added)
          (All-push (IsLong c.chunk_size-size.result) _ _ c.loop-cloud.invariant.3 c.in_ok-piece.ensures.long),
    )
