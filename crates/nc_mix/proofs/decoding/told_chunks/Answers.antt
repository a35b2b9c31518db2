use Rattle.std.proofs.Common.{◌≤◌, List, ℕ, length, subst, arith}
use Rattle.std.proofs.lemmas.List.{take_all}
use Rattle.std.proofs.lemmas.List.Elements.{All-more}
use Rattle.std.specs.List.{All}
use Rattle.nc_bytes.specs.Bytes.{AreBytes}
use Rattle.nc_mix.specs.declared.pieces.Piece.{Piece}
use Rattle.nc_mix.specs.Decoding.{HoldsBytes}
use Rattle.nc_mix.proofs.decoding.told_chunks.Goals as goal

pub loop-piece-preserved : goal.loop-piece-preserved
loop-piece-preserved c =
    let here : HoldsBytes c.piece-item.result = record {
      zero = subst (λ (xs : List ℕ). AreBytes xs) c.bytes.ensures c.told_bytes.ensures;
      one = subst (λ (xs : List ℕ). AreBytes xs) c.bytes-in-loop-piece.ensures c.told_bytes-in-loop-piece.ensures;
    } in
    All-more HoldsBytes c.args.pieces.now c.loop-piece.piece-index c.piece-item.result c.loop-piece-test.true c.loop-piece.invariant
    (subst (λ (x : Piece). HoldsBytes x) c.piece-item.is here)

pub returns : goal.returns
returns c =
    let done : length c.args.pieces.now ≤ c.loop-piece.piece-index = omega (arith, c.loop-piece-test.false, c.loop-piece.auto.piece-index-end) in
    subst (λ (xs : List Piece). All HoldsBytes xs) (take_all c.loop-piece.piece-index c.args.pieces.now done) c.loop-piece.invariant
