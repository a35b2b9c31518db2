use Rattle.std.proofs.Common.{◌≡◌, ◌∷◌, [], ◌++◌, rules}
use Rattle.nc_mix.proofs.Solving.{pieces_more}
use Rattle.nc_mix.proofs.decoding.lend_pieces.Goals as goal

pub loop-piece-preserved : goal.loop-piece-preserved
loop-piece-preserved c =
    let first : c.push.new.self.items ≡ c.loop-piece.list.items ++ (c.bytes.result ∷ []) = search rules in
    let second : c.push-else-is_err.new.self.items ≡ c.push.new.self.items ++ (c.bytes-else-is_err.result ∷ []) = search rules in
    pieces_more c.args.pieces.now c.loop-piece.piece-index c.piece-item.result c.loop-piece.list.items c.push.new.self.items c.push-else-is_err.new.self.items c.bytes.result c.bytes-else-is_err.result
    c.loop-piece-test.true c.piece-item.is first second c.bytes.ensures c.bytes-else-is_err.ensures c.loop-piece.invariant
