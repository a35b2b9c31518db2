use Rattle.std.proofs.Common.{◌≡◌, ◌∙◌, ap, sym, subst, arith}
use Rattle.nc_native.specs.Native.{AllLong, chunk_size}
use Rattle.nc_mix.specs.Decoding.{chunks_in}
use Rattle.nc_mix.proofs.FileBack.{length-chunks_in, chunks_long}
use Rattle.nc_mix.proofs.tests.decoded.Goals as goal

pub decode_with-requires-clause-count : goal.decode_with-requires-clause-count
decode_with-requires-clause-count g c κs within =
    let many = length-chunks_in c.args.pieces.now in
    let narrow = c.width.ensures.kept.narrow in
    let count = c.requires.count in
    omega (arith, many)

pub decode_with-requires-clause-long : goal.decode_with-requires-clause-long
decode_with-requires-clause-long g c κs within =
    let size : c.chunk_size-size.result ≡ chunk_size c.args.len c.args.code.now.width = c.chunk_size-size.ensures ∙ ap (chunk_size c.args.len) c.width.ensures.width in
    subst (λ z. AllLong z (chunks_in c.args.pieces.now)) (sym size) (chunks_long c.args.pieces.now _ c.requires.long)
