use Rattle.std.proofs.Common.{◌≡◌, ℕ, List, ◌∙◌, ap, length, take, sym, subst, arith}
use Rattle.std.proofs.lemmas.Result.{IfOk-weaker}
use Rattle.std.specs.List.{All}
use Rattle.nc_native.specs.Native.{AllLong, chunk_size}
use Rattle.nc_mix.specs.Decoding.{IsDecoded, IsLong, IsSolution, chunks_in, solved}
use Rattle.nc_mix.proofs.FileBack.{length-chunks_in, chunks_long, solution, file_back, length_back}
use Rattle.nc_mix.proofs.decoding.decode_into.Goals as goal

pub decode_with-requires-clause-count : goal.decode_with-requires-clause-count
decode_with-requires-clause-count g c κs within =
    let many = length-chunks_in c.args.pieces.now in
    let narrow = c.width.ensures.kept.narrow in
    let count = c.requires.enough.count in
    omega (arith, many)

pub decode_with-requires-clause-long : goal.decode_with-requires-clause-long
decode_with-requires-clause-long g c κs within =
    let size : c.chunk_size-size.result ≡ chunk_size c.args.len c.args.code.now.width = c.chunk_size-size.ensures ∙ ap (chunk_size c.args.len) c.width.ensures.width in
    subst (λ z. AllLong z (chunks_in c.args.pieces.now)) (sym size) (chunks_long c.args.pieces.now _ c.requires.enough.long)

pub returns : goal.returns
returns g c =
    let size : c.chunk_size-size.result ≡ chunk_size c.args.len c.args.code.now.width = c.chunk_size-size.ensures ∙ ap (chunk_size c.args.len) c.width.ensures.width in
    let inverts = c.inverse_of-inverse.ensures.inverse in
    let count : length c.first_rows-rows.result.now ≡ c.inverse_of-inverse.result.size = c.first_rows-rows.ensures.count in
    let wanted : List ℕ = take c.args.len (solved c.chunk_size-size.result (chunks_in c.args.pieces.now) c.first_rows-rows.result.now) in
    IfOk-weaker c.decode_with.result (λ (file : List ℕ). file ≡ wanted) (IsDecoded c.args.code.now c.args.len c.args.pieces.now)
    (λ file is.
    let solves : IsSolution c.args.code.now c.args.len c.args.pieces.now file =
    solution c.args.code.now c.chunk_size-size.result c.args.pieces.now inverts.rows c.inverse_of-inverse.result.cells
    (record { is_code = c.width.ensures.kept; count = c.requires.enough.count; rows = inverts.holds; inverse = inverts.inverse; long = subst (λ z. All (IsLong z) c.args.pieces.now) (sym size) c.requires.enough.long; bytes = c.told_chunks.ensures })
    c.first_rows-rows.result.now
    (count ∙ c.inverse_of-inverse.ensures.size)
    (c.first_rows-rows.ensures.rows ∙ ap (λ k. take k c.inverse_of-inverse.result.cells) c.inverse_of-inverse.ensures.size)
    c.args.len file size is in
    record {
      solved = solves;
      long =
          ap length is
          ∙ length_back c.args.code.now.width c.args.len c.chunk_size-size.result (chunks_in c.args.pieces.now) c.first_rows-rows.result.now c.width.ensures.kept.wide
          (count ∙ c.inverse_of-inverse.ensures.size) size;
      is_file = λ v bytes long chunks. file_back c.args.code.now v c.args.pieces.now c.args.len file c.width.ensures.kept.wide solves bytes long chunks;
    })
    c.decode_with.ensures
