use Rattle.std.proofs.Common.{◌≡◌, ◌<◌, ◌+◌, List, All, length, sym, subst, arith}
use Rattle.nc_mix.specs.declared.pieces.Piece.{Piece}
use Rattle.nc_mix.specs.Decoding.{AreEnough, IsPieceOf}
use Rattle.nc_fetch.proofs.PieceLaws.{comes_unmarked, pieces_ascend, pieces_long, pieces_within, too_few_unmarked}
use Rattle.nc_fetch.proofs.reading.read_unmarked.Goals as goal

pub decode_into-requires-clause-enough : goal.decode_into-requires-clause-enough
decode_into-requires-clause-enough g c = λ κ l.
    let tried = c.in_ok-pieces.ensures.tried in
    subst (AreEnough c.args.live.now.code c.args.live.now.len) (sym c.deref.ensures.value)
    (record {
      mds = c.requires.mds;
      count = omega (arith, c.if-len-from.false, c.len.ensures, c.from.ensures, c.width-width.ensures, tried.has.few, c.in_ok-pieces.pieces.ok, c.requires.live.width);
      ascending = pieces_ascend g.F.Fleet c.args.name.now c.args.live.now c.args.fleet.now c.try_beside.new.fleet c.args.whys.now c.try_beside.new.whys c.in_ok-pieces.pieces.items tried c.requires.live.width;
      in_width = pieces_within g.F.Fleet c.args.name.now c.args.live.now c.args.fleet.now c.try_beside.new.fleet c.args.whys.now c.try_beside.new.whys c.in_ok-pieces.pieces.items tried c.requires.live.width;
      long = pieces_long g.F.Fleet c.args.name.now c.args.live.now c.args.fleet.now c.try_beside.new.fleet c.args.whys.now c.try_beside.new.whys c.in_ok-pieces.pieces.items tried c.requires.live.width;
    })

pub returns-then-len-from-clause-reads : goal.returns-then-len-from-clause-reads
returns-then-len-from-clause-reads g c =
    let few : length c.in_ok-pieces.pieces.items + 2 < g.F.Fleet.clouds c.args.fleet.now = omega (arith, c.if-len-from.true, c.len.ensures, c.from.ensures, c.width-width.ensures, c.in_ok-pieces.pieces.ok) in
    too_few_unmarked g.F.Fleet c.args.name.now c.args.live.now c.args.fleet.now c.try_beside.new.fleet c.args.whys.now c.try_beside.new.whys c.in_ok-pieces.pieces.items c.in_ok-pieces.ensures.tried c.requires.live.width few

pub returns-clause-reads : goal.returns-clause-reads
returns-clause-reads g c =
    let enough : length c.in_ok-pieces.pieces.items + 2 ≡ g.F.Fleet.clouds c.args.fleet.now =
    omega (arith, c.if-len-from.false, c.len.ensures, c.from.ensures, c.width-width.ensures, c.in_ok-pieces.ensures.tried.has.few, c.in_ok-pieces.pieces.ok) in
    comes_unmarked g.F.Fleet c.args.name.now c.args.live.now c.args.fleet.now c.try_beside.new.fleet c.args.whys.now c.try_beside.new.whys c.in_ok-pieces.pieces.items c.in_ok-pieces.ensures.tried c.requires.live.width c.in_ok-file.file enough
    c.in_ok-file.ensures.long (λ v bytes len all. c.in_ok-file.ensures.is_file v bytes len (subst (λ (ps : List Piece). All (IsPieceOf c.args.live.now.code v) ps) (sym c.deref.ensures.value) all))
