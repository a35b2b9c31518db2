use Rattle.std.proofs.Common.{◌≡◌, ℕ, List, length, subst, sym}
use Rattle.std.proofs.lemmas.Result.{IfOk-weaker}
use Rattle.nc_gf256.specs.Width.{native_count}
use Rattle.nc_native.specs.Native.{natives_of, native_len, AllLong}
use Rattle.nc_native.proofs.Pieces.{natives_count, all_long}
use Rattle.nc_native.proofs.cutting.cut.Goals as goal

pub returns-clause-count : goal.returns-clause-count
returns-clause-count c =
    IfOk-weaker c.cut_from.result (λ (ns : List (List ℕ)). ns ≡ natives_of c.args.bytes.now c.args.width) (λ (ns : List (List ℕ)). length ns ≡ native_count c.args.width)
    (λ ns is. subst (λ ms. length ms ≡ native_count c.args.width) (sym is) (natives_count c.args.bytes.now c.args.width))
    c.cut_from.ensures

pub returns-clause-long : goal.returns-clause-long
returns-clause-long c =
    IfOk-weaker c.cut_from.result (λ (ns : List (List ℕ)). ns ≡ natives_of c.args.bytes.now c.args.width) (λ (ns : List (List ℕ)). AllLong (native_len ns) ns)
    (λ ns is. subst (λ ms. AllLong (native_len ms) ms) (sym is) (all_long c.args.bytes.now c.args.width c.requires.wide))
    c.cut_from.ensures
