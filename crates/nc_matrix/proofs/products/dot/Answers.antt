use Rattle.std.proofs.Common.{◌≡◌, ℕ, ◌≤◌, List, length, take, ap, ◌∙◌, arith, get_or-take, length-take-le}
use Rattle.nc_gf256.specs.Rows.{dot}
use Rattle.nc_gf256.proofs.Sums.{dot_same}
use Rattle.nc_matrix.proofs.products.dot.Goals as goal

fronts : (n : ℕ) (row other : List ℕ) → n ≤ length row → dot (length (take n row)) (take n row) (take n other) ≡ dot n row other
fronts n row other le =
    ap (λ k. dot k (take n row) (take n other)) (length-take-le n row le)
    ∙ dot_same n (take n row) row (take n other) other (λ i lt. get_or-take n row i 0 lt) (λ i lt. get_or-take n other i 0 lt)

pub returns : goal.returns
returns c =
    let long = c.told-row in
    c.dot.ensures ∙ fronts c.args.n c.args.row.now c.args.other.now (omega arith)
