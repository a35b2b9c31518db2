use Rattle.std.proofs.Common.{ℕ, ◌*◌, ◌/◌, ◌<◌, List, refl, subst, arith, rules}
use Rattle.std.specs.Fork.{slice_chunk}
use Rattle.nc_mix.specs.Placing.{ArePlaced}
use Rattle.nc_mix.proofs.Groups.{place_groups, some_rows}
use Rattle.nc_mix.proofs.placing.place_all.Goals as goal

pub returns-then-rows-gt0 : goal.returns-then-rows-gt0
returns-then-rows-gt0 g c =
    let count : ℕ = c.div_ceil.result in
    let size : ℕ = c.args.size in
    let group : ℕ = count * size in
    let new : List ℕ = c.for_each_chunk_mut.new.s in
    let are : ℕ → List ℕ → List ℕ → Type 0 =
    λ n. ArePlaced (n * group / size) size c.args.strips.now in
    let any : 0 < c.from.result =
    let some = c.requires.some_worker in let is = c.from.ensures in omega (arith, some, is) in
    place_groups count size group c.args.strips.now c.args.sums.now new
    (some_rows c.args.rows c.from.result count c.if-rows-gt0.true any c.div_ceil.ensures)
    c.requires.some_byte refl c.for_each_chunk_mut.auto.s
    (λ n within.
    let h = c.for_each_chunk_mut.ensures.chunks n within in
    let put : are n h.argument.now h.after_call.now = let f = h.call in search rules in
    subst (λ xs. are n xs (slice_chunk new group n)) h.argument_is
    (subst (are n h.argument.now) h.left put))
