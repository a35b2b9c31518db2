use Rattle.std.proofs.Common.{◌≡◌, ℕ, ◌*◌, ◌%◌, ◌<◌, List, replicate, refl, ap, ◌∙◌, slice_index}
use Rattle.std.proofs.lemmas.Simd.{get_or-replicate}
use Rattle.nc_gf256.specs.Field.{mul}
use Rattle.nc_gf256.proofs.Cases.{same_below}
use Rattle.nc_lanes.specs.declared.multiples.TheConstants.{LOW, HIGH}
use Rattle.nc_lanes.specs.Lanes.{HasLanes}
use Rattle.nc_lanes.proofs.LaneLemmas.{HasLanes-same}
use Rattle.nc_lanes.proofs.multiples.Multiples.of.Goals as goal

low_is : (k : ℕ) → k < 32 → slice_index LOW k ≡ k % 16
low_is = same_below 32 (λ k. slice_index LOW k) (λ k. k % 16) refl

high_is : (k : ℕ) → k < 32 → slice_index HIGH k ≡ 16 * (k % 16)
high_is = same_below 32 (λ k. slice_index HIGH k) (λ k. 16 * (k % 16)) refl

with_factor : (c : ℕ) (xs v : List ℕ) (f : ℕ → ℕ) → ((k : ℕ) → k < 32 → slice_index xs k ≡ f k)
    → HasLanes v (λ k. mul (slice_index (replicate 32 c) k) (slice_index xs k)) → HasLanes v (λ k. mul c (f k))
with_factor c xs v f e h =
    HasLanes-same _ _ h (λ k lt. ap (λ a. mul a (slice_index xs k)) (get_or-replicate 32 k c 0 lt) ∙ ap (mul c) (e k lt))

pub invariant_of-result : goal.invariant_of-result
invariant_of-result c = record {
  low_products = with_factor c.args.factor LOW c.products.result (λ k. k % 16) low_is c.products.ensures;
  high_products = with_factor c.args.factor HIGH c.products-2.result (λ k. 16 * (k % 16)) high_is c.products-2.ensures;
}
