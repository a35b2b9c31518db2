-- A loss keeps what stands.
use Rattle.std.proofs.Common.{◌≡◌, ◌≤◌, ◌==◌, ℕ, false, Some, List, sym, subst, inl, inr}
use Rattle.std.proofs.lemmas.Bool.Decides.{eqb_tells}
use Rattle.nc_name.specs.declared.key.Key.{Key}
use Rattle.nc_name.specs.declared.key.Key.TheVariants as key
use Rattle.nc_name.specs.Names.{IsName}
use Rattle.nc_frame.specs.Frames.{Whole}
use Rattle.nc_cloud.specs.Contents.{Contents, Fate}
use Rattle.nc_cloud.specs.Contents.Fate.{stayed}
use Rattle.nc_state.specs.Clouds.{Clouds, with_cloud}
use Rattle.nc_state.specs.Entries.{Entry, HasEntry}
use Rattle.nc_state.specs.Entries.Entry.{Rest, Opened}
use Rattle.nc_state.specs.Weighing.{weigh}
use Rattle.nc_state.specs.Losses.{Loses}
use Rattle.nc_state.specs.Laws.{LossKeeps}
use Rattle.nc_state.proofs.CloudSets.{or_false, true_not_false}
use Rattle.nc_state.proofs.Wholes.{either_at, either_fate, either_of, whole_fate}
use Rattle.nc_state.proofs.Keeping.{Shrinks, shrunk_between, shrunk_rests}
use Rattle.nc_state.proofs.Weighs.{between_weighs}

module _ (n lost : ℕ) (F G : Contents) (D : Clouds) (loses : Loses lost F G) where
  fate_at : (c : ℕ) (place : Key) → Fate (F c place) (F c place) (G c place)
  fate_at c place =
      elim (eqb_tells c lost) [
        | inl is ↦ subst (λ (k : ℕ). Fate (F k place) (F k place) (G k place)) (sym is.1) (loses.objects place)
        | inr other ↦ stayed (loses.others c place other.1)
      ]

  was : (c : ℕ) (place : Key) (bytes : List ℕ) → G c place ≡ Some bytes → Whole bytes → F c place ≡ Some bytes
  was c place bytes is whole =
      elim (whole_fate (F c place) (F c place) (G c place) bytes (fate_at c place) is whole) [
        | inl e ↦ e
        | inr e ↦ e
      ]

  spared : (c : ℕ) (place : Key) → with_cloud D lost c ≡ false → G c place ≡ F c place
  spared c place out =
      elim (eqb_tells c lost) [
        | inl is ↦ absurd (true_not_false (c == lost) is.0 (or_false (D c) (c == lost) out).1)
        | inr other ↦ loses.others c place other.1
      ]

  shrinks : (name : List ℕ) → Shrinks n F G D (with_cloud D lost) name
  shrinks name = record {
    fewer = λ c out. (or_false (D c) (c == lost) out).0;
    back = λ c place bytes l e. was c place bytes;
    same = λ c place l out e. spared c place out;
  }

  weighed_entry : (name : List ℕ) (e : Entry) → 4 ≤ n → n ≤ 10 → IsName name → HasEntry n F D name e → HasEntry n G (with_cloud D lost) name (weigh n G (with_cloud D lost) name e)
  weighed_entry name (Rest x) wide narrow is r = shrunk_rests n F G D (with_cloud D lost) name (shrinks name) wide narrow is x r
  weighed_entry name (Opened x y) wide narrow is o =
      between_weighs n G (with_cloud D lost) name x y (shrunk_between n F G D (with_cloud D lost) name (shrinks name) wide narrow is x y o.between)

pub loss_keeps : LossKeeps
loss_keeps n lost F G S D stands loses few = record {
  wide = stands.wide;
  narrow = stands.narrow;
  few = few;
  entries = λ name is. weighed_entry n lost F G D loses name (S name) stands.wide stands.narrow is (stands.entries name is);
  metas = λ c slot name bytes l is whole. stands.metas c slot name bytes l (was n lost F G D loses c (key.Meta name slot) bytes is whole) whole;
  objects = λ c place bytes l is.
      let old = either_of (F c place) (λ b e. stands.objects c place b l e) in
      either_at (G c place) bytes (either_fate (F c place) (F c place) (G c place) (fate_at n lost F G D loses c place) old old) is;
}
