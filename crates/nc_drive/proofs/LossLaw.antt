-- What a loss makes of a vault.
use Rattle.std.proofs.Common.{◌≡◌, ◌≢◌, ◌∙◌, ◌<◌, ◌+◌, ◌-◌, ◌⊎◌, ℕ, Option, None, Some, List, length, length-drop, take, drop, arith, inl, inr, refl, sym, ap, subst}
use Rattle.std.proofs.lemmas.List.{take-append-drop}
use Rattle.nc_name.specs.declared.key.Key.{Key}
use Rattle.nc_frame.specs.Frames.{AreTorn, Whole}
use Rattle.nc_frame.proofs.FrameLaws.{proper_prefixes_are_torn, prefixes_of_torn_are_torn}
use Rattle.nc_frame.proofs.Shapes.{length-frame}
use Rattle.nc_cloud.specs.Contents.{Contents, Fate}
use Rattle.nc_cloud.specs.Contents.Fate.{stayed, went, broke}
use Rattle.nc_state.specs.Losses.{Loses}
use Rattle.nc_state.specs.Standing.{WholeOrTorn}
use Rattle.nc_memory.specs.declared.record.Damage.{Damage}
use Rattle.nc_memory.specs.declared.record.Torn.{Torn}
use Rattle.nc_memory.specs.declared.record.Torn.TheVariants.{Old, New, Gone, Broken}
use Rattle.nc_memory.specs.Record.{fate_in, lost}

-- the bytes of a whole frame without the last one are torn
front_is_torn : (bytes : List ℕ) → Whole bytes → AreTorn (take (length bytes - 1) bytes)
front_is_torn bytes whole =
    let long : length bytes ≡ 48 + length whole.key + length whole.payload = ap length whole.is_sealed.is_frame ∙ length-frame whole.cloud whole.width whole.key whole.payload in
    proper_prefixes_are_torn (take (length bytes - 1) bytes) (drop (length bytes - 1) bytes) bytes whole (take-append-drop (length bytes - 1) bytes)
    (λ e. let none : length (drop (length bytes - 1) bytes) ≡ 0 = ap length e in
    absurd (omega (arith, length-drop (length bytes - 1) bytes, none, long)))

lost_fate : (fate : Torn) (old : Option (List ℕ)) → ((bytes : List ℕ) → old ≡ Some bytes → Whole bytes ⊎ AreTorn bytes) → Fate old old (lost fate old)
lost_fate Old old is = stayed refl
lost_fate New old is = stayed refl
lost_fate Gone old is = went refl
lost_fate Broken None is = stayed refl
lost_fate Broken (Some bytes) is =
    elim (is bytes refl) [
      | inl whole ↦ broke (front_is_torn bytes whole)
      | inr torn ↦ broke (prefixes_of_torn_are_torn (take (length bytes - 1) bytes) (drop (length bytes - 1) bytes) bytes torn (take-append-drop (length bytes - 1) bytes))
    ]

lost_none : (fate : Torn) (old : Option (List ℕ)) → old ≡ None → lost fate old ≡ None
lost_none Old old is = is
lost_none New old is = is
lost_none Gone old is = refl
lost_none Broken None is = refl
lost_none Broken (Some bytes) is = absurd cc

pub cloud_loses : (n cloud : ℕ) (damage : Damage) (F G : Contents) → cloud < n → WholeOrTorn n F → ((q : Key) → G cloud q ≡ lost (fate_in damage q) (F cloud q))
    → ((c : ℕ) (q : Key) → c ≢ cloud → G c q ≡ F c q) → Loses cloud F G
cloud_loses n cloud damage F G within objects leaves others = record {
  objects = λ place.
      subst (λ (left : Option (List ℕ)). Fate (F cloud place) (F cloud place) left) (sym (leaves place))
      (lost_fate (fate_in damage place) (F cloud place) (λ bytes is. objects cloud place bytes within is));
  none = λ place is. leaves place ∙ lost_none (fate_in damage place) (F cloud place) is;
  others = λ c place other. others c place other;
}
