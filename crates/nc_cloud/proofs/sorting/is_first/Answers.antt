use Rattle.std.proofs.Common.{◌≡◌, ◌<◌, ◌-◌, get_or, length, ap₂, sym, ◌∙◌, arith}
use Rattle.std.specs.Cmp.Lexicographic.{slice_cmp}
use Rattle.std.specs.Ordering.{nat_cmp}
use Rattle.std.proofs.lemmas.List.{get_or_default}
use Rattle.nc_name.specs.Keys.{key_text}
use Rattle.nc_cloud.proofs.SortLaws.{not_greater}
use Rattle.nc_cloud.proofs.sorting.is_first.Goals as goal

pub returns-in-Greater-clause-yes : goal.returns-in-Greater-clause-yes
returns-in-Greater-clause-yes c first some d =
    let within : c.args.i < length c.args.keys.now = c.requires.within in
    let below : c.args.i - 1 < length c.args.keys.now = omega arith in
    let before : c.index-keys-i.result ≡ get_or c.args.keys.now (c.args.i - 1) d = c.index-keys-i.is ∙ get_or_default c.args.keys.now (c.args.i - 1) _ d below in
    let here : c.index-keys-i-2.result ≡ get_or c.args.keys.now c.args.i d = c.index-keys-i-2.is ∙ get_or_default c.args.keys.now c.args.i _ d within in
    absurd (not_greater c.args.keys.now c.args.i d c.requires.ascend some within
    (ap₂ (λ a b. slice_cmp nat_cmp (key_text a) (key_text b)) (sym before) (sym here) ∙ sym c.key_cmp.ensures.order ∙ c.in-Greater.is))
