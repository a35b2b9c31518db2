use Rattle.std.proofs.Common.{◌∙◌, ap, length, rules}
use Rattle.rand_core.specs.Steps.{steps_u32, fill_via_u32}
use Rattle.rand_core.proofs.StepsLemmas.{fill_bytes-value}
use Rattle.rand_chacha.specs.ChaCha.{ChaCha, next_word}
use Rattle.nc_mill.proofs.Words.{filled}
use Rattle.nc_mill.proofs.file.fill.Goals as goal

pub returns : goal.returns
returns c =
    filled c.args.key.now (length c.args.out.now) c.fill_bytes.new.dst c.requires
    (fill_bytes-value (steps_u32 (next_word 10)) _ _ _ _ c.fill_bytes.ensures
    ∙ ap (λ (g : ChaCha). (fill_via_u32 (next_word 10) (length c.args.out.now) g).0) (search rules))
