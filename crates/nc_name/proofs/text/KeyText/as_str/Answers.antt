use Rattle.std.proofs.Common.{◌≡◌, ap, ◌∙◌, ℕ, List, Result, Ok, Err, Bor}
use Rattle.std.specs.Prelude.{IsUtf8, MatchResult}
use Rattle.std.specs.Result.{result_unwrap_or}
use Rattle.std.proofs.lemmas.Str.{IsUtf8-from_ascii}
use Rattle.nc_name.proofs.text.KeyText.as_str.Goals as goal

-- bytes of UTF-8 are read as the same text
read_as : {E : Type 0} (r : Result (Bor (List ℕ)) E) (d : Bor (List ℕ)) (bytes : List ℕ) (Q : E → Type 0) → IsUtf8 bytes
    → MatchResult r (λ s. (s.now ≡ bytes) × IsUtf8 bytes) (λ e. ¬ (IsUtf8 bytes) × Q e) → (result_unwrap_or r d).now ≡ bytes
read_as (Ok s) d bytes Q utf8 m = m.0
read_as (Err e) d bytes Q utf8 m = absurd (m.0 utf8)

pub returns : goal.returns
returns c =
    let utf8 : IsUtf8 c.part_of-bytes.result.now = rw c.part_of-bytes.ensures (IsUtf8-from_ascii _ c.self.invariant.ascii) in
    ap (λ (b : Bor (List ℕ)). b.now) c.unwrap_or.ensures ∙ read_as c.from_utf8.result _ _ _ utf8 c.from_utf8.ensures.cases
    ∙ c.part_of-bytes.ensures ∙ c.self.view_is
