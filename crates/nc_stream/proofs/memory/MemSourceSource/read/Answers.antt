use Rattle.std.proofs.Common.{arith, ◌≡◌, take, drop, ap, ◌∙◌, sym}
use Rattle.nc_stream.proofs.InputLemmas.{given, given_none}
use Rattle.nc_stream.proofs.memory.MemSourceSource.read.Goals as goal

pub returns-clause-bytes : goal.returns-clause-bytes
returns-clause-bytes c =
    let rest : c.split_at.result.1.now ≡ drop c.args.self.now.at c.args.self.now.bytes = cc in (
      given c.args.self.now.at c.give-n.result c.args.self.now.bytes _ (c.give-n.ensures.given ∙ ap (take c.give-n.result) rest),
      λ none some. given_none _ c.give-n.result _ (sym rest ∙ c.give-n.ensures.none none (omega arith)),
    )
