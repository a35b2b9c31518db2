use Rattle.std.proofs.Common.{◌≡◌, ◌+◌, drop, take, ap, sym, ◌∙◌}
use Rattle.std.proofs.lemmas.List.{drop-take, drop-drop}
use Rattle.nc_bytes.specs.Bytes.{part}
use Rattle.nc_name.proofs.blob.Blob.into_part.Goals as goal

-- src/blob.rt:102:5
pub returns : goal.returns
returns c =
    let there : drop (c.self.inside.front + c.args.at) c.truncate.new.self.items
    ≡ part c.args.at c.args.n (drop c.self.inside.front c.self.inside.bytes.items) =
    ap (drop (c.self.inside.front + c.args.at)) c.truncate.ensures.items
    ∙ drop-take (c.self.inside.front + c.args.at) c.args.n c.self.inside.bytes.items
    ∙ ap (take c.args.n) (sym (drop-drop c.args.at c.self.inside.front c.self.inside.bytes.items)) in
    there ∙ ap (part c.args.at c.args.n) c.self.view_is
