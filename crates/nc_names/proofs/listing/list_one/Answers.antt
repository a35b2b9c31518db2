use Rattle.std.proofs.Common.{◌≡◌, ◌++◌, ap, ◌∙◌, map, subst}
use Rattle.std.specs.List.{All}
use Rattle.nc_name.specs.Keys.{name_of}
use Rattle.nc_name.specs.Names.{IsName}
use Rattle.nc_names.proofs.Lists.{adds_names, valid_more}
use Rattle.nc_names.proofs.listing.list_one.Goals as goal

pub returns-in_ok-push_names-in-Ok-clause-lists : goal.returns-in_ok-push_names-in-Ok-clause-lists
returns-in_ok-push_names-in-Ok-clause-lists g c =
    let added : c.push_names.new.names.items ≡ c.args.names.now.items ++ map name_of c.in-Ok.keys = c.in_ok-push_names-in-Ok.ensures.added ∙ ap (λ keys. c.args.names.now.items ++ map name_of keys) c.items.ensures in
    record {
      told = λ told fine. adds_names _ c.in-Ok.keys _ _ (c.in-Ok.ensures.told told) added;
      stay = λ failed. absurd cc;
      valid = valid_more c.in-Ok.keys _ _ added (subst (λ keys. All IsName (map name_of keys)) c.items.ensures c.in_ok-push_names-in-Ok.ensures.valid);
      rose = λ failed. absurd cc;
      exact = λ exact k fine. c.in-Ok.ensures.exact exact k (λ same failed. absurd cc);
    }
