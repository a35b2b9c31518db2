use Rattle.std.proofs.Common.{Global, Vec}
use Rattle.std.proofs.lemmas.Result.{IfOk-weaker}
use Rattle.nc_name.specs.declared.name.Name.{Name}
use Rattle.nc_name.specs.Names.{IsName}
use Rattle.nc_names.proofs.SortedNames.{all_sorted, outside_sorted}
use Rattle.nc_names.proofs.listing.list_names.Goals as goal

pub returns-clause-names : goal.returns-clause-names
returns-clause-names g c told = IfOk-weaker _ _ _ (λ (names : Vec Name Global) sorts. outside_sorted _ _ _ c.in_ok-names.names.items names.items (c.in_ok-names.ensures.lists.told told) sorts) c.sorted_names.ensures

pub returns-clause-valid : goal.returns-clause-valid
returns-clause-valid g c = IfOk-weaker _ _ _ (λ (names : Vec Name Global) sorts. all_sorted IsName c.in_ok-names.names.items names.items sorts c.in_ok-names.ensures.lists.valid) c.sorted_names.ensures
