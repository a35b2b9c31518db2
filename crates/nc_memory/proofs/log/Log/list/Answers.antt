use Rattle.std.proofs.Common.{ap, ◌∙◌, subst}
use Rattle.std.specs.Result.{IfOk}
use Rattle.nc_cloud.specs.Cloud.{Lists}
use Rattle.nc_cloud.specs.Contents.{Contents, nothing}
use Rattle.nc_memory.specs.Record.{contents_after}
use Rattle.nc_memory.proofs.log.Log.list.Goals as goal

pub returns-in-Some : goal.returns-in-Some
returns-in-Some c = subst (λ (F : Contents). IfOk c.list_there.result (Lists (F c.args.cloud))) (c.args.self.now.current c.in-Some.shelf c.in-Some.is) c.list_there.ensures

pub returns-in-Some-shelf_of : goal.returns-in-Some-shelf_of
returns-in-Some-shelf_of c =
    subst (λ (F : Contents). IfOk c.list_there-in-Some-shelf_of.result (Lists (F c.args.cloud)))
    (c.shelf_of.ensures c.in-Some-shelf_of.shelf c.in-Some-shelf_of.is ∙ ap (λ es. contents_after es nothing) c.deref.ensures.value)
    c.list_there-in-Some-shelf_of.ensures
