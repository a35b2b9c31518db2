use Rattle.std.proofs.Common.{◌≡◌, ◌≤◌, arith, refl, subst, sym}
use Rattle.std.specs.Result.{IfOk, IsErrOf}
use Rattle.nc_cloud.specs.declared.cloud.CloudError.TheVariants.{Failed}
use Rattle.nc_cloud.specs.Cloud.{Lists}
use Rattle.nc_cloud.specs.Contents.{Rose, Store}
use Rattle.nc_cloud.proofs.Fans.{seat_value}
use Rattle.nc_cloud.proofs.OneSeat.{one_here, one_seat, one_still}
use Rattle.nc_cloud.proofs.seats.list_at.Goals as goal

pub returns-clause-told : goal.returns-clause-told
returns-clause-told g c = λ told.
    subst (λ (held : Store). IfOk c.list.result (Lists held))
    (sym (seat_value g.C.Cloud.held c.args.seats.now c.args.cloud c.index-seats-cloud.result _ c.requires))
    (c.list.ensures.told told)

pub returns-clause-failed : goal.returns-clause-failed
returns-clause-failed g c = λ is.
    one_here g.C.Cloud.slips 0 c.args.seats.now c.args.cloud _ c.index-seats-cloud.result c.requires Rose (c.list.ensures.failed is)

pub returns-clause-exact : goal.returns-clause-exact
returns-clause-exact g c = λ exact.
    one_seat g.C.Cloud.slips 0 c.args.seats.now c.args.cloud _ c.index-seats-cloud.result c.requires
    (λ k before after. (k ≡ c.args.cloud → IsErrOf c.list.result Failed → ⊥) → after ≡ before)
    (λ k n other no. refl) (λ no. c.list.ensures.exact exact (no refl))

pub returns-clause-held : goal.returns-clause-held
returns-clause-held g c = one_still g.C.Cloud.held _ c.args.seats.now c.args.cloud _ c.index-seats-cloud.result c.requires c.list.ensures.held

pub returns-clause-grows : goal.returns-clause-grows
returns-clause-grows g c =
    one_seat g.C.Cloud.slips 0 c.args.seats.now c.args.cloud _ c.index-seats-cloud.result c.requires
    (λ k before after. before ≤ after) (λ k n other. omega arith) c.list.ensures.later

pub returns-clause-faults : goal.returns-clause-faults
returns-clause-faults g c = one_still g.C.Cloud.faults 0 c.args.seats.now c.args.cloud _ c.index-seats-cloud.result c.requires c.list.ensures.faults

pub returns-clause-gets : goal.returns-clause-gets
returns-clause-gets g c = one_still g.C.Cloud.chunk_gets 0 c.args.seats.now c.args.cloud _ c.index-seats-cloud.result c.requires c.list.ensures.gets
