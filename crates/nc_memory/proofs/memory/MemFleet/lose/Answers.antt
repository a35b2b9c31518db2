use Rattle.std.proofs.Common.{◌≡◌, ◌++◌, ◌∷◌, [], refl, ap, ◌∙◌}
use Rattle.nc_cloud.specs.Contents.{nothing}
use Rattle.nc_memory.specs.declared.record.Event.TheVariants.{Lost}
use Rattle.nc_memory.specs.Record.{contents_after, failed_in, given_in, slipped_in}
use Rattle.nc_memory.proofs.LossLaws.{loss_leaves, loss_others}
use Rattle.nc_memory.proofs.RecordLaws.{uncounted}
use Rattle.nc_memory.proofs.memory.MemFleet.lose.Goals as goal

-- the record, and with it what follows from it
recorded : (c : goal.In_ok-push) → c.push.new.self.events.items ≡ c.args.self.now.log.events.items ++ Lost c.args.cloud c.args.damage.now ∷ []
recorded c = c.in_ok-push.ensures.ok ∙ ap (λ damage. c.args.self.now.log.events.items ++ Lost c.args.cloud damage ∷ []) c.in_ok-damage.ensures

pub returns-clause-leaves : goal.returns-clause-leaves
returns-clause-leaves c = λ q. ap (λ es. contents_after es nothing c.args.cloud q) (recorded c) ∙ loss_leaves c.args.self.now.log.events.items c.args.cloud c.args.damage.now q

pub returns-clause-others : goal.returns-clause-others
returns-clause-others c = λ k q other. ap (λ es. contents_after es nothing k q) (recorded c) ∙ loss_others c.args.self.now.log.events.items c.args.cloud c.args.damage.now k q other

pub returns-clause-faults : goal.returns-clause-faults
returns-clause-faults c = uncounted failed_in c.args.self.now.log.events.items (Lost c.args.cloud c.args.damage.now) (λ k. refl) (recorded c)

pub returns-clause-slips : goal.returns-clause-slips
returns-clause-slips c = uncounted slipped_in c.args.self.now.log.events.items (Lost c.args.cloud c.args.damage.now) (λ k. refl) (recorded c)

pub returns-clause-gets : goal.returns-clause-gets
returns-clause-gets c = uncounted given_in c.args.self.now.log.events.items (Lost c.args.cloud c.args.damage.now) (λ k. refl) (recorded c)
