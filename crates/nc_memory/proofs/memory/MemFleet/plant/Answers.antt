use Rattle.std.proofs.Common.{◌≡◌, ◌++◌, ◌∷◌, [], refl, ap, ◌∙◌}
use Rattle.nc_memory.specs.declared.record.Event.TheVariants.{Planted}
use Rattle.nc_memory.specs.Record.{contents_after, failed_in, given_in, slipped_in}
use Rattle.nc_cloud.specs.Contents.{nothing}
use Rattle.nc_memory.proofs.RecordLaws.{planted_others, planted_there, uncounted}
use Rattle.nc_memory.proofs.memory.MemFleet.plant.Goals as goal

-- the record, and with it what follows from it
recorded : (c : goal.In_ok-push) → c.push.new.self.events.items ≡ c.args.self.now.log.events.items ++ Planted c.args.cloud c.args.key.now c.args.bytes.now ∷ []
recorded c = c.in_ok-push.ensures.ok ∙ ap (λ b. c.args.self.now.log.events.items ++ Planted c.args.cloud c.args.key.now b ∷ []) c.in_ok-bytes.ensures

pub returns-clause-there : goal.returns-clause-there
returns-clause-there c = ap (λ es. contents_after es nothing c.args.cloud c.args.key.now) (recorded c) ∙ planted_there c.args.self.now.log.events.items c.args.cloud c.args.key.now c.args.bytes.now

pub returns-clause-others : goal.returns-clause-others
returns-clause-others c = λ k q other. ap (λ es. contents_after es nothing k q) (recorded c) ∙ planted_others c.args.self.now.log.events.items c.args.cloud c.args.key.now c.args.bytes.now k q other

pub returns-clause-faults : goal.returns-clause-faults
returns-clause-faults c = uncounted failed_in c.args.self.now.log.events.items (Planted c.args.cloud c.args.key.now c.args.bytes.now) (λ k. refl) (recorded c)

pub returns-clause-slips : goal.returns-clause-slips
returns-clause-slips c = uncounted slipped_in c.args.self.now.log.events.items (Planted c.args.cloud c.args.key.now c.args.bytes.now) (λ k. refl) (recorded c)

pub returns-clause-gets : goal.returns-clause-gets
returns-clause-gets c = uncounted given_in c.args.self.now.log.events.items (Planted c.args.cloud c.args.key.now c.args.bytes.now) (λ k. refl) (recorded c)
