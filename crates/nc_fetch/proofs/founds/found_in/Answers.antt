use Rattle.std.proofs.Common.{List, ℕ, Some, subst}
use Rattle.nc_download.specs.Chunks.{IsGoodChunk}
use Rattle.nc_download.proofs.InnerLaws.{good_long}
use Rattle.nc_fetch.proofs.FoundLaws.{gives_inner}
use Rattle.nc_fetch.proofs.founds.found_in.Goals as goal

pub payload_in-requires-clause-long : goal.payload_in-requires-clause-long
payload_in-requires-clause-long g c =
    good_long c.args.wanted.now c.args.frame c.in-Ok.field-0.now (subst (λ (b : List ℕ). IsGoodChunk c.args.wanted.now (Some b) c.in-Ok.field-0.now) c.bytes.ensures c.in-Ok.ensures.verdict)

pub returns-in-Ok : goal.returns-in-Ok
returns-in-Ok g c =
    gives_inner c.args.wanted.now c.args.frame c.in-Ok.field-0.now c.payload_in.result (subst (λ (b : List ℕ). IsGoodChunk c.args.wanted.now (Some b) c.in-Ok.field-0.now) c.bytes.ensures c.in-Ok.ensures.verdict) c.payload_in.ensures
