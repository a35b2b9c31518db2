use Rattle.std.proofs.Common.{◌≡◌, ◌∙◌, length, replicate}
use Rattle.nc_mix.specs.Mixing.{lent}
use Rattle.nc_mix.proofs.Mixes.{from_zeros}
use Rattle.nc_mix.proofs.adding.mix_part.Goals as goal

pub returns : goal.returns
returns c =
    let zeros : c.fill.new.self ≡ replicate (length c.args.dst.now) 0 =
    c.fill.ensures.after (λ y e. e) in
    from_zeros c.args.start (length c.args.dst.now) c.args.row.now (lent c.args.sources.now)
    c.fill.new.self c.add_sources.new.dst zeros (c.add_sources.auto.dst ∙ c.fill.ensures.len)
    c.add_sources.ensures
