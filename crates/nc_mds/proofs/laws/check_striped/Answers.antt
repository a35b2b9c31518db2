use Rattle.std.proofs.Common.{subst, sym}
use Rattle.nc_code.specs.Parts.{CodeParts}
use Rattle.nc_code.specs.Codes.{IsMds}
use Rattle.nc_mds.proofs.StripedMds.{striped_mds}
use Rattle.nc_mds.proofs.laws.check_striped.Goals as goal

pub returns : goal.returns
returns c =
    c.check.ensures.mds (subst (λ (x : CodeParts). IsMds x) (sym c.striped.ensures.code) (striped_mds c.args.width c.requires.wide c.requires.narrow))
