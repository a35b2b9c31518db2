use Rattle.std.proofs.Common.{◌<◌, ◌≤◌, ◌%◌, ◌^◌, ℕ, List, length, sym, subst, arith}
use Rattle.std.proofs.lemmas.Nat.{mod_below}
use Rattle.nc_mill.proofs.Words.{file_short}
use Rattle.nc_mill.proofs.milling.mill.Goals as goal

pub run-requires-clause-fits : goal.run-requires-clause-fits
run-requires-clause-fits g c κs within = record {
  wide = c.requires.wide.0;
  narrow = c.requires.wide.1;
  setting = c.requires.setting;
  lost = subst (λ (w : ℕ). c.args.number % w < c.args.width) (sym c.from.ensures) (mod_below c.args.number c.args.width (omega (arith, c.requires.wide.0)));
  name = c.mill_name.ensures.same;
  is_name = c.mill_name.ensures.name;
  short = subst (λ (v : List ℕ). length v ≤ 2 ^ 26) (sym c.in-Ok.ensures) (file_short c.args.number);
}
