-- What an act on all names says of a name whose objects are the same.
use Rattle.std.proofs.Common.{ℕ, List}
use Rattle.nc_cloud.specs.Contents.{Contents}
use Rattle.nc_words.specs.declared.act.Act.{Act}
use Rattle.nc_words.specs.declared.act.Act.TheVariants as act
use Rattle.nc_words.specs.declared.setting.Setting.{Setting}
use Rattle.nc_words.specs.Acts.{heals}
use Rattle.nc_vault.specs.declared.fault.Fault.{Fault}
use Rattle.nc_vault.specs.Saying.{LeavesName, NameRefuses}
use Rattle.nc_vault.proofs.SameFile.{restore_refuses_there, restores_from, restores_to}
use Rattle.nc_vault.proofs.SameName.{SameObjects, repair_refuses_there, repairs_from, repairs_to, settles_from, settles_to, write_refuses_there}

module _ (n : ℕ) (F G : Contents) (name : List ℕ) (same : SameObjects F G name) where
  pub leaves_from : (s : Setting) (a : Act) (H : Contents) → LeavesName n s a name F H → LeavesName n s a name G H
  leaves_from s (act.Put own) H = settles_from n F G name same H
  leaves_from s (act.Get own) H = settles_from n F G name same H
  leaves_from s (act.Remove own) H = settles_from n F G name same H
  leaves_from s act.List H = settles_from n F G name same H
  leaves_from s (act.Stat own) H = settles_from n F G name same H
  leaves_from s (act.Repair i) H = repairs_from n F G name same s i H
  leaves_from s (act.Restore first second) H = restores_from n F G name same (heals (act.Restore first second)) H
  leaves_from s act.Recover H = settles_from n F G name same H
  leaves_from s act.Scrub H = settles_from n F G name same H

  pub leaves_to : (s : Setting) (a : Act) (H : Contents) → LeavesName n s a name H F → LeavesName n s a name H G
  leaves_to s (act.Put own) H = settles_to n F G name same H
  leaves_to s (act.Get own) H = settles_to n F G name same H
  leaves_to s (act.Remove own) H = settles_to n F G name same H
  leaves_to s act.List H = settles_to n F G name same H
  leaves_to s (act.Stat own) H = settles_to n F G name same H
  leaves_to s (act.Repair i) H = repairs_to n F G name same s i H
  leaves_to s (act.Restore first second) H = restores_to n F G name same (heals (act.Restore first second)) H
  leaves_to s act.Recover H = settles_to n F G name same H
  leaves_to s act.Scrub H = settles_to n F G name same H

  pub refuses_from : (s : Setting) (a : Act) (H : Contents) (f : Fault) → NameRefuses n s a name F H f → NameRefuses n s a name G H f
  refuses_from s (act.Put own) H f = write_refuses_there n F G name same s f
  refuses_from s (act.Get own) H f = write_refuses_there n F G name same s f
  refuses_from s (act.Remove own) H f = write_refuses_there n F G name same s f
  refuses_from s act.List H f = write_refuses_there n F G name same s f
  refuses_from s (act.Stat own) H f = write_refuses_there n F G name same s f
  refuses_from s (act.Repair i) H f = repair_refuses_there n F G name same s i H f
  refuses_from s (act.Restore first second) H f = restore_refuses_there n F G name same (heals (act.Restore first second)) f
  refuses_from s act.Recover H f = write_refuses_there n F G name same s f
  refuses_from s act.Scrub H f = write_refuses_there n F G name same s f
