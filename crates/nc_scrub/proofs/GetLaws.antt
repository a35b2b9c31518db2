-- How many chunks a round of gets reads from a cloud.
use Rattle.std.proofs.Common.{◌≡◌, ◌≤◌, ◌+◌, ℕ, List, arith}
use Rattle.nc_cloud.specs.declared.fleet.Ask.{Ask}
use Rattle.nc_cloud.specs.Deciding.{AreAscending}
use Rattle.nc_cloud.specs.Fleet.{chunks_got, got_count}
use Rattle.nc_download.proofs.GotLaws.{few_got}

pub round_reads : (n : ℕ) (asks : List Ask) → AreAscending (λ a. a.cloud) n asks → (c before now : ℕ) → now ≡ got_count before (chunks_got c asks) → now ≤ before + 1
round_reads n asks by c before now is = let few : chunks_got c asks ≤ 1 = few_got c asks by.rising in omega (arith, few, is)
