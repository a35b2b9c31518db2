-- What the clouds' counts say of an act.
use Rattle.std.specs.Prelude.{ℕ, ◌≡◌, ◌⊎◌, ◌<◌, ◌≤◌, ◌==◌, ◌+◌, ◌-◌, ◌^◌, ◌&&◌, ◌||◌, if◌then◌else◌, Bool, true, false, not, Option, Some, List, Contains, min, nat_le}
use Rattle.nc_name.specs.Counts.{Rose}
use Rattle.nc_cloud.specs.Contents.{Grows}
use Rattle.nc_cloud.specs.Fleet.{got_count}
use Rattle.nc_cloud.specs.declared.fleet.Fleet.{Ghosts as FleetGhosts}
use Rattle.nc_state.specs.Clouds.{Clouds, count_of}
use Rattle.nc_state.specs.Vaults.{Vault}
use Rattle.nc_download.specs.declared.short.Bad.{Bad}
use Rattle.nc_download.specs.declared.short.Why.TheVariants.{Failed}
use Rattle.nc_fetch.specs.Costs.{ReadsWhole}
use Rattle.nc_words.specs.declared.act.Act.{Act}
use Rattle.nc_words.specs.declared.act.Act.TheVariants as act
use Rattle.nc_words.specs.Acts.{heals}
use Rattle.nc_vault.specs.declared.fault.Fault.TheVariants as fault
use Rattle.nc_vault.specs.declared.reply.Reply.{Reply}
use Rattle.nc_vault.specs.declared.reply.Reply.TheVariants as reply

-- a count has risen, or stands at its greatest value
abbrev pub rose : ℕ → ℕ → Bool
rose before now = nat_le (min (before + 1) (2 ^ 64 - 1)) now

-- a count isn't what it was
abbrev pub moved : ℕ → ℕ → Bool
moved before now = not (now == before)

-- the acts that list what each cloud holds
abbrev pub lists : Act → Bool
lists act.List = true
lists (act.Repair i) = true
lists (act.Restore first second) = true
lists act.Recover = true
lists act.Scrub = true
lists other = false

-- the acts that go on while one or two clouds fail
abbrev pub bears_failures : Act → Bool
bears_failures (act.Get name) = true
bears_failures (act.Stat name) = true
bears_failures act.List = true
bears_failures other = false

-- the clouds of which a count did so between: of failed gets and puts, or, where the act lists, of failed lists and deletes
abbrev pub counts_where : {A : Type 0} → (ℕ → ℕ → Bool) → FleetGhosts A → Act → A → A → Clouds
counts_where did F a old new c = did (F.faults old c) (F.faults new c) || (lists a && did (F.slips old c) (F.slips new c))

-- the clouds that may have failed the act: a count of theirs rose
abbrev pub failing_in : {A : Type 0} → FleetGhosts A → Act → A → A → Clouds
failing_in F a old new = counts_where rose F a old new

-- those that did, where counts are exact
abbrev pub failed_in : {A : Type 0} → FleetGhosts A → Act → A → A → Clouds
failed_in F a old new = counts_where moved F a old new

-- the count of this cloud rose; where counts are exact, that of no lower one changed
pub record IsLeastToRise (exact : Type 0) (n : ℕ) (before now : ℕ → ℕ) (c : ℕ) : Type 0 where
  pub rose_here : Rose (before c) (now c)
  pub least : exact → (d : ℕ) → d < c → d < n → now d ≡ before d

-- no count of n clouds changed
abbrev pub StayCounts : ℕ → (ℕ → ℕ) → (ℕ → ℕ) → Type 0
StayCounts n before now = (c : ℕ) → c < n → now c ≡ before c

-- A list failed on cloud c, before the act came to a name: nothing else was done.
pub record FailedToList {A : Type 0} (F : FleetGhosts A) (a : Act) (old new : A) (c : ℕ) (after : Option ℕ) : Type 0 where
  pub listing : lists a ≡ true
  pub first : after ≡ Some 0
  pub in_width : c < F.clouds old
  pub least : IsLeastToRise F.counts_exactly (F.clouds old) (F.slips old) (F.slips new) c
  pub faults : F.counts_exactly → StayCounts (F.clouds old) (F.faults old) (F.faults new)
  pub held : F.held new ≡ F.held old

-- three clouds failed or more, and c is the least of them
pub record IsLeastOfMany {A : Type 0} (F : FleetGhosts A) (a : Act) (old new : A) (c : ℕ) : Type 0 where
  pub in_width : c < F.clouds old
  pub failed : failing_in F a old new c ≡ true
  pub many : 3 ≤ count_of (F.clouds old) (failing_in F a old new)
  pub least : F.counts_exactly → (d : ℕ) → d < c → failed_in F a old new d ≡ false

-- cloud c is named as one that failed; of an act that bears failures, three have
abbrev pub NamesCloud : {A : Type 0} → Bool → FleetGhosts A → Act → A → A → ℕ → Option ℕ → Type 0
NamesCloud true F a old new c after = IsLeastOfMany F a old new c
NamesCloud false F a old new c after = IsLeastToRise F.counts_exactly (F.clouds old) (F.faults old) (F.faults new) c ⊎ FailedToList F a old new c after

-- no cloud is named: where counts are exact, none failed at a get or a put; of an act that bears failures, at most two failed
abbrev pub NamesNone : {A : Type 0} → Bool → FleetGhosts A → Act → A → A → Type 0
NamesNone true F a old new = F.counts_exactly → count_of (F.clouds old) (failed_in F a old new) ≤ 2
NamesNone false F a old new = F.counts_exactly → StayCounts (F.clouds old) (F.faults old) (F.faults new)

-- A cloud is named only where its count rose, and it is the least; and where one failed, or three, one is named. Where too few clouds
-- are good, those that failed are listed. A survivor whose chunk isn't good didn't fail, nor did a lower cloud.
abbrev pub CountsTell : {A : Type 0} → FleetGhosts A → Act → A → A → Reply → Type 0
CountsTell F a old new (reply.Stopped (fault.Cloud c) after) = NamesCloud (bears_failures a) F a old new c after
CountsTell F a old new (reply.Stopped (fault.Short bads) after) = Unit {0}
CountsTell F a old new (reply.Stopped fault.Memory after) = Unit {0}
CountsTell F a old new (reply.Stopped (fault.Damaged c r how) after) = F.counts_exactly → (d : ℕ) → d ≤ c → F.faults new d ≡ F.faults old d
CountsTell F a old new other = NamesNone (bears_failures a) F a old new

-- the act that reads files from the other clouds while some of them fail
abbrev pub restores : Act → Bool
restores (act.Restore first second) = true
restores other = false

-- no count of a cloud that the act makes whole changed
abbrev pub StayHealed : Act → (ℕ → ℕ) → (ℕ → ℕ) → Type 0
StayHealed a before now = (c : ℕ) → heals a c ≡ true → now c ≡ before c

-- the count of this cloud rose; where counts are exact, that of no lower one that the act makes whole changed
pub record IsLeastHealed (exact : Type 0) (a : Act) (before now : ℕ → ℕ) (c : ℕ) : Type 0 where
  pub rose_here : Rose (before c) (now c)
  pub least : exact → (d : ℕ) → d < c → heals a d ≡ true → now d ≡ before d

-- each cloud that is listed as one that failed did: its count rose
pub record HaveFailed (bads : List Bad) (before now : ℕ → ℕ) : Type 0 where
  pub each : (b : Bad) → Contains bads b → b.why ≡ Failed → Rose (before b.cloud) (now b.cloud)

-- The same of a restore: only the clouds that it makes whole must not fail.
abbrev pub RestoreTells : {A : Type 0} → FleetGhosts A → Act → A → A → Reply → Type 0
RestoreTells F a old new (reply.Stopped (fault.Cloud c) after) = IsLeastHealed F.counts_exactly a (F.faults old) (F.faults new) c ⊎ FailedToList F a old new c after
RestoreTells F a old new (reply.Stopped (fault.Short bads) after) = (F.counts_exactly → StayHealed a (F.faults old) (F.faults new)) × HaveFailed bads (F.faults old) (F.faults new)
RestoreTells F a old new (reply.Stopped fault.Memory after) = Unit {0}
RestoreTells F a old new other = F.counts_exactly → StayHealed a (F.faults old) (F.faults new)

abbrev pub CountsFor : {A : Type 0} → Bool → FleetGhosts A → Act → A → A → Reply → Type 0
CountsFor true F a old new answer = RestoreTells F a old new answer
CountsFor false F a old new answer = CountsTell F a old new answer

abbrev pub CountsSay : {A : Type 0} → FleetGhosts A → Act → A → A → Reply → Type 0
CountsSay F a old new answer = CountsFor (restores a) F a old new answer

-- no count fell
pub record CountsGrow {A : Type 0} (F : FleetGhosts A) (old new : A) : Type 0 where
  pub faults : Grows (F.faults old) (F.faults new)
  pub slips : Grows (F.slips old) (F.slips new)

-- The acts but get, repair, restore and scrub read no chunk; nor does a get that the metadata refuses.
abbrev pub may_read_chunks : Act → Reply → Bool
may_read_chunks (act.Get name) (reply.Bytes v) = true
may_read_chunks (act.Get name) (reply.Stopped (fault.Short bads) after) = true
may_read_chunks (act.Get name) (reply.Stopped fault.Memory after) = true
may_read_chunks (act.Repair i) answer = true
may_read_chunks (act.Restore first second) answer = true
may_read_chunks act.Scrub answer = true
may_read_chunks a other = false

abbrev pub CostsBy : Bool → (ℕ → ℕ) → (ℕ → ℕ) → Type 0
CostsBy true before now = Unit {0}
CostsBy false before now = (c : ℕ) → now c ≡ before c

-- how many chunks of so many files an act on all names reads from cloud c: a repair one of each, but none from the repaired cloud
abbrev pub chunks_from : Act → ℕ → ℕ → ℕ
chunks_from (act.Repair i) files c = if c == i then 0 else files
chunks_from other files c = 0

-- cloud by cloud, so many chunks were read
abbrev pub TookFrom : ℕ → (ℕ → ℕ) → (ℕ → ℕ) → (ℕ → ℕ) → Type 0
TookFrom n before now more = (c : ℕ) → c < n → now c ≡ got_count (before c) (more c)

-- a repair that is done took one of the two chunks that each other cloud holds of each file, and none from the repaired cloud
abbrev pub TookBy : ℕ → Act → Reply → (ℕ → ℕ) → (ℕ → ℕ) → Type 0
TookBy n (act.Repair i) (reply.Repaired files) before now = TookFrom n before now (chunks_from (act.Repair i) files)
TookBy n a answer before now = Unit {0}

-- What an act reads of chunks on clouds that stand: of a file that it gives, both chunks of the first n - 2 clouds and none of the
-- others, where none is damaged and none failed.
abbrev pub ReadsBy : {A : Type 0} → FleetGhosts A → A → A → Act → Reply → Vault → Type 0
ReadsBy F old new (act.Get name) (reply.Bytes v) V =
    ReadsWhole (F.clouds old) (failing_in F (act.Get name) old new) (F.chunk_gets old) (F.chunk_gets new) V
ReadsBy F old new a answer V = Unit {0}

-- the same of an act that only reads; any other reads no chunk
abbrev pub ReadsFor : {A : Type 0} → Bool → FleetGhosts A → A → A → Act → Reply → Vault → Type 0
ReadsFor true F old new a answer V = ReadsBy F old new a answer V
ReadsFor false F old new a answer V = Unit {0}
