-- The line that a run tells of its fault.
use Rattle.std.specs.Prelude.{ℕ, ◌≡◌, ◌++◌, Option, None, Some, List, [], ◌∷◌, map, codes, decimal}
use Rattle.std.specs.List.{concat}
use Rattle.std.specs.declared.result.Result.{Result}
use Rattle.nc_download.specs.declared.short.Bad.{Bad}
use Rattle.nc_download.specs.declared.short.How.{How}
use Rattle.nc_download.specs.declared.short.How.TheVariants.{Missing, Broken, Marked}
use Rattle.nc_download.specs.declared.short.Why.{Why}
use Rattle.nc_download.specs.declared.short.Why.TheVariants.{Failed, Row}
use Rattle.nc_name.specs.declared.name.NameFault.{NameFault}
use Rattle.nc_name.specs.declared.name.NameFault.TheVariants as name
use Rattle.nc_stream.specs.declared.failed.Failed.{Failed as WriteFailed}
use Rattle.nc_stream.specs.declared.sink.Sink.{Ghosts as SinkGhosts}
use Rattle.nc_vault.specs.declared.fault.Fault.{Fault}
use Rattle.nc_vault.specs.declared.fault.Fault.TheVariants as fault
use Rattle.nc_words.specs.Sending.{Sends}
use Rattle.nc_run.specs.declared.ending.Ending.{Ending}
use Rattle.nc_run.specs.declared.status.Status.{Status}
use Rattle.nc_run.specs.declared.status.Status.TheVariants as st

-- ---- clouds that give nothing

-- why a chunk isn't good, in a word
abbrev pub how_text : How → List ℕ
how_text Missing = codes "missing"
how_text Broken = codes "broken"
how_text Marked = codes "changed"

-- why a cloud gives nothing: it failed, or its chunk of this row isn't good
abbrev pub why_text : Why → List ℕ
why_text Failed = codes " failed"
why_text (Row row how) = concat (codes " row " ∷ decimal row ∷ codes " " ∷ how_text how ∷ [])

abbrev pub bad_text : Bad → List ℕ
bad_text bad = decimal bad.cloud ++ why_text bad.why

abbrev pub next_bad : Bad → List ℕ
next_bad bad = codes ", " ++ bad_text bad

-- all of them, with commas between
abbrev pub bads_text : List Bad → List ℕ
bads_text [] = []
bads_text (bad ∷ bads) = bad_text bad ++ concat (map next_bad bads)

-- ---- causes

-- why an act wasn't done
abbrev pub cause_text : Fault → List ℕ
cause_text fault.NoFile = codes "no such file"
cause_text (fault.Cloud c) = concat (codes "cloud " ∷ decimal c ∷ codes " failed" ∷ [])
cause_text (fault.Short bads) = codes "too few clouds: " ++ bads_text bads
cause_text (fault.Spent tried) = concat (codes "none of " ∷ decimal tried ∷ codes " candidates is good" ∷ [])
cause_text fault.Worn = codes "the name's generations are used up"
cause_text (fault.Damaged c row how) = concat (codes "cloud " ∷ decimal c ∷ codes " row " ∷ decimal row ∷ codes " is " ∷ how_text how ∷ [])
cause_text (fault.Conflict generation a b) =
    concat (codes "clouds " ∷ decimal a ∷ codes " and " ∷ decimal b ∷ codes " differ at generation " ∷ decimal generation ∷ [])
cause_text (fault.Misplaced c said width) =
    concat (codes "cloud " ∷ decimal c ∷ codes " holds objects of cloud " ∷ decimal said ∷ codes " of " ∷ decimal width ∷ [])
cause_text (fault.Unsound a b) = concat (codes "rows without clouds " ∷ decimal a ∷ codes " and " ∷ decimal b ∷ codes " are dependent" ∷ [])
cause_text fault.Memory = codes "out of memory"

-- why a name is none
abbrev pub name_text : NameFault → List ℕ
name_text name.Empty = codes "the name is empty"
name_text (name.Long len) = concat (codes "the name has " ∷ decimal len ∷ codes " bytes, at most 100" ∷ [])
name_text (name.Control at) = concat (codes "the name has a control byte at " ∷ decimal at ∷ [])

-- why a run ended
abbrev pub status_text : Status → List ℕ
status_text st.Ok = []
status_text (st.Width w) = concat (codes "width " ∷ decimal w ∷ codes " is not 4 to 10" ∷ [])
status_text st.Usage =
    codes "usage: nccloud CLOUDS [--seed HEX64] [--budget N] [--workers N] COMMAND [ARGUMENT]..."
status_text (st.Name cause) = name_text cause
status_text (st.BatchLine k) = concat (codes "batch line " ∷ decimal k ∷ codes " is not a command" ∷ [])
status_text st.TooLong = codes "the input is longer than 67108864 bytes"
status_text st.ReadFault = codes "the input failed"
status_text st.WriteFault = codes "the output failed"
status_text (st.Vault cause) = cause_text cause

-- ---- the line

-- which line of a batch it was
abbrev pub line_text : Option ℕ → List ℕ
line_text None = []
line_text (Some k) = concat (codes "line " ∷ decimal k ∷ codes ": " ∷ [])

-- with how many names an act on all of them was done
abbrev pub after_text : Option ℕ → List ℕ
after_text None = []
after_text (Some k) = concat (codes "after " ∷ decimal k ∷ codes " names: " ∷ [])

abbrev pub fault_line : Ending → List ℕ
fault_line e = concat (codes "nccloud: " ∷ line_text e.line ∷ after_text e.after ∷ status_text e.status ∷ codes "\n" ∷ [])

-- the line was written, or, where a write failed, a beginning of it
pub record TellsLine {B : Type 0} (E : SinkGhosts B) (e : Ending) (old new : B) : Type 0 where
  pub result : Result Unit WriteFailed
  pub sends : Sends E (fault_line e) old new result

-- nothing is told of a run that ended Ok, else its line
abbrev pub TellsBy : {B : Type 0} → SinkGhosts B → Ending → B → B → Status → Type 0
TellsBy E e old new st.Ok = new ≡ old
TellsBy E e old new other = TellsLine E e old new

abbrev pub Tells : {B : Type 0} → SinkGhosts B → Ending → B → B → Type 0
Tells E e old new = TellsBy E e old new e.status
