-- What an act prints.
use Rattle.std.specs.Prelude.{ℕ, Bool, true, false, Option, None, Some, List, [], map, codes}
use Rattle.std.specs.List.{concat}
use Rattle.nc_scrub.specs.declared.flaw.Part.{Part}
use Rattle.nc_scrub.specs.declared.flaw.Part.TheVariants.{Chunk, Meta}
use Rattle.nc_scrub.specs.declared.flaw.State.{State}
use Rattle.nc_scrub.specs.declared.flaw.State.TheVariants.{Broken, Marked, Missing, Old}
use Rattle.nc_vault.specs.declared.reply.FileRow.{FileRow}
use Rattle.nc_vault.specs.declared.reply.NamedFlaw.{NamedFlaw}
use Rattle.nc_vault.specs.declared.reply.Reply.{Reply}
use Rattle.nc_vault.specs.declared.reply.Reply.TheVariants as reply
use Rattle.nc_words.specs.Texts.{about_text, flaw_text, hex_text, number_text, row_text}

abbrev pub file_row_text : FileRow → List ℕ
file_row_text row = row_text row.len row.name

-- ---- a part that isn't right

-- why it isn't, in a word
abbrev pub state_text : State → List ℕ
state_text Missing = codes "missing"
state_text Broken = codes "broken"
state_text Old = codes "old"
state_text Marked = codes "changed"

-- the row of a chunk; metadata has none
abbrev pub row_of : Part → Option ℕ
row_of Meta = None
row_of (Chunk row) = Some row

abbrev pub named_flaw_text : NamedFlaw → List ℕ
named_flaw_text f = flaw_text f.flaw.cloud (row_of f.flaw.part) (state_text f.flaw.state) f.name

-- ---- a reply

-- a file's bytes: as they are, or in a batch as a line of hexadecimal digits
abbrev pub bytes_text : Bool → List ℕ → List ℕ
bytes_text false bytes = bytes
bytes_text true bytes = hex_text bytes

-- what an act that was done prints, alone or in a batch; one that wasn't prints nothing
abbrev pub text_of : Bool → Reply → List ℕ
text_of batch (reply.Stored generation) = number_text (codes "generation ") generation
text_of batch (reply.Removed generation) = number_text (codes "generation ") generation
text_of batch (reply.Bytes bytes) = bytes_text batch bytes
text_of batch (reply.Listing rows) = concat (map file_row_text rows)
text_of batch (reply.About generation len witnessed) = about_text generation len witnessed
text_of batch (reply.Repaired files) = number_text (codes "repaired ") files
text_of batch (reply.Restored objects) = number_text (codes "restored ") objects
text_of batch (reply.Settled names) = number_text (codes "settled ") names
text_of batch (reply.Damage flaws) = concat (map named_flaw_text flaws)
text_of batch (reply.Stopped cause after) = []
