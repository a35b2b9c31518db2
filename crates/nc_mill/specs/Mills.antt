-- What a mill makes and tells.
use Rattle.std.specs.Prelude.{ℕ, ◌≡◌, ◌+◌, ◌%◌, ◌++◌, ◌⊎◌, Some, List, codes}
use Rattle.sha2.specs.Sha256.{sha256}
use Rattle.nc_bytes.specs.Bytes.{bytes_8}
use Rattle.nc_code.specs.Good.{plan_of}
use Rattle.nc_nextloss.specs.GoodCodes.{GoodParts}
use Rattle.nc_search.specs.Searches.{IsStart, NoMend, NoStart}
use Rattle.nc_search.specs.Stream.{draw_key, stream_part}
use Rattle.nc_words.specs.declared.setting.Setting.{Setting}
use Rattle.nc_mill.specs.declared.milled.MillFault.{MillFault}
use Rattle.nc_mill.specs.declared.milled.MillFault.TheVariants.{Memory, Spent}
use Rattle.nc_mill.specs.declared.milled.Milled.{Milled}

-- the name of the file
abbrev pub mill_name : List ℕ
mill_name = codes "mill"

-- the key of the stream that a number stands for: the SHA-256 (FIPS 180-4) of the text `mill` and the number
abbrev pub mill_key : ℕ → List ℕ
mill_key number = sha256 (codes "mill" ++ bytes_8 number)

-- the file of a number: the first 8 MiB of its stream
unfoldable pub mill_file : ℕ → List ℕ
mill_file number = stream_part (mill_key number) 0 8388608

-- A file was put on n clouds, a cloud lost and repaired, and this file came back.
pub record IsMilled (n number : ℕ) (m : Milled) : Type 0 where
  pub lost : m.lost ≡ number % n
  pub fetched : m.fetched + 1 ≡ n
  pub digest : m.digest ≡ sha256 (mill_file number)

-- what the code of the file's version of this generation is drawn with
abbrev pub mill_draw : Setting → ℕ → List ℕ
mill_draw s generation = draw_key s.seed mill_name generation

-- a code is drawn for the file, but none for its repair
pub record DrawsNoRepair (n : ℕ) (s : Setting) (lost : ℕ) : Type 0 where
  pub good : GoodParts
  pub index : ℕ
  pub drawn : IsStart n (mill_draw s 1) s.budget index good
  pub none : NoMend good.code (Some (plan_of good.witnesses lost)) lost (mill_draw s 2) s.budget

-- no code is drawn for the file, or none for its repair
abbrev pub DrawsNone : ℕ → Setting → ℕ → Type 0
DrawsNone n s lost = NoStart n (mill_draw s 1) s.budget ⊎ DrawsNoRepair n s lost

-- why a mill tells nothing
abbrev pub RefusesMill : ℕ → Setting → ℕ → MillFault → Type 0
RefusesMill n s number (Spent tried) = (tried ≡ s.budget) × DrawsNone n s (number % n)
RefusesMill n s number Memory = Unit {0}
