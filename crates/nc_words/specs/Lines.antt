-- What a line of a batch asks for.
use Rattle.std.specs.Prelude.{ℕ, ◌≡◌, ◌≢◌, ◌<◌, ◌≤◌, ◌⊎◌, Option, None, Some, List, [], ◌∷◌, ◌++◌, IfSome, Ok, codes, length}
use Rattle.hex.specs.Hex.{decode_of}
use Rattle.nc_name.specs.Names.{IsName}
use Rattle.nc_words.specs.declared.act.Act.{Act}
use Rattle.nc_words.specs.declared.act.Act.TheVariants as act
use Rattle.nc_words.specs.declared.lines.LineFault.{LineFault}
use Rattle.nc_words.specs.declared.lines.LineFault.TheVariants.{Outside, Memory}
use Rattle.nc_words.specs.Acts.{subject}
use Rattle.nc_words.specs.Numbers.{IsCloudNumber}

-- the bytes that a text is: none for `-`, else those of an even number, at least two, of hexadecimal digits of either case
abbrev pub IsData : List ℕ → List ℕ → Type 0
IsData text bytes = ((text ≡ codes "-") × (bytes ≡ [])) ⊎ ((2 ≤ length text) × (decode_of text ≡ Ok bytes))

-- The line puts these bytes under this name, which may hold spaces: their text has none.
pub record PutsIn (line name bytes : List ℕ) : Type 0 where
  pub text : List ℕ
  pub line_is : line ≡ codes "put " ++ name ++ codes " " ++ text
  pub is_data : IsData text bytes

-- the line is this word, a space, and the number of this cloud of n
pub record NumbersCloud (n : ℕ) (word line : List ℕ) (cloud : ℕ) : Type 0 where
  pub text : List ℕ
  pub line_is : line ≡ word ++ codes " " ++ text
  pub number : IsCloudNumber n text cloud

-- the line is `restore`, a space, the number of a cloud of n, a space, and the number of another
pub record NumbersTwo (n : ℕ) (line : List ℕ) (first second : ℕ) : Type 0 where
  pub text : List ℕ
  pub other : List ℕ
  pub line_is : line ≡ codes "restore " ++ text ++ codes " " ++ other
  pub number : IsCloudNumber n text first
  pub other_number : IsCloudNumber n other second
  pub differ : second ≢ first

-- the line asks n clouds for this act, the rule on names aside; only a put has bytes
abbrev pub LineMeans : ℕ → List ℕ → Act → List ℕ → Type 0
LineMeans n line (act.Put name) bytes = PutsIn line name bytes
LineMeans n line (act.Get name) bytes = (line ≡ codes "get " ++ name) × (bytes ≡ [])
LineMeans n line (act.Remove name) bytes = (line ≡ codes "rm " ++ name) × (bytes ≡ [])
LineMeans n line (act.Stat name) bytes = (line ≡ codes "stat " ++ name) × (bytes ≡ [])
LineMeans n line act.List bytes = (line ≡ codes "ls") × (bytes ≡ [])
LineMeans n line (act.Repair cloud) bytes = NumbersCloud n (codes "repair") line cloud × (bytes ≡ [])
LineMeans n line (act.Restore first None) bytes = NumbersCloud n (codes "restore") line first × (bytes ≡ [])
LineMeans n line (act.Restore first (Some second)) bytes = NumbersTwo n line first second × (bytes ≡ [])
LineMeans n line act.Scrub bytes = (line ≡ codes "scrub") × (bytes ≡ [])
LineMeans n line act.Recover bytes = (line ≡ codes "recover") × (bytes ≡ [])

-- the line asks n clouds for this
pub record LineAsks (n : ℕ) (line : List ℕ) (a : Act) (bytes : List ℕ) : Type 0 where
  pub means : LineMeans n line a bytes
  pub name : IfSome (subject a) IsName

-- it asks for nothing
pub record IsOutside (n : ℕ) (line : List ℕ) : Type 0 where
  pub none : (a : Act) (bytes : List ℕ) → LineAsks n line a bytes → ⊥

-- why a line isn't done; memory may run out at any line
abbrev pub RefusesLine : ℕ → List ℕ → LineFault → Type 0
RefusesLine n line Outside = IsOutside n line
RefusesLine n line Memory = Unit {0}

-- ---- a law

-- A line asks for one act with one list of bytes.
abbrev pub LineMeansOne : Type 0
LineMeansOne = (n : ℕ) (line : List ℕ) (a b : Act) (x y : List ℕ) → LineAsks n line a x → LineAsks n line b y → (a ≡ b) × (x ≡ y)
