-- What a source tells, and what a read of it answers.
use Rattle.std.specs.Prelude.{◌≡◌, ◌≢◌, ℕ, ◌≤◌, ◌<◌, Bool, true, List, [], ◌∷◌, length}
use Rattle.std.specs.Prelude.{Option, Some, None, IfSome, if◌then◌else◌}
use Rattle.std.specs.Str.{bytes_eq}
use Rattle.case_table.specs.Counts.{Rose}
use Rattle.io_edge.specs.declared.source.Read.{Read}
use Rattle.io_edge.specs.declared.source.Read.TheVariants.{Found, Absent, TooLong}
use Rattle.io_edge.specs.declared.source.Read.TheVariants.{Failed, OutOfMemory}

-- a file: its path and its bytes
abbrev pub File : Type 0
File = List ℕ × List ℕ

-- the bytes of the file at a path; where several files have one path, the first counts
abbrev pub file_at : List File → List ℕ → Option (List ℕ)
file_at [] path = None
file_at (file ∷ files) path = if bytes_eq path file.0 then Some file.1 else file_at files path

-- what a source tells: its files, if it tells any, how often it failed, and whether it never fails
pub record SourceState : Type 0 where
  pub files : Option (List File)
  pub faults : ℕ
  pub steady : Bool

-- the answer for a file that is or isn't there, of which at most so many bytes are wanted
abbrev pub Answers : Read → ℕ → Option (List ℕ) → Type 0
Answers (Found bytes) most file = file ≡ Some bytes
Answers Absent most file = file ≡ None
Answers TooLong most file = (bytes : List ℕ) × (file ≡ Some bytes) × (most < length bytes)
Answers Failed most file = Unit {0}
Answers OutOfMemory most file = Unit {0}

-- what was found is no longer than what was wanted
abbrev pub IsWithin : Read → ℕ → Type 0
IsWithin (Found bytes) most = length bytes ≤ most
IsWithin _ most = Unit {0}

-- a source that never fails doesn't fail, and stays so
pub record StaysSteady (answer : Read) (before after : SourceState) : Type 0 where
  pub succeeds : answer ≢ Failed
  pub steady : after.steady ≡ true
  pub same_faults : after.faults ≡ before.faults

-- what one read does, over every source
pub record Reads (path : List ℕ) (most : ℕ) (answer : Read) (before after : SourceState)
    : Type 0 where
  pub same_files : after.files ≡ before.files
  pub told : IfSome before.files (λ files. Answers answer most (file_at files path))
  pub within : IsWithin answer most
  pub counted : before.faults ≤ after.faults
  pub failed : answer ≡ Failed → Rose before.faults after.faults
  pub stays_steady : before.steady ≡ true → StaysSteady answer before after
