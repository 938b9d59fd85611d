-- What was read, by path.
use Rattle.std.specs.Prelude.{◌≡◌, ℕ, ◌≤◌, ◌<◌, true, ⊤, List, [], ◌++◌, Option, Some, None, Result, Ok, Err}
use Rattle.std.specs.Prelude.{length}
use Rattle.std.specs.Prelude.{map, slice_get, ◌==◌}
use Rattle.std.specs.List.{AllByRecursion, IsDistinct}
use Rattle.std.specs.Cmp.Lexicographic.{pointwise}
use Rattle.case_table.specs.Counts.{Rose}
use Rattle.io_edge.specs.Source.{File, SourceState, file_at}
use Rattle.io_edge.specs.declared.source.Read.{Read}
use Rattle.io_edge.specs.declared.source.Read.TheVariants as read
use Rattle.module_loader.specs.declared.contents.Content.{Content}
use Rattle.module_loader.specs.declared.contents.Content.TheVariants as content
use Rattle.module_loader.specs.declared.fault.LoadFault.{LoadFault}
use Rattle.module_loader.specs.declared.fault.LoadFault.TheVariants as fault
use Rattle.module_loader.specs.Files.{most_module}

-- what stands at a path, by the answer of a read
abbrev pub content_of : Read → Result Content LoadFault
content_of (read.Found bytes) = Ok (content.Found bytes)
content_of read.Absent = Ok content.Absent
content_of read.TooLong = Ok content.TooLong
content_of read.Failed = Err fault.ReadFault
content_of read.OutOfMemory = Err fault.OutOfMemory

-- a path and what stands there
abbrev pub Entry : Type 0
Entry = List ℕ × Content

-- the file that was found is no longer than a module may be
abbrev pub IsShort : Entry → Type 0
IsShort (path, content.Found bytes) = length bytes ≤ most_module
IsShort _ = ⊤

abbrev pub paths : List Entry → List (List ℕ)
paths entries = map (λ (entry : Entry). entry.0) entries

-- each path was read once, and what was found is short
pub record AreRead (entries : List Entry) : Type 0 where
  pub short : AllByRecursion IsShort entries
  pub once : IsDistinct (pointwise ◌==◌) (paths entries)

-- the content is that of a file, which is or isn't there
abbrev pub Tells : Content → Option (List ℕ) → Type 0
Tells (content.Found bytes) file = file ≡ Some bytes
Tells content.Absent file = file ≡ None
Tells content.TooLong file = (bytes : List ℕ) × (file ≡ Some bytes) × (most_module < length bytes)

-- what was read is what these files hold
abbrev pub Agree : List Entry → List File → Type 0
Agree entries files = AllByRecursion (λ (entry : Entry). Tells entry.1 (file_at files entry.0)) entries

-- some reads
pub record Reading (before after : SourceState) (old new : List Entry) : Type 0 where
  pub same_files : after.files ≡ before.files
  pub counted : before.faults ≤ after.faults
  pub steady : before.steady ≡ true → (after.steady ≡ true) × (after.faults ≡ before.faults)
  pub more : List Entry
  pub grows : new ≡ old ++ more
  pub agrees : (files : List File) → before.files ≡ Some files → Agree old files → Agree new files

-- reads failed: the source did, or there was no memory
abbrev pub Fails : SourceState → SourceState → LoadFault → Type 0
Fails before after fault.ReadFault =
    Rose before.faults after.faults × (before.steady ≡ true → ⊥)
Fails before after fault.OutOfMemory = ⊤
Fails before after _ = ⊥

-- what stands at an index
abbrev pub content_at : List Entry → ℕ → Option Content
content_at entries index = slice_get (map (λ (entry : Entry). entry.1) entries) index

-- the path stands at an index
abbrev pub StandsAt : List Entry → List ℕ → ℕ → Type 0
StandsAt entries path index = (what : Content) × (slice_get entries index ≡ Some (path, what))
