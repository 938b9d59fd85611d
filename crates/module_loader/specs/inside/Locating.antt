-- What is found for a module's name.
use Rattle.std.specs.Prelude.{◌≡◌, ℕ, ◌<◌, List, Option, Some, None, length}
use Rattle.io_edge.specs.Source.{File}
use Rattle.module_set.specs.declared.module_name.ModuleName.{ModuleName}
use Rattle.module_loader.specs.declared.contents.Content.TheVariants as content
use Rattle.module_loader.specs.declared.files.Located.{Located}
use Rattle.module_loader.specs.declared.files.Located.TheVariants as located
use Rattle.module_loader.specs.Files.{file_under, most_module}
use Rattle.module_loader.specs.inside.Contents.{Entry, Agree, content_at}

-- the file of a module under all files that hold what was read
abbrev pub AgreesOn : List (List ℕ) → ModuleName → List Entry → (Option (List ℕ) → Type 0) → Type 0
AgreesOn roots name entries Claim =
    (files : List File) → Agree entries files → Claim (file_under files roots name)

abbrev pub IsLocated : List (List ℕ) → ModuleName → List Entry → Located → Type 0
IsLocated roots name entries (located.At index) =
    (bytes : List ℕ) × (content_at entries index ≡ Some (content.Found bytes))
    × AgreesOn roots name entries (λ file. file ≡ Some bytes)
IsLocated roots name entries located.TooLong =
    AgreesOn roots name entries (λ file. (bytes : List ℕ) × (file ≡ Some bytes) × (most_module < length bytes))
IsLocated roots name entries located.Nowhere = AgreesOn roots name entries (λ file. file ≡ None)
