-- What is loaded for a module's name.
use Rattle.std.specs.Prelude.{◌≡◌, ⊤, Bool, ℕ, ◌≤◌, ◌<◌, List, Option, Some, None, Result, Ok, Err, length}
use Rattle.io_edge.specs.Source.{File, SourceState}
use Rattle.mdl_syntax.specs.Modules.{module_of}
use Rattle.mdl_syntax.specs.declared.imports.ModuleRef.{ModuleRef}
use Rattle.module_set.specs.declared.module_name.ModuleName.{ModuleName}
use Rattle.module_set.specs.Imports.{meant, bare}
use Rattle.module_loader.specs.declared.fault.LoadFault.{LoadFault}
use Rattle.module_loader.specs.declared.fault.LoadFault.TheVariants as fault
use Rattle.module_loader.specs.declared.members.Loaded.{Loaded}
use Rattle.module_loader.specs.Files.{Packages, text_of, has_file, most_module}
use Rattle.module_loader.specs.Members.{IsMember, IsModuleText}
use Rattle.module_set.specs.Members.{Member}
use Rattle.module_loader.specs.TextFaults.{RefusesBytes, RefusesWords}
use Rattle.module_loader.specs.inside.Contents.{Entry, Agree, Fails}
use Rattle.module_loader.specs.inside.Texts.{ArePlaces}

-- the packages of these roots over some files
abbrev pub over : List (List ℕ) → List File → Packages
over roots files = record { roots = roots; files = files }

-- a claim holds of all files that hold what was read
abbrev pub Surely : List (List ℕ) → List Entry → (Packages → Type 0) → Type 0
Surely roots entries Claim = (files : List File) → Agree entries files → Claim (over roots files)

abbrev pub member_of : ModuleName → Loaded → Member
member_of name loaded = record { name = name; text = loaded.text; tree = module_of loaded.module }

-- a module's text and tree, or nothing where it has none
abbrev pub IsLoaded : List (List ℕ) → ModuleName → List Entry → Option Loaded → Type 0
IsLoaded roots name entries (Some loaded) =
    Surely roots entries (λ packages. IsMember packages (member_of name loaded))
    × ArePlaces loaded.text (module_of loaded.module) × (length loaded.text ≤ most_module)
IsLoaded roots name entries None = Surely roots entries (λ packages. text_of packages name ≡ None)

-- what is read from a text of the module
abbrev pub ReadIn : ModuleName → List ℕ → Result (Option Loaded) LoadFault → Type 0
ReadIn name bytes (Ok None) = ⊥
ReadIn name bytes (Ok (Some loaded)) =
    (loaded.text ≡ bytes) × IsModuleText bytes (module_of loaded.module) × ArePlaces bytes (module_of loaded.module)
ReadIn name bytes (Err (fault.Lex own found place)) = (own ≡ name) × RefusesBytes bytes found place
ReadIn name bytes (Err (fault.Parse own found place)) = (own ≡ name) × RefusesWords bytes found place
ReadIn name bytes (Err fault.OutOfMemory) = ⊤
ReadIn name bytes (Err _) = ⊥

-- the module's text is surely this
abbrev pub HasText : List (List ℕ) → ModuleName → List Entry → List ℕ → Type 0
HasText roots name entries bytes = Surely roots entries (λ packages. text_of packages name ≡ Some bytes)

-- why the module of a name isn't loaded
abbrev pub HasMemberFault : SourceState → SourceState → List (List ℕ) → ModuleName → List Entry → LoadFault → Type 0
HasMemberFault before after roots name entries (fault.TooLong own) =
    (own ≡ name)
    × Surely roots entries (λ packages.
    (bytes : List ℕ) × (text_of packages name ≡ Some bytes) × (most_module < length bytes))
HasMemberFault before after roots name entries (fault.Lex own found place) =
    (own ≡ name)
    × ((bytes : List ℕ) × HasText roots name entries bytes × (length bytes ≤ most_module)
    × RefusesBytes bytes found place)
HasMemberFault before after roots name entries (fault.Parse own found place) =
    (own ≡ name)
    × ((bytes : List ℕ) × HasText roots name entries bytes × (length bytes ≤ most_module)
    × RefusesWords bytes found place)
HasMemberFault before after roots name entries found = Fails before after found

-- what a name means in a module
abbrev pub IsMeant : List (List ℕ) → ModuleName → ModuleRef → List Entry → Option ModuleName → Type 0
IsMeant roots importer reference entries found =
    Surely roots entries (λ packages. found ≡ meant (has_file packages) importer reference)

-- what a name without a mark means in a package
abbrev pub IsBare : List (List ℕ) → List (List ℕ) → List (List ℕ) → List Entry → ModuleName → Type 0
IsBare roots folder parts entries name =
    Surely roots entries (λ packages. name ≡ bare (has_file packages) folder parts)

-- whether some root surely has the module's file
abbrev pub HasFile : List (List ℕ) → ModuleName → List Entry → Bool → Type 0
HasFile roots name entries has = Surely roots entries (λ packages. has ≡ has_file packages name)
