-- Texts of modules that are loaded.
use Rattle.std.proofs.Common.{◌≡◌, ℕ, ◌<◌, List, ap, length, Some, is_some, true, sym}
use Rattle.std.specs.Option.{option_or}
use Rattle.module_set.specs.declared.module_name.ModuleName.{ModuleName}
use Rattle.module_loader.specs.declared.files.Located.TheVariants as located
use Rattle.module_loader.specs.Embedded.{embedded}
use Rattle.module_loader.specs.Files.{text_of, most_module}
use Rattle.module_loader.specs.inside.Contents.{Entry}
use Rattle.module_loader.specs.inside.Locating.{IsLocated}
use Rattle.module_loader.specs.inside.Loading.{Surely, HasFile}

-- a file that is too long is the module's text
pub long-text : (roots : List (List ℕ)) (name : ModuleName) (entries : List Entry) →
    IsLocated roots name entries located.TooLong → Surely roots entries (λ packages.
    (bytes : List ℕ) × (text_of packages name ≡ Some bytes) × (most_module < length bytes))
long-text roots name entries long files agree =
    let found = long files agree in
    (found.0, ap (λ file. option_or file (embedded name)) found.1, found.2)

-- a file that is too long is a file
pub long-has : (roots : List (List ℕ)) (name : ModuleName) (entries : List Entry) →
    IsLocated roots name entries located.TooLong → HasFile roots name entries true
long-has roots name entries long files agree = sym (ap is_some (long files agree).1)
