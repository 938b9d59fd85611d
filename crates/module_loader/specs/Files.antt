-- Where a module's text is found.
use Rattle.std.specs.Prelude.{ℕ, List, [], ◌∷◌, ◌++◌, Option, None, codes, is_some, Bool}
use Rattle.std.specs.List.{flat_map}
use Rattle.std.specs.Option.{option_or}
use Rattle.io_edge.specs.Source.{File, file_at}
use Rattle.module_set.specs.declared.module_name.ModuleName.{ModuleName}
use Rattle.module_loader.specs.Embedded.{embedded}

-- the roots under which modules are looked for, and the files
pub record Packages : Type 0 where
  pub roots : List (List ℕ)
  pub files : List File

-- the path of a module's file under a root
abbrev pub path_of : List ℕ → ModuleName → List ℕ
path_of root name = root ++ (flat_map (λ part. codes "/" ++ part) name.parts ++ codes ".mdl")

-- the bytes of a module's file under the first root that has it
abbrev pub file_under : List File → List (List ℕ) → ModuleName → Option (List ℕ)
file_under files [] name = None
file_under files (root ∷ roots) name =
    option_or (file_at files (path_of root name)) (file_under files roots name)

abbrev pub has_file : Packages → ModuleName → Bool
has_file packages name = is_some (file_under packages.files packages.roots name)

-- the text of a module: its file's, or else the embedded one
abbrev pub text_of : Packages → ModuleName → Option (List ℕ)
text_of packages name = option_or (file_under packages.files packages.roots name) (embedded name)

-- the longest text of a module, in bytes
abbrev pub most_module : ℕ
most_module = 4194304
