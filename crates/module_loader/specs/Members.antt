-- Modules with their texts and trees.
use Rattle.std.specs.Prelude.{◌≡◌, ℕ, ◌≤◌, List, Option, Some, length, is_none}
use Rattle.std.specs.List.{find}
use Rattle.mdl_lexer.specs.declared.token.Token.{Token}
use Rattle.mdl_lexer.specs.Lexes.{HasTokens}
use Rattle.mdl_syntax.specs.declared.imports.ModuleRef.{ModuleRef}
use Rattle.mdl_syntax.specs.Modules.{ModuleTree}
use Rattle.mdl_syntax.specs.Heights.{most_height}
use Rattle.module_grammar.specs.ModuleReadings.{IsModuleTree}
use Rattle.module_set.specs.declared.module_name.ModuleName.{ModuleName}
use Rattle.module_set.specs.Imports.{references, imports_of, meant}
use Rattle.module_set.specs.Members.{Member}
use Rattle.module_loader.specs.Files.{Packages, text_of, has_file, most_module}

-- the bytes are those of a module that is accepted
pub record IsModuleText (bytes : List ℕ) (tree : ModuleTree) : Type 0 where
  pub tokens : List Token
  pub has : HasTokens bytes tokens
  pub reads : IsModuleTree most_height tokens tree

-- the module of this name has this text, from which this tree is read
pub record IsMember (packages : Packages) (member : Member) : Type 0 where
  pub found : text_of packages member.name ≡ Some member.text
  pub short : length member.text ≤ most_module
  pub accepted : IsModuleText member.text member.tree

-- the modules that it imports, in order of place
abbrev pub imports : Packages → Member → List ModuleName
imports packages member = imports_of (has_file packages) member.name member.tree

-- the first import that goes up past the top
abbrev pub past_top : Packages → Member → Option ModuleRef
past_top packages member =
    find (λ reference. is_none (meant (has_file packages) member.name reference)) (references member.tree)
