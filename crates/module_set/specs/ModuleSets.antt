-- What a set of modules has to be.
use Rattle.std.specs.Prelude.{◌≡◌, ℕ, Bool, true, List, Some, length, map}
use Rattle.std.specs.List.{AllByRecursion, list_any}
use Rattle.case_table.specs.Lists.{firsts, place_of}
use Rattle.mdl_lexer.specs.declared.token.Token.{Token}
use Rattle.mdl_lexer.specs.Lexes.{HasTokens}
use Rattle.mdl_syntax.specs.declared.imports.ModuleRef.{ModuleRef}
use Rattle.mdl_syntax.specs.Modules.{ModuleTree}
use Rattle.mdl_syntax.specs.WrittenModules.{write_module}
use Rattle.mdl_syntax.specs.PlacedModules.{placed_module}
use Rattle.mdl_syntax.specs.AcceptedModules.{IsAccepted}
use Rattle.mdl_syntax.specs.Heights.{most_height}
use Rattle.module_set.specs.declared.module_name.ModuleName.{ModuleName}
use Rattle.module_set.specs.declared.set.ModuleSet.{ModuleSet}
use Rattle.module_set.specs.Names.{same_name}
use Rattle.module_set.specs.Imports.{references, meant, imports_of}
use Rattle.module_set.specs.Cycles.{HasNoCycle}
use Rattle.module_set.specs.Members.{Member, members_of}

-- the tree is accepted, its words are those of the text, and its places are theirs
pub record IsRead (text : List ℕ) (tree : ModuleTree) : Type 0 where
  pub tokens : List Token
  pub has : HasTokens text tokens
  pub writes : write_module tree ≡ map (λ (token : Token). token.kind) tokens
  pub places : placed_module tree tokens ≡ tree
  pub accepted : IsAccepted most_height tree

abbrev pub is_among : List ModuleName → ModuleName → Bool
is_among names name = list_any (same_name name) names

-- what stands in an import names a module of the set, where a name without a mark means the sibling if that is one
abbrev pub NamesMember : List ModuleName → ModuleName → ModuleRef → Type 0
NamesMember names importer reference =
    (name : ModuleName) × (meant (is_among names) importer reference ≡ Some name) × (is_among names name ≡ true)

-- which modules import which, by their indices
abbrev pub import_links : List ModuleName → List Member → List (List ℕ)
import_links names members = map (λ (member : Member).
    map (λ name. place_of same_name name names) (imports_of (is_among names) member.name member.tree)) members

-- the lists are as long as each other, names differ, each text is read as its tree, imports stay in the set, and no
-- import path leads from a module to itself
pub record IsModuleSet (set : ModuleSet) : Type 0 where
  pub whole : (length set.modules ≡ length set.names) × (length set.texts ≡ length set.names)
  pub apart : firsts same_name set.names ≡ set.names
  pub read : AllByRecursion (λ (member : Member). IsRead member.text member.tree) (members_of set)
  pub inside : AllByRecursion (λ (member : Member).
      AllByRecursion (NamesMember set.names member.name) (references member.tree)) (members_of set)
  pub acyclic : HasNoCycle (import_links set.names (members_of set))
