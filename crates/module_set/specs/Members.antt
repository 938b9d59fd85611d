-- The modules of a set, each with its name, its text and its tree.
use Rattle.std.specs.Prelude.{ℕ, List, [], ◌∷◌}
use Rattle.mdl_syntax.specs.declared.modules.Module.{Module}
use Rattle.mdl_syntax.specs.Modules.{ModuleTree, module_of}
use Rattle.module_set.specs.declared.module_name.ModuleName.{ModuleName}
use Rattle.module_set.specs.declared.set.ModuleSet.{ModuleSet}

pub record Member : Type 0 where
  pub name : ModuleName
  pub text : List ℕ
  pub tree : ModuleTree

-- of three lists as many as all of them have
abbrev pub members_from : List ModuleName → List Module → List (List ℕ) → List Member
members_from [] modules texts = []
members_from (name ∷ names) [] texts = []
members_from (name ∷ names) (one ∷ modules) [] = []
members_from (name ∷ names) (one ∷ modules) (text ∷ texts) =
    record { name = name; text = text; tree = module_of one } ∷ members_from names modules texts

abbrev pub members_of : ModuleSet → List Member
members_of set = members_from set.names set.modules set.texts
