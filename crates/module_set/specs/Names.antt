-- Names of modules.
use Rattle.std.specs.Prelude.{ℕ, ◌-◌, ◌==◌, Bool, List, ◌++◌, codes, length, take}
use Rattle.std.specs.List.{flat_map}
use Rattle.std.specs.Cmp.Lexicographic.{pointwise}
use Rattle.module_set.specs.declared.module_name.ModuleName.{ModuleName}

abbrev pub same_name : ModuleName → ModuleName → Bool
same_name one other = pointwise (pointwise ◌==◌) one.parts other.parts

abbrev pub named : List (List ℕ) → ModuleName
named parts = record { parts = parts }

-- how a name is written: each component behind `::`
abbrev pub written_name : ModuleName → List ℕ
written_name name = flat_map (λ part. codes "::" ++ part) name.parts

-- the package that a module lies in: its name without the last component
abbrev pub package_of : ModuleName → List (List ℕ)
package_of name = take (length name.parts - 1) name.parts
