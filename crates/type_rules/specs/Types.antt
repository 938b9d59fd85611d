-- The types of symbols.
use Rattle.std.specs.Prelude.{ℕ, List, [], codes, if◌then◌else◌}
use Rattle.type_rules.specs.declared.ty.Ty.{Ty}
use Rattle.type_rules.specs.declared.ty.Shape.TheVariants.{One}
use Rattle.type_rules.specs.declared.ty.Arg.{Arg}
use Rattle.type_rules.specs.declared.symbol.Symbol.{Symbol}
use Rattle.type_rules.specs.declared.symbol.Symbol.TheVariants as symbol

-- the type of this name that is no array
abbrev pub plain : List ℕ → Ty
plain name = record { name = name; shape = One }

-- the type of what stands under the symbol
abbrev pub type_of : Symbol → Ty
type_of (symbol.Bool value) = plain (codes "bool")
type_of (symbol.Int value) = plain (codes "int")
type_of (symbol.Real text double) = plain (if double then codes "double" else codes "float")
type_of (symbol.Str text) = plain (codes "string")
type_of (symbol.EnumValue ty value) = plain ty
type_of (symbol.Param index ty uniform) = ty
type_of (symbol.Op name args result varying) = result

-- what the symbol takes: nothing, unless it is an operation
abbrev pub arguments_of : Symbol → List Arg
arguments_of (symbol.Op name args result varying) = args
arguments_of _ = []
