-- Equality of symbols and of terms, as tests.
use Rattle.std.specs.Prelude.{◌==◌, ◌&&◌, Bool, true, false, if◌then◌else◌}
use Rattle.std.specs.Str.{bytes_eq}
use Rattle.std.specs.Cmp.Lexicographic.{pointwise}
use Rattle.type_rules.specs.declared.ty.Ty.{Ty}
use Rattle.type_rules.specs.declared.ty.Shape.{Shape}
use Rattle.type_rules.specs.declared.ty.Shape.TheVariants.{One, Sized, AnySize}
use Rattle.type_rules.specs.declared.ty.Arg.{Arg}
use Rattle.type_rules.specs.declared.symbol.Symbol.{Symbol}
use Rattle.type_rules.specs.declared.symbol.Symbol.TheVariants as symbol
use Rattle.type_rules.specs.Terms.{Term, Terms, apply, nil, cons}

abbrev pub same_bool : Bool → Bool → Bool
same_bool a b = if a then b else (if b then false else true)

abbrev pub same_shape : Shape → Shape → Bool
same_shape One One = true
same_shape (Sized a) (Sized b) = a == b
same_shape AnySize AnySize = true
same_shape _ _ = false

abbrev pub same_type : Ty → Ty → Bool
same_type a b = bytes_eq a.name b.name && same_shape a.shape b.shape

abbrev pub same_arg : Arg → Arg → Bool
same_arg a b = same_type a.ty b.ty && same_bool a.uniform b.uniform

abbrev pub same_symbol : Symbol → Symbol → Bool
same_symbol (symbol.Bool a) (symbol.Bool b) = same_bool a b
same_symbol (symbol.Int a) (symbol.Int b) = a == b
same_symbol (symbol.Real a d) (symbol.Real b e) = bytes_eq a b && same_bool d e
same_symbol (symbol.Str a) (symbol.Str b) = bytes_eq a b
same_symbol (symbol.EnumValue t a) (symbol.EnumValue u b) = bytes_eq t u && bytes_eq a b
same_symbol (symbol.Param i t u) (symbol.Param j v w) = (i == j) && (same_type t v && same_bool u w)
same_symbol (symbol.Op f args r v) (symbol.Op g brgs s w) =
    bytes_eq f g && (pointwise same_arg args brgs && (same_type r s && same_bool v w))
same_symbol _ _ = false

abbrev mutual
  pub same_term : Term → Term → Bool
  same_term (apply a ts) (apply b us) = same_symbol a b && same_terms ts us

  pub same_terms : Terms → Terms → Bool
  same_terms nil nil = true
  same_terms (cons t ts) (cons u us) = same_term t u && same_terms ts us
  same_terms _ _ = false
