-- The derived equality of symbols is `same_symbol`, variant by variant.
use Rattle.std.proofs.Common.{refl, ◌≡◌, Bool, true, false, List, [], ◌∷◌, ◌&&◌, ◌∙◌, eqb}
use Rattle.std.specs.Cmp.Lexicographic.{pointwise}
use Rattle.std.specs.Str.{bytes_eq}
use Rattle.type_rules.specs.declared.ty.Ty.{Ty}
use Rattle.type_rules.specs.declared.ty.Shape.{Shape}
use Rattle.type_rules.specs.declared.ty.Shape.TheVariants.{One, Sized, AnySize}
use Rattle.type_rules.specs.declared.ty.Arg.{Arg}
use Rattle.type_rules.specs.declared.symbol.Symbol.{Symbol}
use Rattle.type_rules.specs.declared.symbol.Symbol.TheVariants as symbol
use Rattle.type_rules.specs.Same.{same_bool, same_shape, same_type, same_arg, same_symbol}
use Rattle.type_rules.specs.contracts.ty.ShapePartialEq.TheImpl as shape
use Rattle.type_rules.specs.contracts.ty.TyPartialEq.TheImpl as ty
use Rattle.type_rules.specs.contracts.ty.ArgPartialEq.TheImpl as arg
use Rattle.type_rules.specs.contracts.symbol.SymbolPartialEq.TheImpl as derived
use Rattle.std.specs.contracts.prelude.BoolPartialEq.TheImpl as bool
use Rattle.type_rules.proofs.symbol.Symbol.is_same.Goals as goal

bools : (a b : Bool) → (bool.ghosts).eq a b ≡ same_bool a b
bools true true = refl
bools true false = refl
bools false true = refl
bools false false = refl

shapes : (a b : Shape) → (shape.ghosts).eq a b ≡ same_shape a b
shapes One One = refl
shapes (Sized a) (Sized b) = refl
shapes AnySize AnySize = refl
shapes _ _ = refl

types : (a b : Ty) → (ty.ghosts).eq a b ≡ same_type a b
types a b = λ i. bytes_eq a.name b.name && shapes a.shape b.shape i

args : (a b : Arg) → (arg.ghosts).eq a b ≡ same_arg a b
args a b = λ i. types a.ty b.ty i && bools a.uniform b.uniform i

arg_lists : (xs ys : List Arg) → pointwise (arg.ghosts).eq xs ys ≡ pointwise same_arg xs ys
arg_lists [] [] = refl
arg_lists [] (y ∷ ys) = refl
arg_lists (x ∷ xs) [] = refl
arg_lists (x ∷ xs) (y ∷ ys) = λ i. args x y i && arg_lists xs ys i

symbols : (a b : Symbol) → (derived.ghosts).eq a b ≡ same_symbol a b
symbols (symbol.Bool a) (symbol.Bool b) = bools a b
symbols (symbol.Int a) (symbol.Int b) = refl
symbols (symbol.Real a d) (symbol.Real b e) = λ i. bytes_eq a b && bools d e i
symbols (symbol.Str a) (symbol.Str b) = refl
symbols (symbol.EnumValue t a) (symbol.EnumValue u b) = refl
symbols (symbol.Param k t u) (symbol.Param l v w) = λ i. eqb k l && (types t v i && bools u w i)
symbols (symbol.Op f xs r v) (symbol.Op g ys s w) =
    λ i. bytes_eq f g && (arg_lists xs ys i && (types r s i && bools v w i))
symbols _ _ = refl

pub returns : goal.returns
returns c = c.eq.ensures ∙ symbols c.args.self.now c.args.other.now
