-- The texts of types and symbols in a graph text.
use Rattle.std.specs.Prelude.{ℕ, ◌/◌, ◌%◌, ◌==◌, ◌||◌, ◌&&◌, not, nat_lt, nat_eq, Bool, false}
use Rattle.std.specs.Prelude.{List, [], ◌∷◌, ◌++◌, codes, decimal, if◌then◌else◌}
use Rattle.std.specs.List.{flat_map, starts_with}
use Rattle.std.specs.Str.{bytes_eq}
use Rattle.std.specs.Fmt.{digit_glyph}
use Rattle.type_rules.specs.declared.ty.Ty.{Ty}
use Rattle.type_rules.specs.declared.ty.Shape.{Shape}
use Rattle.type_rules.specs.declared.ty.Shape.TheVariants.{One, Sized, AnySize}
use Rattle.type_rules.specs.declared.ty.Arg.{Arg}
use Rattle.type_rules.specs.declared.symbol.Symbol.{Symbol}
use Rattle.type_rules.specs.declared.symbol.Symbol.TheVariants as symbol

-- an array's size, behind the name of its elements' type
abbrev pub size_text : Shape → List ℕ
size_text One = []
size_text (Sized size) = codes "[" ++ (decimal size ++ codes "]")
size_text AnySize = codes "[<n>]"

abbrev pub type_text : Ty → List ℕ
type_text ty = ty.name ++ size_text ty.shape

-- an argument's type, behind a mark where its parameter is uniform
abbrev pub arg_text : Arg → List ℕ
arg_text arg = (if arg.uniform then codes "!" else []) ++ type_text arg.ty

-- arguments' types, with commas between them
abbrev pub args_text : List Arg → List ℕ
args_text [] = []
args_text (arg ∷ args) = arg_text arg ++ flat_map (λ next. codes "," ++ arg_text next) args

-- a byte of a string as it stands between quotes
abbrev pub escaped : ℕ → List ℕ
escaped byte =
    if byte == 34 || byte == 92 then 92 ∷ byte ∷ []
    else (if byte == 10 then codes "\\n"
    else (if nat_lt byte 32 || byte == 127
    then codes "\\x" ++ (digit_glyph false (byte / 16) ∷ digit_glyph false (byte % 16) ∷ [])
    else byte ∷ []))

-- the result is written where the name alone doesn't tell it: behind a field, and behind an
-- intrinsic, which has an absolute name other than its result's, or is `state_normal`
abbrev pub tells_result : List ℕ → Ty → Bool
tells_result name result =
    starts_with nat_eq name (codes ".") || bytes_eq name (codes "state_normal")
    || (starts_with nat_eq name (codes "::") && not (bytes_eq name (type_text result)))

-- a result's type, behind a mark where the operation is varying
abbrev pub result_text : Ty → Bool → List ℕ
result_text result varying = codes ":" ++ ((if varying then codes "~" else []) ++ type_text result)

abbrev pub op_text : List ℕ → List Arg → Ty → Bool → List ℕ
op_text name args result varying =
    name ++ (codes "(" ++ (args_text args ++ (codes ")" ++
    (if tells_result name result then result_text result varying else []))))

abbrev pub symbol_text : Symbol → List ℕ
symbol_text (symbol.Bool value) = codes "bool " ++ (if value then codes "true" else codes "false")
symbol_text (symbol.Int value) = codes "int " ++ decimal value
symbol_text (symbol.Real text double) = (if double then codes "double " else codes "float ") ++ text
symbol_text (symbol.Str text) = codes "string \"" ++ (flat_map escaped text ++ codes "\"")
symbol_text (symbol.EnumValue ty value) = codes "enum " ++ (ty ++ (codes " " ++ value))
symbol_text (symbol.Param index ty uniform) = codes "param " ++ decimal index
symbol_text (symbol.Op name args result varying) = op_text name args result varying
